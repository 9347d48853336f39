pub mod Items
pub mod ItemViews
pub mod Order
pub mod Heads
pub mod HeadLaw
pub mod Present
