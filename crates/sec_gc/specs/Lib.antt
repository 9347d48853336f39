pub mod Closing
pub mod Kept
pub mod Marks
pub mod Roots
pub mod Rule
pub mod Workers
pub mod Visits
