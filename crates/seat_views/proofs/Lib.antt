pub mod EachViews
pub mod Joining
pub mod Places
pub mod SomeViews
pub mod Totals
pub mod Wholes
