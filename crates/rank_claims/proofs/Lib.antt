pub mod Claimed
pub mod Ends
pub mod Keeps
pub mod Rows
pub mod Sitting
