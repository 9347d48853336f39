pub mod Closings
pub mod Keeps
mod Reached
pub mod Reaching
mod Rooted
mod Rounds
mod Searching
pub mod Sitting
mod Stolen
mod Visiting
pub mod Wins
