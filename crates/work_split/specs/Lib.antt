pub mod Pieces
pub mod Shares
pub mod Tasks
pub mod Runs
