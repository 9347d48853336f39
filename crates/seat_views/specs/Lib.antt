pub mod Shares
pub mod Views
