pub mod Instructions
pub mod Parts
pub mod Places
pub mod Transfers
pub mod Uleb
