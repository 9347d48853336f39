pub mod Comdats
pub mod Discarded
pub mod Law
pub mod Marks
pub mod Signatures
