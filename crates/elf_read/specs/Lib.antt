pub mod Groups
pub mod Magic
pub mod Names
pub mod RelaSections
pub mod Relocations
