pub mod Extents
pub mod Noted
pub mod Prevailing
pub mod Sources
