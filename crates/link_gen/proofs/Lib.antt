pub mod CalledObjects
pub mod HeaderWalk
pub mod Lengths
pub mod NamedSymbols
pub mod Whole
