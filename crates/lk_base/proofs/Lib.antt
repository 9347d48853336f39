pub mod Decimals
pub mod EscapedNames
pub mod Loops
pub mod Membership
pub mod Multiples
pub mod Ranges
pub mod ShownBytes
pub mod StableOrder
mod TableByNumber
pub mod TableLines
pub mod StableElements
pub mod NoneGiven
