pub mod Asks
pub mod Claims
pub mod Law
pub mod NamedOffers
pub mod NamedSections
pub mod StrongPairs
pub mod Symbols
pub mod Unbound
