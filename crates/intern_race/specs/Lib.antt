pub mod Hash
pub mod Interning
pub mod Rule
pub mod Slots
pub mod Texts
pub mod Visits
