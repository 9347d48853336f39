pub mod Cutting
pub mod CutsSoFar
pub mod Walk
pub mod Layout
pub mod Spots
pub mod Holding
