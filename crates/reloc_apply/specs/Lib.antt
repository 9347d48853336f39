pub mod Image
pub mod PieceView
pub mod Staying
pub mod Values
pub mod Relocated
pub mod Sites
pub mod Founds
pub mod Standing
