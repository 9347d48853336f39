pub mod MapText
pub mod MapView
pub mod Folded
pub mod Left
