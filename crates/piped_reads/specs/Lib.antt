pub mod Loads
pub mod Readings
pub mod Rule
pub mod Stops
