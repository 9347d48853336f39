pub mod Claims
pub mod Live
pub mod Order
pub mod Pulls
pub mod Visits
