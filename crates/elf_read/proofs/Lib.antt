pub mod GroupLists
pub mod LastNames
pub mod Overlaps
pub mod PairWalks
pub mod RelocLists
pub mod ZeroEnded
