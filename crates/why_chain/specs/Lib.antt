pub mod Aparts
pub mod Meetings
pub mod ShortLists
pub mod Visits
pub mod Walks
