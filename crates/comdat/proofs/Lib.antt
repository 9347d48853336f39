pub mod Beaten
pub mod FewGroups
pub mod FirstStays
pub mod GroupLists
pub mod Marking
pub mod Members
pub mod Rising
pub mod Sections
