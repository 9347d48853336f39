pub mod Closing
pub mod FoldKept
pub mod FoldOrder
pub mod FoundRecords
pub mod FrameEnds
pub mod FramePushes
pub mod Joining
pub mod Listing
pub mod ListParts
pub mod NamedLists
pub mod Needing
pub mod Runs
pub mod Standing
pub mod Unbound
pub mod WalkClosing
pub mod Within
pub mod Marking
mod TakenKept
