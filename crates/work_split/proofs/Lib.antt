pub mod Cutting
pub mod Jobs
pub mod Sharing
pub mod Tiling
pub mod Weighing
pub mod RunsJoined
pub mod RunsBeside
pub mod ListedRuns
