pub mod FoldedSteps
pub mod LeftLines
pub mod OutputSteps
pub mod PastNames
pub mod Walks
