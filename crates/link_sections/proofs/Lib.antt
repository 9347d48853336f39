pub mod BoundStays
pub mod CutRows
pub mod CutSums
pub mod Folded
pub mod GotSteps
pub mod MergedAt
mod NoCuts
pub mod OwnLeaders
pub mod PastSections
mod PastSymbols
pub mod PoolHeads
pub mod PoolPositions
pub mod SameTargets
pub mod SymbolSums
