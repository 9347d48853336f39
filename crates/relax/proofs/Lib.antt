pub mod BandParts
pub mod BandSteps
pub mod CutParts
pub mod CutSteps
pub mod Fitting
mod Hints
mod LeastSizes
mod NoCalls
mod Places
pub mod PointSteps
pub mod RowFacts
mod RunSteps
mod SafeSizes
mod UnrelaxedParts
