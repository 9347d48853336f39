pub mod FileSteps
pub mod ReadSteps
pub mod StreamSteps
