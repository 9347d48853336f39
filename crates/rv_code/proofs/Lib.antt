pub mod BitRuns
pub mod WholePlaces
pub mod ReadingBack
pub mod Going
pub mod JumpWords
pub mod UlebNumbers
pub mod NopWords
