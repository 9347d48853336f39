pub mod Columns
pub mod Keys
pub mod Marks
pub mod Placed
pub mod Spans
pub mod Texts
