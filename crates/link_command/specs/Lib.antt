pub mod Grammar
pub mod Command
