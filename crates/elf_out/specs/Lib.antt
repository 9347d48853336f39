pub mod Symbols
pub mod Headers
pub mod Executable
pub mod Ends
pub mod Prepared
pub mod Standing
pub mod TablesView
