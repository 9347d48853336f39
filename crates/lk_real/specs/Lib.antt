pub mod Reading
pub mod RealFiles
pub mod RealStream
