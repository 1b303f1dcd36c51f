pub mod Command
pub mod Failure
pub mod Lines
pub mod Wrapped
pub mod Request
