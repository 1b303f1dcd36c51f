pub mod Underway
pub mod Reading
pub mod Filling
pub mod Passing
