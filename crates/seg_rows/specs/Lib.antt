pub mod Given
pub mod Underway
