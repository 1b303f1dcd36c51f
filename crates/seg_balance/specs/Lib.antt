pub mod Balanced
pub mod Choice
