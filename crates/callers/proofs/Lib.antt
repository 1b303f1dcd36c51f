pub mod Filled
mod Reached
pub mod Blocks
