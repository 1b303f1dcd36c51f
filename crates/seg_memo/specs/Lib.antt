pub mod Configurations
pub mod Grids
pub mod Memos
