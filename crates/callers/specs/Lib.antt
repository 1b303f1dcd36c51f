pub mod Changed
pub mod Spaces
pub mod Highlights
pub mod Fields
pub mod LineEnds
pub mod LookUps
pub mod Blocks
