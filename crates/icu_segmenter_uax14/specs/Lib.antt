pub mod Characters
pub mod LineClasses
pub mod LineRules
pub mod LineValues
pub mod Lines
pub mod Neighbours
pub mod Tailored
