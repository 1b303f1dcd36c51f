pub mod Options
pub mod Lines
pub mod LineBreaks
pub mod Between
