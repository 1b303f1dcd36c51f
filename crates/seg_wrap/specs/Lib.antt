pub mod Wrapping
pub mod Walk
pub mod WrappedLines
pub mod Paragraphs
pub mod Pieces
