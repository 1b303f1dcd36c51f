pub mod Lines
pub mod Scanning
pub mod Sets
pub mod Texts
