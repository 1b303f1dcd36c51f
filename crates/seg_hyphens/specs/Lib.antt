pub mod Characters
pub mod Liang
pub mod Patterns
pub mod Reading
pub mod Texts
pub mod Tries
pub mod Values
pub mod Words
