pub mod Unicode
pub mod Words
