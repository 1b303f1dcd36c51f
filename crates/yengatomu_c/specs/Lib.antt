pub mod Owned
pub mod Versions
pub mod Held
pub mod Lent
