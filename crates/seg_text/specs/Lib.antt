pub mod Items
pub mod Decoding
pub mod Boundaries
pub mod Filled
pub mod Lemmas
