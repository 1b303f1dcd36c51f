-- Lemmas that the laws of impls need. They state nothing new.
pub mod Readers
pub mod Rising
pub mod Latin1Stable
pub mod Utf8Stable
pub mod Utf16Stable
pub mod Encodings
pub mod Encoded
