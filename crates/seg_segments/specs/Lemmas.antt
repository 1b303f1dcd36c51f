-- Lemmas that the laws of impls need. They state nothing new.
pub mod Rests
