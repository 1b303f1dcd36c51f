pub mod Language
pub mod Table
pub mod Faults
pub mod Lemmas
pub mod WordSets
pub mod ScriptWords
pub mod Trie
pub mod Building
