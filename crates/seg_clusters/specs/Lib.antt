pub mod Rules
pub mod Certain
pub mod Clusters
pub mod Scripts
pub mod DictionaryCuts
pub mod Payloads
pub mod Spans
