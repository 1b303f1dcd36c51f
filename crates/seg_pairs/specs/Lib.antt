pub mod PairTable
pub mod PairData
pub mod Lemmas
pub mod Elements
pub mod Walk
pub mod Verdict
pub mod Breaks
pub mod Rows
