pub mod Faultless
pub mod Scripts
pub mod PairFaults
pub mod WordFaults
pub mod Rows
pub mod LineFaults
pub mod TurnFaults
