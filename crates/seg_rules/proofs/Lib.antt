pub mod Passing
pub mod Numbers
pub mod Planned
pub mod Related
pub mod Claims
pub mod Moves
pub mod Bits
mod Truths
mod TableLemmas
mod StepLemmas
mod Soundness
mod Scans
mod Engine
pub mod Law
pub mod Adequacy
pub mod Verdicts
mod Plans
mod Reader
mod Examples
