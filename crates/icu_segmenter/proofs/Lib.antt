-- Lemmas for callers, passed up from the crate that needs them first.
pub use Rattle.seg_segments.proofs.Callers
pub use Rattle.seg_segments.proofs.Given
pub use Rattle.seg_text.proofs.Filling
