-- So many places were put later.
use Rattle.std.proofs.Common.{◌≡◌, ◌+◌, ℕ}
use Rattle.yengatomu_segmenter.proofs.Later.{put_up_to}
use Rattle.yengatomu_segmenter.proofs.buffers.put_later.Given as goal

abbrev pub invariant-loop-index : goal.invariant-loop-index
invariant-loop-index l = l.places ≡ put_up_to (λ (place : ℕ). l.from + place) l.initial.places l.index
