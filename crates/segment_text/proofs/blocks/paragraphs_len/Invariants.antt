-- A line feed stands at the end.
use Rattle.std.specs.Prelude.{◌≡◌, ◌<◌, ◌==◌, true, length, slice_index}
use Rattle.segment_text.proofs.blocks.paragraphs_len.Given as goal

abbrev pub invariant-lines : goal.invariant-lines
invariant-lines l = (l.end < length l.block) × ((slice_index l.block l.end == 0x0A) ≡ true)

abbrev pub decreases-lines : goal.decreases-lines
decreases-lines l = l.end
