use Rattle.std.proofs.Common.{◌≡◌, ℕ, ◌+◌, ◌*◌, ◌<◌, get_or}
use Rattle.seg_machine.proofs.provider.found.has_no_mark.Given as goal

-- the first words of the set are 0
abbrev pub invariant-loop-word : goal.invariant-loop-word
invariant-loop-word l = (k : ℕ) → k < l.word → get_or l.marks (l.kept * 4 + k) 0 ≡ 0
