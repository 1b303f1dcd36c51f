use Rattle.std.proofs.Common.{◌≡◌, ℕ, ◌+◌, ◌<◌, ◌≤◌, max, get_or}
use Rattle.seg_hyphens.proofs.values.raise.Given as goal

abbrev pub invariant-loop-offset : goal.invariant-loop-offset
invariant-loop-offset l = record {
  done : (k : ℕ) → k < l.offset → get_or l.values (l.start + k) 0 ≡ max (get_or l.initial.values (l.start + k) 0) (get_or l.digits k 0);
  left : (k : ℕ) → l.offset ≤ k → get_or l.values (l.start + k) 0 ≡ get_or l.initial.values (l.start + k) 0;
  before : (k : ℕ) → k < l.start → get_or l.values k 0 ≡ get_or l.initial.values k 0;
}
