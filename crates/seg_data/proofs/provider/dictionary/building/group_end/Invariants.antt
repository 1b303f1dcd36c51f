use Rattle.std.proofs.Common.{◌≡◌, ℕ, ◌-◌, ◌<◌, ◌≤◌}
use Rattle.seg_data.specs.Building.{letter}
use Rattle.seg_data.specs.WordSets.{held}
use Rattle.seg_data.proofs.provider.dictionary.building.group_end.Given as goal

-- the words up to here have the first one's code point
abbrev pub invariant-loop-next : goal.invariant-loop-next
invariant-loop-next l = record {
  more : l.first < l.next;
  within : l.next ≤ l.end;
  same : (k : ℕ) → l.first ≤ k → k < l.next → letter (held l.words) l.depth k ≡ letter (held l.words) l.depth l.first;
}

abbrev pub decreases-loop-next : goal.decreases-loop-next
decreases-loop-next l = l.end - l.next
