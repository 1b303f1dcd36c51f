-- No byte so far is escaped.
use Rattle.std.proofs.Common.{◌≤◌, ◌-◌, length}
use Rattle.segment_text.specs.Bare.{AreAllBare}
use Rattle.segment_text.proofs.bare.bare_runs_len.Given as goal

abbrev pub invariant-loop-len : goal.invariant-loop-len
invariant-loop-len l = (l.len ≤ length l.text) × AreAllBare l.text 0 l.len

abbrev pub decreases-loop-len : goal.decreases-loop-len
decreases-loop-len l = length l.text - l.len
