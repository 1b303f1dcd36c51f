use Rattle.std.proofs.Common.{◌≡◌, length}
use Rattle.seg_line_pairs.specs.LineEvents.{places_before}
use Rattle.seg_line_pairs.proofs.inside_cuts.InsideCuts.next_inside.Given as goal

abbrev pub invariant-loop-place : goal.invariant-loop-place
invariant-loop-place g l = record { left : places_before l.self-inside.end l.self-inside.cuts ≡ l.fn.self }

abbrev pub decreases-loop-place : goal.decreases-loop-place
decreases-loop-place g l = length l.self-inside.cuts
