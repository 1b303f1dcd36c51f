use Rattle.std.proofs.Common.{ℕ, ◌<◌}
use Rattle.std.specs.Prelude.{slice_index_or}
use Rattle.seg_machine.specs.Certain.{GoesOnBy}
use Rattle.seg_machine.specs.Tailored.{machine_of}
use Rattle.seg_machine.proofs.certain.all_go_on.Given as goal

-- the first states go on
abbrev pub invariant-loop-place : goal.invariant-loop-place
invariant-loop-place l = (earlier : ℕ) → earlier < l.place → GoesOnBy (machine_of l.machine) (slice_index_or l.states earlier 0) l.symbol
