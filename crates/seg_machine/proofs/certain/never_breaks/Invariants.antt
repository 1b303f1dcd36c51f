use Rattle.std.proofs.Common.{ℕ, ◌<◌}
use Rattle.std.specs.Prelude.{IfSome}
use Rattle.seg_machine.specs.Machine.{step}
use Rattle.seg_machine.specs.Tailored.{machine_of}
use Rattle.seg_machine.specs.Certain.{GoesOnBy}
use Rattle.seg_machine.proofs.certain.never_breaks.Given as goal

-- each scan that read the one symbol in a state so far goes on
abbrev pub invariant-loop-state : goal.invariant-loop-state
invariant-loop-state l =
    (earlier : ℕ) → earlier < l.state → IfSome (step (machine_of l.fn.machine) earlier l.fn.one) (λ next. GoesOnBy (machine_of l.fn.machine) next l.fn.other)
