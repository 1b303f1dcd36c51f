use Rattle.std.proofs.Common.{ℕ, ◌<◌}
use Rattle.std.specs.Prelude.{IfSome}
use Rattle.seg_machine.specs.Machine.{step}
use Rattle.seg_machine.specs.Tailored.{machine_of}
use Rattle.seg_machine.specs.Certain.{StopsBetween}
use Rattle.seg_machine.proofs.certain.is_certain_by_steps.Given as goal

-- no scan that read the first symbol in a state so far passes
abbrev pub invariant-loop-state : goal.invariant-loop-state
invariant-loop-state l =
    (earlier : ℕ) → earlier < l.state → IfSome (step (machine_of l.fn.machine) earlier l.fn.before) (λ next. StopsBetween (machine_of l.fn.machine) next l.fn.one l.fn.other)
