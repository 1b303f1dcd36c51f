use Rattle.std.proofs.Common.{◌≡◌, ℕ, ◌<◌}
use Rattle.std.specs.Option.{option_map}
use Rattle.seg_data.specs.declared.provider.ComplexScript.TheVariants.{None as NoScript}
use Rattle.seg_machine.specs.Machine.{symbol_and_script, with_parts}
use Rattle.seg_machine.proofs.tailored_machine.has_complex_below_0100.Given as goal

abbrev pub invariant-loop-code_point : goal.invariant-loop-code_point
invariant-loop-code_point l =
    (below : ℕ) → below < l.code_point
    → (symbol_and_script (with_parts l.machine l.pseudo_symbol_map (option_map (λ t. t.now) l.replacing)) below).1 ≡ NoScript
