use Rattle.std.proofs.Common.{◌≡◌, ◌<◌, ℕ}
use Rattle.seg_data.specs.declared.provider.ComplexScript.TheVariants.{None as NoScript}
use Rattle.seg_machine.specs.Machine.{symbol_and_script}
use Rattle.seg_machine.specs.Tailored.{machine_of}
use Rattle.seg_machine.proofs.dense_rows.is_ascii_plain.Given as goal

-- no character up to here has a script
abbrev pub invariant-loop-code_point : goal.invariant-loop-code_point
invariant-loop-code_point l = (code_point : ℕ) → code_point < l.code_point → (symbol_and_script (machine_of l.machine) code_point).1 ≡ NoScript
