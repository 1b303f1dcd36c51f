use Rattle.std.proofs.Common.{ℕ, ◌<◌, refl, arith, ◌∙◌}
use Rattle.seg_machine.specs.Machine.{replaced}
use Rattle.seg_machine.proofs.tailored_machine.TailoredMachineBorrowed.from_parts.Goals as goal
use Rattle.seg_machine.proofs.tailored_machine.TailoredMachineBorrowed.from_parts.Goals.{in-Some, in-None}

pub invariant_of-result : goal.invariant_of-result
unfolding replaced
invariant_of-result c = record {
  text_symbols = c.requires.symbols;
  plain =
      elim c.match-replacing.branch [
        | in-Some w ↦ λ value less. absurd (nothing value (rw w.plain_below-is at less))
        | in-None w ↦ λ value less. (rw (w.plain_below-is ∙ w.pseudo_symbol_shift-plain_below.ensures) at less, rw w.in-None.is refl)
      ];
  rows_stand = c.requires.rows;
}
  where
    nothing : (value : ℕ) → value < 0 → ⊥
    nothing value less = omega arith
