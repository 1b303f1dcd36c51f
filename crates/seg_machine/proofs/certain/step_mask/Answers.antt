use Rattle.std.proofs.Common.{sym, ◌∙◌, arith}
use Rattle.seg_data.proofs.Options.{none-of}
use Rattle.seg_data.proofs.Options.{some-of}
use Rattle.seg_machine.proofs.Passes.{no-steps, step-with, step-without}
use Rattle.seg_machine.proofs.certain.step_mask.Goals as goal
use Rattle.seg_machine.proofs.certain.step_mask.Goals.{then-is_some, else-is_some}

pub loop-symbol-init : goal.loop-symbol-init
loop-symbol-init c = no-steps _ _

pub loop-symbol-preserved : goal.loop-symbol-preserved
loop-symbol-preserved c =
    elim c.if-is_some.branch [
      | then-is_some w ↦
          let (next, is) = some-of _ (sym c.is_some.ensures ∙ w.if-is_some.true) in
          rw w.mask-is (step-with _ _ _ _ next c.loop-symbol.invariant (sym c.next_state.ensures.value ∙ is) (omega (arith, c.loop-symbol-test.true, c.symbols_in-symbol-end.ensures, c.requires.few)))
      | else-is_some w ↦ rw w.mask-is (step-without _ _ _ _ c.loop-symbol.invariant (sym c.next_state.ensures.value ∙ none-of _ (sym c.is_some.ensures ∙ w.if-is_some.false)))
    ]

pub returns : goal.returns
returns c = λ symbol within. c.loop-symbol.invariant.stand symbol (omega (arith, within, c.loop-symbol-test.false))
