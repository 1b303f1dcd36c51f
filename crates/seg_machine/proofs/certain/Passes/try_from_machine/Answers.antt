use Rattle.std.proofs.Common.{arith}
use Rattle.seg_machine.proofs.Passes.{no-rows, passes-found, rows-more}
use Rattle.seg_machine.proofs.certain.Passes.try_from_machine.Goals as goal

pub loop-before-init : goal.loop-before-init
loop-before-init c = rw c.new-masks.ensures.items (no-rows _)

pub loop-before-preserved : goal.loop-before-preserved
loop-before-preserved c = rows-more _ _ _ _ c.loop-before.invariant (c.in_ok-push_masks.ensures)

pub returns : goal.returns
returns c = passes-found _ _ _ _ c.loop-before.invariant (omega (arith, c.loop-before-test.false, c.loop-before.auto.before-end, c.symbols_in-symbols.ensures)) c.symbols_in-symbols.ensures (omega (arith, c.if-symbols-gt-MOST_SYMBOLS.false, c.symbols_in-symbols.ensures))
