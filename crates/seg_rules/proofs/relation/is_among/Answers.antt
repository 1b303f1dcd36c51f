use Rattle.std.proofs.Common.{◌+◌, ◌-◌, ◌/◌, false, arith, sym, ◌∙◌}
use Rattle.seg_rules.proofs.Related.{among-at}
use Rattle.seg_rules.proofs.relation.is_among.Goals as goal

pub returns-then-is_same : goal.returns-then-is_same
returns-then-is_same c = λ yes.
    among-at c.args.c c.args.group.now (c.loop-low.low + (c.loop-low.high - c.loop-low.low) / 2)
    (record { before = 0; doubt = 0; older = 0; newest = false; last = 0; status = 0; named = 0 }) (omega arith) (sym c.is_same.ensures ∙ c.if-is_same.true)
