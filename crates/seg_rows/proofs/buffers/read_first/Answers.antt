use Rattle.std.proofs.Common.{sym, ap, ◌∙◌}
use Rattle.seg_rows.proofs.Reading.{item-ahead, some-items}
use Rattle.seg_rows.proofs.Underway.{begins, begins-some, underway-same}
use Rattle.seg_rows.proofs.buffers.read_first.Goals as goal

pub unreachable-requires : goal.unreachable-requires
unreachable-requires g c =
    begins-some _ _ _ _ c.facts.ensures
    (item-ahead _ _ _ _ _ c.facts.ensures c.in-Some.ensures.gives c.in-Some.ensures.end c.symbol-symbol.ensures.value)
    (some-items _ _ _ c.in-Some.ensures.gives) (sym c.next_state.ensures.value ∙ c.in_default-next_state.is)

pub returns-clause-ahead : goal.returns-clause-ahead
returns-clause-ahead g c = λ some.
    underway-same _ (g.I.Cursor.text c.fork-after.result) _ _ _ (ap g.I.Cursor.text c.fork-after.ensures)
    (begins _ _ _ _ _ c.facts.ensures
    (item-ahead _ _ _ _ _ c.facts.ensures c.in-Some.ensures.gives c.in-Some.ensures.end c.symbol-symbol.ensures.value)
    (sym c.next_state.ensures.value ∙ c.in-Some-next_state.is) c.in-Some-next_state.ensures.state)
