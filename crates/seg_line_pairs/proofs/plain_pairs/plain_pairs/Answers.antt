use Rattle.std.proofs.Common.{sym, ap, ◌∙◌}
use Rattle.seg_line_pairs.specs.LineBoundaries.{rules_by}
use Rattle.seg_line_pairs.proofs.PassedPairs.{passed-break, passed-go}
use Rattle.seg_line_pairs.proofs.plain_pairs.plain_pairs.Goals as goal

pub returns-in-Break : goal.returns-in-Break
returns-in-Break g c =
    let rules = rules_by c.args.pairs in
    rw c.pairs_passed-in-Break.ensures (passed-break rules (g.E.PairEngine.plain rules.table) c.loop-place.next _ (g.I.Cursor.text c.loop-place.rest) _
    (record { below = c.strict_class.ensures.below; is = c.strict_class.ensures.value }) (ap (λ i. (g.I.Cursor.text i).items) (sym c.fork-after.ensures) ∙ c.in-Some.ensures.gives)
    (c.in-Some.ensures.end ∙ ap (λ i. (g.I.Cursor.text i).end) c.fork-after.ensures) c.args.first (g.I.Cursor.text c.args.rest) c.loop-place.invariant.passed
    (rw (← c.table.ensures.value) (sym c.in-Break.is ∙ c.plain_pair.ensures)))

pub loop-place-preserved : goal.loop-place-preserved
loop-place-preserved g c = record {
  passed =
      passed-go (rules_by c.args.pairs) (g.E.PairEngine.plain (rules_by c.args.pairs).table) c.loop-place.next _ (g.I.Cursor.text c.loop-place.rest) _
      (record { below = c.strict_class.ensures.below; is = c.strict_class.ensures.value }) (ap (λ i. (g.I.Cursor.text i).items) (sym c.fork-after.ensures) ∙ c.in-Some.ensures.gives)
      (c.in-Some.ensures.end ∙ ap (λ i. (g.I.Cursor.text i).end) c.fork-after.ensures) c.args.first (g.I.Cursor.text c.args.rest) c.loop-place.invariant.passed
      (rw (← c.table.ensures.value) (sym c.in-Go.is ∙ c.plain_pair.ensures));
}
