use Rattle.std.proofs.Common.{ℕ, ap, subst, sym, ◌∙◌}
use Rattle.seg_text.specs.Items.{start_of}
use Rattle.seg_memo.specs.Grids.{IsKeptSymbol}
use Rattle.seg_memo.proofs.Reading.{seeks, sought}
use Rattle.seg_memo.proofs.Cells.{items-fit}
use Rattle.seg_memo.proofs.search.Scanner.next_segment.Goals as goal

pub seek-requires : goal.seek-requires
seek-requires g c = (_, c.scan_any-stood.ensures.ended.stands ∙ ap start_of (sym (sought g.source.whole _ c.args.left.now.place _ c.requires.1.1.1.0.rest c.scan_any-stood.ensures.ended.scanned.past)))

pub read_first-requires : goal.read_first-requires
read_first-requires g c κs within =
    let memo = c.scan_any-stood.ensures.ended.scanned.memo in
    let rest = seeks g.source.whole _ _ c.args.left.now.place _ _ c.requires.1.1.1.0.rest c.scan_any-stood.ensures.ended.scanned.past c.scan_any-stood.ensures.ended.stands c.seek.ensures in
    (within, (c.scan_any-stood.ensures.read.symbols, (rest, (memo.within, items-fit _ memo.fit.sound))))

pub returns-then-pick-place-clause-ready : goal.returns-then-pick-place-clause-ready
returns-then-pick-place-clause-ready g c = record {
  memo = c.scan_any-stood.ensures.ended.scanned.memo;
  rest = seeks g.source.whole _ _ c.args.left.now.place _ _ c.requires.1.1.1.0.rest c.scan_any-stood.ensures.ended.scanned.past c.scan_any-stood.ensures.ended.stands c.seek.ensures;
  ahead = c.read_first.ensures;
}

pub returns-else-pick-place-clause-ready : goal.returns-else-pick-place-clause-ready
returns-else-pick-place-clause-ready g c = record {
  memo = c.scan_any-stood.ensures.ended.scanned.memo;
  rest = seeks g.source.whole _ _ c.args.left.now.place _ _ c.requires.1.1.1.0.rest c.scan_any-stood.ensures.ended.scanned.past c.scan_any-stood.ensures.ended.stands c.seek.ensures;
  ahead = subst (λ (n : ℕ). IsKeptSymbol g.source n c.scan_any-stood.new.ahead.symbol (g.I.Cursor.text c.scan_any-stood.new.ahead.after)) (sym c.if-pick-place.false) c.scan_any-stood.ensures.ended.ahead;
}
