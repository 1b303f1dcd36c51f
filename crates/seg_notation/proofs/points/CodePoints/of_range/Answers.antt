use Rattle.std.proofs.Common.{◌∙◌, ap, false}
use Rattle.seg_notation.specs.Sets.{has, rises}
use Rattle.seg_notation.proofs.Merging.{inside-none, range-empty, range-has, rises-range, after-above, after-within, after-holds}
use Rattle.seg_notation.proofs.points.CodePoints.of_range.Goals as goal

pub returns-then-last-first : goal.returns-then-last-first
returns-then-last-first c = λ n k.
    ap (λ v. has v n) c.none.ensures ∙ inside-none false n ∙ range-empty c.args.first c.args.last n c.if-last-first.true

pub invariant_of-result : goal.invariant_of-result
invariant_of-result c = record {
  rising = ap (rises 0) c.in_ok-changes.ensures.items
      ∙ rises-range c.args.first c.saturating_add.result
      (after-holds c.args.first c.args.last _ c.ranges.last.fits c.if-last-first.false c.saturating_add.ensures);
}

pub returns : goal.returns
returns c = λ n k.
    ap (λ v. has v n) c.in_ok-changes.ensures.items
    ∙ range-has c.args.first c.args.last c.saturating_add.result n c.if-last-first.false
    (after-above c.args.last _ n c.saturating_add.ensures k) (after-within c.args.last _ c.saturating_add.ensures)
