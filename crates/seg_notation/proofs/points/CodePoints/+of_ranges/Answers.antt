use Rattle.std.proofs.Common.{false, sym, ◌∙◌, ap}
use Rattle.seg_notation.specs.Sets.{has}
use Rattle.seg_notation.proofs.Merging.{inside-none, ranges-none, ranges-one, ranges-halves}
use Rattle.seg_notation.proofs.points.CodePoints.+of_ranges.Goals as goal

pub returns-in-empty : goal.returns-in-empty
returns-in-empty t c = λ n k.
    ap (λ v. has v n) c.none.ensures ∙ inside-none false n ∙ sym (ranges-none c.args.ranges.now n c.in-empty.len_below)

pub returns-in_ok-set-in-len1 : goal.returns-in_ok-set-in-len1
returns-in_ok-set-in-len1 t c = λ n k.
    c.in_ok-set-in-len1.ensures n k ∙ sym (ranges-one c.args.ranges.now _ n c.in-len1.len_at_least c.in-len1.len_below)

pub returns-in_ok-set-in_default : goal.returns-in_ok-set-in_default
returns-in_ok-set-in_default t c = λ n k.
    c.in_ok-set-in_default.ensures n
    ∙ ranges-halves _ c.args.ranges.now _ _ n _ _ (c.in_ok-some-in_default.ensures n k) (c.in_ok-others-in_default.ensures n k)
    c.split_at.ensures.front c.split_at.ensures.back
