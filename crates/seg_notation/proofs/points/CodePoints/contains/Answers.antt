use Rattle.std.proofs.Common.{◌≡◌, ◌+◌, [], ◌∷◌, ◌++◌, false, not, nat_le, take, get_or, sym, ◌∙◌, ap}
use Rattle.std.proofs.lemmas.List.{take_more}
use Rattle.std.proofs.lemmas.Bool.{le-leb, lt-leb}
use Rattle.seg_notation.specs.Sets.{has, turned}
use Rattle.seg_notation.proofs.Merging.{inside-none, inside-snoc}
use Rattle.seg_notation.proofs.points.CodePoints.contains.Goals as goal
use Rattle.seg_notation.proofs.points.CodePoints.contains.Goals.{then-change-code_point, else-change-code_point}

pub loop-change-init : goal.loop-change-init
loop-change-init c = sym (inside-none false c.args.code_point)

pub loop-change-preserved : goal.loop-change-preserved
loop-change-preserved c =
    let xs = c.as_slice-change-items.result.now in
    let i = c.loop-change.change-index in
    let point = get_or xs i 0 in
    let past = has (take i xs) c.args.code_point in
    let more : take (i + 1) xs ≡ take i xs ++ point ∷ [] = take_more xs i 0 c.loop-change-test.true in
    let next : has (take (i + 1) xs) c.args.code_point ≡ turned (nat_le point c.args.code_point) past =
    ap (λ v. has v c.args.code_point) more ∙ inside-snoc false (take i xs) point c.args.code_point in
    elim c.if-change-code_point.branch [
      | then-change-code_point w ↦ w.is_in-is ∙ ap not c.loop-change.invariant
          ∙ sym (next ∙ ap (λ t. turned t past) (le-leb point c.args.code_point w.if-change-code_point.true))
      | else-change-code_point w ↦ w.is_in-is ∙ c.loop-change.invariant
          ∙ sym (next ∙ ap (λ t. turned t past) (lt-leb point c.args.code_point w.if-change-code_point.false))
    ]
