use Rattle.std.proofs.Common.{ℕ, List, length, sym, ap, ◌∙◌}
use Rattle.std.proofs.lemmas.List.{length-map}
use Rattle.icu_segmenter.specs.Boundary.{Boundary}
use Rattle.icu_segmenter.specs.Boundaries.{boundaries_in}
use Rattle.yengatomu_segmenter.proofs.texts.count.Goals as goal

pub returns-in-Some : goal.returns-in-Some
returns-in-Some g c =
    let found = c.breaks-in-Some.ensures.boundaries ∙ ap (λ (find : List ℕ → List Boundary). boundaries_in find (g.I.Source.decode (g.I.Units.Units.units c.args.text))) c.suppressing-held.ensures in
    rw (c.in-Sentences.is, ← c.in-Some.ensures.value)
    (c.count-in-Some.ensures ∙ ap (λ (found : List Boundary). length found) found ∙ sym (length-map _ (λ (one : Boundary). one.offset)))
