use Rattle.std.proofs.Common.{ℕ, ◌+◌, List, ap₂, map, subst, ◌∙◌}
use Rattle.std.specs.Prelude.{drop}
use Rattle.icu_segmenter.specs.Boundary.{Boundary}
use Rattle.icu_segmenter.specs.Boundaries.{boundaries_in, offsets}
use Rattle.icu_segmenter.specs.WordRules.{WordRules, word_boundaries_of}
use Rattle.icu_segmenter.specs.Filled.{IsFilled}
use Rattle.yengatomu_segmenter.proofs.texts.boundaries.Goals as goal

pub returns-in-Words : goal.returns-in-Words
returns-in-Words g c =
    rw c.in-Words.is
    (subst (λ (found : List Boundary). IsFilled (map (λ place. c.args.from + place) (offsets (drop 1 found))) c.args.places.now c.fill-in-Words.new.places c.fill-in-Words.result)
    (c.breaks-found-in-Words.ensures.boundaries ∙ ap₂ (λ (rules : WordRules) (units : List ℕ). word_boundaries_of rules (g.I.Source.decode units)) c.as_borrowed-held-in-Words.ensures c.rest_of-rest.ensures.rest)
    c.fill-in-Words.ensures)

pub returns-in-Some : goal.returns-in-Some
returns-in-Some g c =
    rw (c.in-Sentences.is, ← c.in-Some.ensures.value)
    (subst (λ (found : List Boundary). IsFilled (map (λ place. c.args.from + place) (offsets (drop 1 found))) c.args.places.now c.fill-in-Some.new.places c.fill-in-Some.result)
    (c.breaks-found-in-Some.ensures.boundaries ∙ ap₂ (λ (find : List ℕ → List Boundary) (units : List ℕ). boundaries_in find (g.I.Source.decode units)) c.suppressing-held.ensures c.rest_of-rest.ensures.rest)
    c.fill-in-Some.ensures)
