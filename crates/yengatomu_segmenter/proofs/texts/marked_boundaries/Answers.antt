use Rattle.std.proofs.Common.{ℕ, ◌+◌, List, ap, ap₂, map, subst, ◌∙◌}
use Rattle.std.specs.Prelude.{◌==◌, drop, if◌then◌else◌, length, min}
use Rattle.icu_segmenter.specs.Boundary.{Boundary}
use Rattle.icu_segmenter.specs.Boundaries.{boundaries_in, offsets}
use Rattle.icu_segmenter.specs.LineBreaks.{LineRules, line_boundaries_of}
use Rattle.icu_segmenter.specs.Rules.{Rules, boundaries_of}
use Rattle.icu_segmenter.specs.WordRules.{WordRules, type_of, word_boundaries_of}
use Rattle.icu_segmenter.specs.Words.{owned_word_rules}
use Rattle.icu_segmenter.specs.Filled.{TakesFirst}
use Rattle.yengatomu_segmenter.specs.Marks.{number_of_type}
use Rattle.yengatomu_segmenter.proofs.Marked.{word-marks}
use Rattle.yengatomu_segmenter.proofs.texts.marked_boundaries.Goals as goal

pub returns-in-Words-clause-places : goal.returns-in-Words-clause-places
returns-in-Words-clause-places g c =
    rw c.in-Words.is
    (subst (λ (found : List Boundary). TakesFirst (min (length c.args.places.now) (length c.args.marks.now)) (map (λ place. c.args.from + place) (offsets (drop 1 found))) c.args.places.now c.fill_both-in-Words.new.places c.fill_both-in-Words.result)
    (c.breaks-found-in-Words.ensures.boundaries ∙ ap₂ (λ (rules : WordRules) (units : List ℕ). word_boundaries_of rules (g.I.Source.decode units)) c.as_borrowed-held-in-Words.ensures c.rest_of-rest.ensures.rest)
    c.fill_both-in-Words.ensures.places)

pub returns-in-Words-clause-marks : goal.returns-in-Words-clause-marks
returns-in-Words-clause-marks g c =
    let found = c.breaks-found-in-Words.ensures.boundaries ∙ ap₂ (λ (rules : WordRules) (units : List ℕ). word_boundaries_of rules (g.I.Source.decode units)) c.as_borrowed-held-in-Words.ensures c.rest_of-rest.ensures.rest in
    rw c.in-Words.is
    (subst (λ (marks : List ℕ). TakesFirst (min (length c.args.places.now) (length c.args.marks.now)) marks c.args.marks.now c.fill_both-in-Words.new.marks c.fill_both-in-Words.result)
    (ap (λ (found : List Boundary). map (λ (one : Boundary). number_of_type (type_of one.status)) (drop 1 found)) found ∙ word-marks (owned_word_rules c.in-Words.s) _)
    c.fill_both-in-Words.ensures.marks)

pub returns-in-Lines-clause-marks : goal.returns-in-Lines-clause-marks
returns-in-Lines-clause-marks g c =
    rw c.in-Lines.is
    (subst (λ (found : List Boundary). TakesFirst (min (length c.args.places.now) (length c.args.marks.now)) (map (λ (one : Boundary). if one.status == 1 then 1 else 0) (drop 1 found)) c.args.marks.now c.fill_both-in-Lines.new.marks c.fill_both-in-Lines.result)
    (c.breaks-found-in-Lines.ensures.boundaries ∙ ap₂ (λ (rules : LineRules) (units : List ℕ). line_boundaries_of rules (g.I.Source.decode units)) c.as_borrowed-held-in-Lines.ensures c.rest_of-rest.ensures.rest)
    c.fill_both-in-Lines.ensures.marks)

pub returns-in-Some-clause-places : goal.returns-in-Some-clause-places
returns-in-Some-clause-places g c =
    rw (c.in-Sentences.is, ← c.in-Some.ensures.value)
    (subst (λ (found : List Boundary). TakesFirst (min (length c.args.places.now) (length c.args.marks.now)) (map (λ place. c.args.from + place) (offsets (drop 1 found))) c.args.places.now c.fill_both-in-Some.new.places c.fill_both-in-Some.result)
    (c.breaks-found-in-Some.ensures.boundaries ∙ ap₂ (λ (find : List ℕ → List Boundary) (units : List ℕ). boundaries_in find (g.I.Source.decode units)) c.suppressing-held.ensures c.rest_of-rest.ensures.rest)
    c.fill_both-in-Some.ensures.places)

pub returns-in-Some-clause-marks : goal.returns-in-Some-clause-marks
returns-in-Some-clause-marks g c =
    rw (c.in-Sentences.is, ← c.in-Some.ensures.value)
    (subst (λ (found : List Boundary). TakesFirst (min (length c.args.places.now) (length c.args.marks.now)) (map (λ (one : Boundary). 0) (drop 1 found)) c.args.marks.now c.fill_both-in-Some.new.marks c.fill_both-in-Some.result)
    (c.breaks-found-in-Some.ensures.boundaries ∙ ap₂ (λ (find : List ℕ → List Boundary) (units : List ℕ). boundaries_in find (g.I.Source.decode units)) c.suppressing-held.ensures c.rest_of-rest.ensures.rest)
    c.fill_both-in-Some.ensures.marks)

pub returns-in-Clusters-clause-places : goal.returns-in-Clusters-clause-places
returns-in-Clusters-clause-places g c =
    rw c.in-Clusters.is
    (subst (λ (found : List Boundary). TakesFirst (min (length c.args.places.now) (length c.args.marks.now)) (map (λ place. c.args.from + place) (offsets (drop 1 found))) c.args.places.now c.fill_both.new.places c.fill_both.result)
    (c.breaks-found.ensures.boundaries ∙ ap₂ (λ (rules : Rules) (units : List ℕ). boundaries_of rules (g.I.Source.decode units)) c.as_borrowed-held.ensures c.rest_of-rest.ensures.rest)
    c.fill_both.ensures.places)

pub returns-in-Clusters-clause-marks : goal.returns-in-Clusters-clause-marks
returns-in-Clusters-clause-marks g c =
    rw c.in-Clusters.is
    (subst (λ (found : List Boundary). TakesFirst (min (length c.args.places.now) (length c.args.marks.now)) (map (λ (one : Boundary). 0) (drop 1 found)) c.args.marks.now c.fill_both.new.marks c.fill_both.result)
    (c.breaks-found.ensures.boundaries ∙ ap₂ (λ (rules : Rules) (units : List ℕ). boundaries_of rules (g.I.Source.decode units)) c.as_borrowed-held.ensures c.rest_of-rest.ensures.rest)
    c.fill_both.ensures.marks)

pub returns-in-None-clause-places : goal.returns-in-None-clause-places
returns-in-None-clause-places g c =
    rw (c.in-Sentences.is, ← c.in-None.ensures.value)
    (subst (λ (found : List Boundary). TakesFirst (min (length c.args.places.now) (length c.args.marks.now)) (map (λ place. c.args.from + place) (offsets (drop 1 found))) c.args.places.now c.fill_both-in-None.new.places c.fill_both-in-None.result)
    (c.breaks-found-in-None.ensures.boundaries ∙ ap₂ (λ (rules : Rules) (units : List ℕ). boundaries_of rules (g.I.Source.decode units)) c.as_borrowed-held-in-None.ensures c.rest_of-rest.ensures.rest)
    c.fill_both-in-None.ensures.places)

pub returns-in-None-clause-marks : goal.returns-in-None-clause-marks
returns-in-None-clause-marks g c =
    rw (c.in-Sentences.is, ← c.in-None.ensures.value)
    (subst (λ (found : List Boundary). TakesFirst (min (length c.args.places.now) (length c.args.marks.now)) (map (λ (one : Boundary). 0) (drop 1 found)) c.args.marks.now c.fill_both-in-None.new.marks c.fill_both-in-None.result)
    (c.breaks-found-in-None.ensures.boundaries ∙ ap₂ (λ (rules : Rules) (units : List ℕ). boundaries_of rules (g.I.Source.decode units)) c.as_borrowed-held-in-None.ensures c.rest_of-rest.ensures.rest)
    c.fill_both-in-None.ensures.marks)

pub returns-in-Lines-clause-places : goal.returns-in-Lines-clause-places
returns-in-Lines-clause-places g c =
    rw c.in-Lines.is
    (subst (λ (found : List Boundary). TakesFirst (min (length c.args.places.now) (length c.args.marks.now)) (map (λ place. c.args.from + place) (offsets (drop 1 found))) c.args.places.now c.fill_both-in-Lines.new.places c.fill_both-in-Lines.result)
    (c.breaks-found-in-Lines.ensures.boundaries ∙ ap₂ (λ (rules : LineRules) (units : List ℕ). line_boundaries_of rules (g.I.Source.decode units)) c.as_borrowed-held-in-Lines.ensures c.rest_of-rest.ensures.rest)
    c.fill_both-in-Lines.ensures.places)
