use Rattle.std.proofs.Common.{ℕ, List, ap, subst}
use Rattle.icu_segmenter.specs.Boundary.{Boundary}
use Rattle.icu_segmenter.specs.LineBreaks.{LineRules, line_boundaries_by}
use Rattle.icu_segmenter.specs.NearBoundaries.{places_of_units}
use Rattle.icu_segmenter.specs.Rules.{Rules, boundaries_by}
use Rattle.icu_segmenter.specs.WordRules.{WordRules, word_boundaries_by}
use Rattle.yengatomu_segmenter.specs.Near.{IsNearest}
use Rattle.yengatomu_segmenter.proofs.texts.near.Goals as goal

pub returns-in-Clusters : goal.returns-in-Clusters
returns-in-Clusters g c =
    rw c.in-Clusters.is
    (subst (λ (places : List ℕ). IsNearest c.args.is_above places c.args.place c.near_by.result)
    (ap (λ (rules : Rules). places_of_units g.T.Source.Source.decode (boundaries_by rules) (g.T.Units.units c.args.text)) c.as_borrowed-held.ensures) c.near_by.ensures)

pub returns-in-Words : goal.returns-in-Words
returns-in-Words g c =
    rw c.in-Words.is
    (subst (λ (places : List ℕ). IsNearest c.args.is_above places c.args.place c.near_by-in-Words.result)
    (ap (λ (rules : WordRules). places_of_units g.T.Source.Source.decode (word_boundaries_by rules) (g.T.Units.units c.args.text)) c.as_borrowed-held-in-Words.ensures) c.near_by-in-Words.ensures)

pub returns-in-None : goal.returns-in-None
returns-in-None g c =
    rw (c.in-Sentences.is, ← c.in-None.ensures.value)
    (subst (λ (places : List ℕ). IsNearest c.args.is_above places c.args.place c.near_by-in-None.result)
    (ap (λ (rules : Rules). places_of_units g.T.Source.Source.decode (boundaries_by rules) (g.T.Units.units c.args.text)) c.as_borrowed-held-in-None.ensures) c.near_by-in-None.ensures)

pub returns-in-Lines : goal.returns-in-Lines
returns-in-Lines g c =
    rw c.in-Lines.is
    (subst (λ (places : List ℕ). IsNearest c.args.is_above places c.args.place c.near_by-in-Lines.result)
    (ap (λ (rules : LineRules). places_of_units g.T.Source.Source.decode (line_boundaries_by rules) (g.T.Units.units c.args.text)) c.as_borrowed-held-in-Lines.ensures) c.near_by-in-Lines.ensures)

pub returns-in-Some : goal.returns-in-Some
returns-in-Some g c =
    rw (c.in-Sentences.is, ← c.in-Some.ensures.value)
    (subst (λ (places : List ℕ). IsNearest c.args.is_above places c.args.place c.near_by-in-Some.result)
    (ap (λ (find : List ℕ → List Boundary). places_of_units g.T.Source.Source.decode find (g.T.Units.units c.args.text)) c.suppressing-held.ensures) c.near_by-in-Some.ensures)
