-- The boundaries of an iterator cover what its cursor reads.
use Rattle.std.proofs.Common.{◌≡◌, ℕ, List, length, subst}
use Rattle.icu_segmenter.specs.Boundary.{Boundary}
use Rattle.icu_segmenter.specs.Boundaries.{IsCover, boundaries_in}
use Rattle.icu_segmenter.specs.Clusters.{cluster_rules, sentence_rules}
use Rattle.icu_segmenter.specs.Items.{Text, start_of}
use Rattle.icu_segmenter.specs.LineBreaks.{LineRules, line_boundaries_by}
use Rattle.icu_segmenter.specs.Lines.{line_rules}
use Rattle.icu_segmenter.specs.Rules.{Rules, boundaries_by}
use Rattle.icu_segmenter.specs.WordRules.{WordRules, word_boundaries_by}
use Rattle.icu_segmenter.specs.Words.{word_rules}
use Rattle.yengatomu_segmenter.proofs.laws.cover.Goals as goal

covered : (find : List ℕ → List Boundary) (text decoded : Text) (count : ℕ) (found : List Boundary) → text ≡ decoded → start_of decoded ≡ 0 → decoded.end ≡ count
    → found ≡ boundaries_in find text → IsCover (start_of text) text.end found → IsCover 0 count (boundaries_in find decoded)
covered find text decoded count found is start end are cover =
    subst (λ (start : ℕ). IsCover start count (boundaries_in find decoded)) start
    (subst (λ (end : ℕ). IsCover (start_of decoded) end (boundaries_in find decoded)) end
    (subst (λ (text : Text). IsCover (start_of text) text.end (boundaries_in find text)) is
    (subst (λ (found : List Boundary). IsCover (start_of text) text.end found) are cover)))

pub returns-in-Clusters : goal.returns-in-Clusters
returns-in-Clusters g c =
    rw c.in-Clusters.is
    (subst (λ (rules : Rules). IsCover 0 (length (g.I.Units.Units.units c.args.text)) (boundaries_in (boundaries_by rules) (g.I.Source.decode (g.I.Units.Units.units c.args.text)))) c.as_borrowed.ensures
    (covered (boundaries_by (cluster_rules c.as_borrowed.result)) _ _ _ _ c.of-items.ensures.text c.of-items.ensures.start c.of-items.ensures.end c.segment.ensures.boundaries c.segment.ensures.cover))

pub returns-in-Words : goal.returns-in-Words
returns-in-Words g c =
    rw c.in-Words.is
    (subst (λ (rules : WordRules). IsCover 0 (length (g.I.Units.Units.units c.args.text)) (boundaries_in (word_boundaries_by rules) (g.I.Source.decode (g.I.Units.Units.units c.args.text)))) c.as_borrowed-in-Words.ensures
    (covered (word_boundaries_by (word_rules c.as_borrowed-in-Words.result)) _ _ _ _ c.of-items.ensures.text c.of-items.ensures.start c.of-items.ensures.end c.segment-in-Words.ensures.boundaries c.segment-in-Words.ensures.cover))

pub returns-in-Lines : goal.returns-in-Lines
returns-in-Lines g c =
    rw c.in-Lines.is
    (subst (λ (rules : LineRules). IsCover 0 (length (g.I.Units.Units.units c.args.text)) (boundaries_in (line_boundaries_by rules) (g.I.Source.decode (g.I.Units.Units.units c.args.text)))) c.as_borrowed-in-Lines.ensures
    (covered (line_boundaries_by (line_rules c.as_borrowed-in-Lines.result)) _ _ _ _ c.of-items.ensures.text c.of-items.ensures.start c.of-items.ensures.end c.segment-in-Lines.ensures.boundaries c.segment-in-Lines.ensures.cover))

pub returns-in-None : goal.returns-in-None
returns-in-None g c =
    rw (c.in-Sentences.is, ← c.in-None.ensures.value)
    (subst (λ (rules : Rules). IsCover 0 (length (g.I.Units.Units.units c.args.text)) (boundaries_in (boundaries_by rules) (g.I.Source.decode (g.I.Units.Units.units c.args.text)))) c.as_borrowed-in-None.ensures
    (covered (boundaries_by (sentence_rules c.as_borrowed-in-None.result)) _ _ _ _ c.of-items.ensures.text c.of-items.ensures.start c.of-items.ensures.end c.segment-in-None.ensures.boundaries c.segment-in-None.ensures.cover))

pub returns-in-Some : goal.returns-in-Some
returns-in-Some g c =
    rw (c.in-Sentences.is, ← c.in-Some.ensures.value)
    (subst (λ (find : List ℕ → List Boundary). IsCover 0 (length (g.I.Units.Units.units c.args.text)) (boundaries_in find (g.I.Source.decode (g.I.Units.Units.units c.args.text)))) c.suppressing.ensures c.cover.ensures)
