-- Each iterator has all the boundaries left when it is made.
use Rattle.std.proofs.Common.{◌==◌, List, false, ap, length, subst, ◌∙◌}
use Rattle.icu_segmenter.specs.Boundary.{Boundary}
use Rattle.icu_segmenter.specs.Boundaries.{boundaries_in, IsCover}
use Rattle.icu_segmenter.specs.LineBreaks.{LineRules, line_boundaries_of}
use Rattle.icu_segmenter.specs.Rules.{Rules, boundaries_of}
use Rattle.icu_segmenter.specs.Decoding.{utf8}
use Rattle.icu_segmenter.specs.WordRules.{WordRules, type_of, word_boundaries_of}
use Rattle.segment_output.specs.Output.{look_of, lines_at}
use Rattle.segment_output.specs.declared.marks.Mark.TheVariants.{Unmarked, Word, Line, Rule}
use Rattle.segment_output.proofs.Printed.{all-printed}
use Rattle.segment_output.proofs.segmenter.TextSegmenter.print_part.Goals as goal

pub returns-in-Clusters-clause-written : goal.returns-in-Clusters-clause-written
returns-in-Clusters-clause-written g c =
    rw c.in-Clusters.is
    (all-printed (g.L.Limit.holds c.args.limit) false (λ status. Unmarked) (λ found. lines_at (look_of c.args.part) c.args.part.before c.args.part.bytes.now found) _ _ _ _ _
    (c.segment_utf8-breaks.ensures.boundaries ∙ ap (λ (rules : Rules). boundaries_of rules (utf8 c.args.part.bytes.now)) c.as_borrowed.ensures) c.print_unmarked.ensures)

pub returns-in-Words-clause-written : goal.returns-in-Words-clause-written
returns-in-Words-clause-written g c =
    rw c.in-Words.is
    (all-printed (g.L.Limit.holds c.args.limit) c.in-Words.alone (λ status. Word (type_of status)) (λ found. lines_at (look_of c.args.part) c.args.part.before c.args.part.bytes.now found) _ _ _ _ _
    (c.segment_utf8-breaks-in-Words.ensures.boundaries ∙ ap (λ (rules : WordRules). word_boundaries_of rules (utf8 c.args.part.bytes.now)) c.as_borrowed-in-Words.ensures) c.print_breaks.ensures)

pub returns-in-Sentences-clause-written : goal.returns-in-Sentences-clause-written
returns-in-Sentences-clause-written g c =
    rw c.in-Sentences.is
    (all-printed (g.L.Limit.holds c.args.limit) false (λ status. Unmarked) (λ found. lines_at (look_of c.args.part) c.args.part.before c.args.part.bytes.now found) _ _ _ _ _
    (c.segment_utf8-breaks-in-Sentences.ensures.boundaries ∙ ap (λ (rules : Rules). boundaries_of rules (utf8 c.args.part.bytes.now)) c.as_borrowed-in-Sentences.ensures) c.print_unmarked-in-Sentences.ensures)

pub returns-in-Suppressing-clause-written : goal.returns-in-Suppressing-clause-written
returns-in-Suppressing-clause-written g c =
    rw c.in-Suppressing.is
    (all-printed (g.L.Limit.holds c.args.limit) false (λ status. Unmarked) (λ found. lines_at (look_of c.args.part) c.args.part.before c.args.part.bytes.now found) _ _ _ _ _
    (c.segment_utf8-breaks-in-Suppressing.ensures.boundaries ∙ ap (λ find. boundaries_in find (utf8 c.args.part.bytes.now)) c.suppressing.ensures) c.print_unmarked-in-Suppressing.ensures)

pub returns-in-Lines-clause-written : goal.returns-in-Lines-clause-written
returns-in-Lines-clause-written g c =
    rw c.in-Lines.is
    (all-printed (g.L.Limit.holds c.args.limit) false (λ status. Line (status == 1)) (λ found. lines_at (look_of c.args.part) c.args.part.before c.args.part.bytes.now found) _ _ _ _ _
    (c.segment_utf8-breaks-in-Lines.ensures.boundaries ∙ ap (λ (rules : LineRules). line_boundaries_of rules (utf8 c.args.part.bytes.now)) c.as_borrowed-in-Lines.ensures) c.print_breaks-in-Lines.ensures)

pub returns-in-Ruled-clause-written : goal.returns-in-Ruled-clause-written
returns-in-Ruled-clause-written g c =
    rw c.in-Ruled.is
    (all-printed (g.L.Limit.holds c.args.limit) c.in-Ruled.alone (λ status. Rule (status == 1)) (λ found. lines_at (look_of c.args.part) c.args.part.before c.args.part.bytes.now found) _ _ _ _ _
    (c.segment_utf8-breaks-in-Ruled.ensures.boundaries ∙ ap (λ (rules : LineRules). line_boundaries_of rules (utf8 c.args.part.bytes.now)) c.anywhere.ensures) c.print_ruled.ensures)

pub returns-in-Suppressing-clause-cover : goal.returns-in-Suppressing-clause-cover
returns-in-Suppressing-clause-cover g c =
    rw c.in-Suppressing.is
    (subst (λ (boundaries : List Boundary). IsCover 0 (length c.args.part.bytes.now) boundaries)
    (c.segment_utf8-breaks-in-Suppressing.ensures.boundaries ∙ ap (λ find. boundaries_in find (utf8 c.args.part.bytes.now)) c.suppressing.ensures) c.segment_utf8-breaks-in-Suppressing.ensures.cover)
