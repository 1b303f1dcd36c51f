use Rattle.std.proofs.Common.{ap, refl, ◌∙◌}
use Rattle.seg_segments.specs.Abbreviations.{abbreviations_of}
use Rattle.seg_segments.proofs.Texts.{ascending}
use Rattle.seg_segments.proofs.Suppressing.{all-cover, all-left}
use Rattle.seg_segments.proofs.suppress.SentenceBreaks.suppressed_by.Goals as goal

pub new-requires : goal.new-requires
new-requires g c = ascending _ _ _ c.requires.cover

pub new-requires-2 : goal.new-requires-2
new-requires-2 g c =
    rw (c.len-end.ensures, c.text.ensures)
    (all-cover (abbreviations_of c.args.abbreviations.now) _ (g.Self.CodePoints.Cursor.text c.code_points-text.result) _ (g.Self.BreakIterator.left c.args.self) _
    (ap g.Self.CodePoints.Cursor.text c.code_points-text.ensures ∙ c.requires.start) c.requires.end
    (c.new.ensures ∙ rw c.cursor-words.ensures.words refl) c.requires.cover)

pub returns-clause-boundaries : goal.returns-clause-boundaries
returns-clause-boundaries g c =
    all-left (abbreviations_of c.args.abbreviations.now) (g.Self.BreakIterator.find c.args.self) _ (g.Self.CodePoints.Cursor.text c.code_points-text.result) _ _
    (g.met.Self.CodePoints.Cursor.rises c.code_points-text.result) (ap g.Self.CodePoints.Cursor.text c.code_points-text.ensures ∙ c.requires.start)
    c.requires.found
    (c.new-2.ensures ∙ c.new.ensures ∙ rw c.cursor-words.ensures.words refl)

pub returns-clause-cover : goal.returns-clause-cover
returns-clause-cover g c =
    all-cover (abbreviations_of c.args.abbreviations.now) _ (g.Self.CodePoints.Cursor.text c.code_points-text.result) _ (g.Self.BreakIterator.left c.args.self) _
    (ap g.Self.CodePoints.Cursor.text c.code_points-text.ensures ∙ c.requires.start) c.requires.end
    (c.new-2.ensures ∙ c.new.ensures ∙ rw c.cursor-words.ensures.words refl) c.requires.cover
