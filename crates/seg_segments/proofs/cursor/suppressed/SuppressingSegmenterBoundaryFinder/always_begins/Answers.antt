use Rattle.std.proofs.Common.{sym, ◌∙◌}
use Rattle.std.proofs.lemmas.Bool.{false≢true, not-true}
use Rattle.seg_segments.proofs.cursor.suppressed.SuppressingSegmenterBoundaryFinder.always_begins.Goals as goal
use Rattle.seg_segments.proofs.cursor.suppressed.SuppressingSegmenterBoundaryFinder.always_begins.Goals.{then-spaceless, else-spaceless, then-is_space, else-is_space, then-not-is_space, else-not-is_space}

pub returns-then-not-is_letter_or_digit : goal.returns-then-not-is_letter_or_digit
returns-then-not-is_letter_or_digit c is =
    elim c.if-not-is_space.branch [
      | then-not-is_space w ↦ elim c.if-is_space.branch [
        | then-is_space v ↦ elim c.if-spaceless.branch [
          | then-spaceless u ↦
              c.begins_at_certain_places.ensures (c.are_spaceless-spaceless.ensures u.if-spaceless.true) (sym u.is_space.ensures ∙ sym u.value-is ∙ v.if-is_space.true)
              (sym w.is_letter_or_digit.ensures ∙ not-true _ (sym w.value-is ∙ c.if-not-is_letter_or_digit.true))
              (sym v.is_space-then-is_space.ensures ∙ not-true _ (sym v.value-is ∙ w.if-not-is_space.true)) (c.always_breaks.ensures.0 is)
          | else-spaceless u ↦ absurd (false≢true (sym u.if-spaceless.false ∙ sym u.value-is ∙ v.if-is_space.true))
        ]
        | else-is_space v ↦ absurd (false≢true (sym v.if-is_space.false ∙ sym v.value-is ∙ w.if-not-is_space.true))
      ]
      | else-not-is_space w ↦ absurd (false≢true (sym w.if-not-is_space.false ∙ sym w.value-is ∙ c.if-not-is_letter_or_digit.true))
    ]
