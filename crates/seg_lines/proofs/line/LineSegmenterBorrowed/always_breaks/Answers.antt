use Rattle.std.proofs.Common.{inl, inr, sym, ◌∙◌}
use Rattle.seg_lines.proofs.line.LineSegmenterBorrowed.always_breaks.Goals as goal

pub returns-else-is_outside_runs : goal.returns-else-is_outside_runs
returns-else-is_outside_runs c =
    rw c.in-Machine.is (
      λ begins. (c.always_breaks-in-Machine.ensures.0 c.if-always_breaks.true, inr (c.begins_span.ensures.0 begins)),
      λ certain. elim certain.1 [
        | inl outside ↦ let no = sym c.if-is_outside_runs.false ∙ c.is_outside_runs.ensures.1 outside in absurd cc
        | inr edge ↦ c.begins_span.ensures.1 edge
      ],
    )
