-- What is plain is written as it stands.
use Rattle.std.proofs.Common.{◌≤◌, List, ℕ, ◌++◌, ◌∷◌, [], ap₂, arith, sym}
use Rattle.segment_output.proofs.Stretches.{plain-escaped}
use Rattle.segment_output.proofs.stretch.stretch_after.Goals as goal

pub returns-in-Escaped : goal.returns-in-Escaped
returns-in-Escaped c = (
  c.stretch_to.ensures.room,
  λ file segment shown low ordered high.
      let some : c.stretch_to.result.from ≤ c.stretch_to.result.to = omega (arith, low, ordered, high) in
      let (from-is, to-is, last-is) = c.stretch_to.ensures.part some in
      rw c.in-Escaped.is (
      ap₂ (λ (bytes : List ℕ) (last : ℕ). bytes ++ last ∷ [])
      (plain-escaped c.args.text.now segment.from segment.to (λ place after before. c.plain_end.ensures place (omega (arith, low, after, from-is)) (omega (arith, high, before, to-is))))
      (sym last-is)),
)
