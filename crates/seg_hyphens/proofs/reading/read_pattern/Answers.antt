use Rattle.std.proofs.Common.{ap, sym, ◌∙◌, List, ℕ, Vec, Global}
use Rattle.seg_hyphens.proofs.Said.{partly-digit, partly-letter, partly-all}
use Rattle.seg_hyphens.proofs.reading.read_pattern.Goals.{then-is_ascii_digit, else-is_ascii_digit+in_ok-push+in_ok-push-2}
use Rattle.seg_hyphens.proofs.reading.read_pattern.Goals as goal

abbrev items : Vec ℕ Global → List ℕ
items v = v.items

pub loop-byte-preserved : goal.loop-byte-preserved
loop-byte-preserved c =
    elim c.if-is_ascii_digit.branch [
      | then-is_ascii_digit w ↦
          partly-digit _ _ _ _ _ _ _ _ c.loop-byte.invariant c.loop-byte-test.true (sym c.is_ascii_digit.ensures.value ∙ w.if-is_ascii_digit.true)
          (ap items w.letters-is) (ap items w.digits-is) w.digit-is
      | else-is_ascii_digit+in_ok-push+in_ok-push-2 w ↦
          partly-letter _ _ _ _ _ _ _ _ c.loop-byte.invariant c.loop-byte-test.true (sym c.is_ascii_digit.ensures.value ∙ w.if-is_ascii_digit.false)
          (ap items w.letters-is ∙ w.in_ok-push.ensures.items) (ap items w.digits-is ∙ w.in_ok-push-2.ensures.items) w.digit-is
    ]

pub returns-clause-letters : goal.returns-clause-letters
returns-clause-letters c = (partly-all _ _ _ c.push-2.new.self.items _ _ c.loop-byte.invariant c.loop-byte-test.false c.in_ok-push-3.ensures.items).0

pub returns-clause-digits : goal.returns-clause-digits
returns-clause-digits c = (partly-all _ _ _ _ _ _ c.loop-byte.invariant c.loop-byte-test.false c.in_ok-push-3.ensures.items).1
