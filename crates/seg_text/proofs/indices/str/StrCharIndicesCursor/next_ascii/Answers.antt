use Rattle.std.proofs.Common.{refl, arith}
use Rattle.seg_text.specs.Decoding.{read_utf8, utf8_items}
use Rattle.seg_text.specs.Lemmas.Rising.{read_utf8-reader}
use Rattle.seg_text.proofs.Cursors.{next-item, begins-wide}
use Rattle.seg_text.proofs.Str.{next-utf8, ascii-read, wide-read}
use Rattle.seg_text.proofs.indices.str.StrCharIndicesCursor.next_ascii.Goals as goal

pub invariant_of-self : goal.invariant_of-self
invariant_of-self c = (
  omega arith,
  next-utf8 _ _ _ c.if-place-self.true c.self.invariant.1
      (ascii-read _ _ _ c.as_bytes.ensures.value c.if-place-self.true c.if-byte-lt128.true),
)

pub returns-then-byte-lt128-clause-read : goal.returns-then-byte-lt128-clause-read
unfolding utf8_items
returns-then-byte-lt128-clause-read c =
    rw (← c.self.view_is) (
      c.if-byte-lt128.true,
      next-item read_utf8 read_utf8-reader _ _ _ c.if-place-self.true
          (ascii-read _ _ _ c.as_bytes.ensures.value c.if-place-self.true c.if-byte-lt128.true),
    )

pub returns-else-byte-lt128-clause-read : goal.returns-else-byte-lt128-clause-read
unfolding utf8_items
returns-else-byte-lt128-clause-read c =
    (refl, rw (← c.self.view_is) (begins-wide read_utf8 read_utf8-reader _ _ (λ inside. wide-read _ _ _ c.as_bytes.ensures.value inside c.if-byte-lt128.false)))

pub returns-else-place-self-clause-read : goal.returns-else-place-self-clause-read
unfolding utf8_items
returns-else-place-self-clause-read c =
    (refl, rw (← c.self.view_is) (begins-wide read_utf8 read_utf8-reader _ _ (λ inside. absurd (omega (arith, inside, c.if-place-self.false)))))
