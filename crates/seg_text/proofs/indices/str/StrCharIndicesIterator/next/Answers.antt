use Rattle.std.proofs.Common.{arith}
use Rattle.std.proofs.lemmas.Str.{IsCharBoundary-from_drop}
use Rattle.seg_text.specs.Decoding.{read_utf8, utf8_items}
use Rattle.seg_text.specs.Lemmas.Rising.{read_utf8-reader}
use Rattle.seg_text.proofs.Cursors.{next-item, goes-on, stays, nothing-left, fewer-left, taken-within}
use Rattle.seg_text.proofs.Str.{next-utf8, ascii-read}
use Rattle.seg_text.proofs.indices.str.StrCharIndicesIterator.next.Goals as goal

pub invariant_of-self : goal.invariant_of-self
invariant_of-self c = (
  omega arith,
  next-utf8 _ _ _ c.if-place-self.true c.self.invariant.1
      (ascii-read _ _ _ c.as_bytes.ensures.value c.if-place-self.true c.if-byte-lt128.true),
)

pub returns-then-byte-lt128-clause-steps : goal.returns-then-byte-lt128-clause-steps
unfolding utf8_items
returns-then-byte-lt128-clause-steps c =
    rw (← c.self.view_is) (
      next-item read_utf8 read_utf8-reader _ _ _ c.if-place-self.true
          (ascii-read _ _ _ c.as_bytes.ensures.value c.if-place-self.true c.if-byte-lt128.true),
      goes-on 1 _ _ (omega (arith, c.if-place-self.true)),
    )

pub returns-then-byte-lt128-clause-goes : goal.returns-then-byte-lt128-clause-goes
returns-then-byte-lt128-clause-goes c = fewer-left _ _ _ _ (returns-then-byte-lt128-clause-steps c).0

pub range_from-requires : goal.range_from-requires
range_from-requires c some = IsCharBoundary-from_drop _ _ c.self.invariant.0 c.self.invariant.1

pub overflow_add-self-then-place-self : goal.overflow_add-self-then-place-self
overflow_add-self-then-place-self c =
    omega (arith, taken-within read_utf8 read_utf8-reader _ _ _ c.if-place-self.true (rw c.range_from.ensures.value at c.read_first-taken.ensures))

pub invariant_of-self-then-place-self : goal.invariant_of-self-then-place-self
invariant_of-self-then-place-self c =
    let reads = rw c.range_from.ensures.value at c.read_first-taken.ensures in (
      taken-within read_utf8 read_utf8-reader _ _ _ c.if-place-self.true reads,
      next-utf8 _ _ _ c.if-place-self.true c.self.invariant.1 reads,
    )

pub returns-else-byte-lt128-clause-steps : goal.returns-else-byte-lt128-clause-steps
unfolding utf8_items
returns-else-byte-lt128-clause-steps c =
    rw (← c.self.view_is) (
      next-item read_utf8 read_utf8-reader _ _ _ c.if-place-self.true (rw c.range_from.ensures.value at c.read_first-taken.ensures),
      goes-on _ _ _ (invariant_of-self-then-place-self c).0,
    )

pub returns-else-byte-lt128-clause-goes : goal.returns-else-byte-lt128-clause-goes
returns-else-byte-lt128-clause-goes c = fewer-left _ _ _ _ (returns-else-byte-lt128-clause-steps c).0

pub returns-else-place-self-clause-steps : goal.returns-else-place-self-clause-steps
unfolding utf8_items
returns-else-place-self-clause-steps c =
    rw (← c.self.view_is)
    (let none = nothing-left read_utf8 c.self.inside.front_offset c.self.inside.text.now c.if-place-self.false in (none, none), stays _)
