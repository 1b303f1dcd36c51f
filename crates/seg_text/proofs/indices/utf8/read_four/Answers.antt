use Rattle.std.proofs.lemmas.Bool.{iff_false}
use Rattle.seg_text.specs.Decoding.{trail}
use Rattle.seg_text.proofs.Utf8Reads.{part-one, part-two, part-three, whole-four}
use Rattle.seg_text.proofs.indices.utf8.read_four.Goals as goal

pub returns-then-not-stands_at : goal.returns-then-not-stands_at
returns-then-not-stands_at c first one = part-one first _ _ _ one (iff_false c.stands_at.ensures c.if-not-stands_at.true)

pub returns-then-not-stands_at-2 : goal.returns-then-not-stands_at-2
returns-then-not-stands_at-2 c first one =
    part-two first _ trail _ _ one (c.stands_at.ensures.0 c.if-not-stands_at.false)
    (iff_false c.stands_at-2.ensures c.if-not-stands_at-2.true)

pub returns-then-not-stands_at-3 : goal.returns-then-not-stands_at-3
returns-then-not-stands_at-3 c first one =
    part-three first _ trail trail _ _ one (c.stands_at.ensures.0 c.if-not-stands_at.false)
    (c.stands_at-2.ensures.0 c.if-not-stands_at-2.false) (iff_false c.stands_at-3.ensures c.if-not-stands_at-3.true)

pub returns : goal.returns
returns c first one =
    whole-four first _ trail trail _ _ one (c.stands_at.ensures.0 c.if-not-stands_at.false)
    (c.stands_at-2.ensures.0 c.if-not-stands_at-2.false) (c.stands_at-3.ensures.0 c.if-not-stands_at-3.false) c.character.ensures
