use Rattle.std.proofs.lemmas.Bool.{iff_false}
use Rattle.seg_text.specs.Decoding.{trail}
use Rattle.seg_text.proofs.Utf8Reads.{part-one, part-two}
use Rattle.seg_text.proofs.indices.utf8.read_part.Goals as goal

pub returns-then-stands_at : goal.returns-then-stands_at
returns-then-stands_at c first one =
    let second = c.stands_at.ensures.0 c.if-stands_at.true in part-two first _ trail _ _ one second (c.requires second)

pub returns-else-stands_at : goal.returns-else-stands_at
returns-else-stands_at c first one = part-one first _ _ _ one (iff_false c.stands_at.ensures c.if-stands_at.false)
