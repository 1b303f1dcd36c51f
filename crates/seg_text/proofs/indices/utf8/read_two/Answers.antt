use Rattle.std.proofs.lemmas.Bool.{iff_false}
use Rattle.seg_text.specs.Decoding.{trail}
use Rattle.seg_text.proofs.Utf8Reads.{part-one, whole-two}
use Rattle.seg_text.proofs.indices.utf8.read_two.Goals as goal

pub returns-then-not-stands_at : goal.returns-then-not-stands_at
returns-then-not-stands_at c first one = part-one first trail _ _ one (iff_false c.stands_at.ensures c.if-not-stands_at.true)

pub returns : goal.returns
returns c first one = whole-two first trail _ _ one (c.stands_at.ensures.0 c.if-not-stands_at.false) c.character.ensures
