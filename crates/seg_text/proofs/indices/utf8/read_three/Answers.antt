use Rattle.std.proofs.lemmas.Bool.{iff_false}
use Rattle.seg_text.specs.Decoding.{trail}
use Rattle.seg_text.proofs.Utf8Reads.{whole-three}
use Rattle.seg_text.proofs.indices.utf8.read_three.Goals as goal

pub read_part-requires : goal.read_part-requires
read_part-requires c second third = iff_false c.has_two_trails.ensures c.if-not-has_two_trails.true (second, third)

pub returns : goal.returns
returns c first one =
    let both = c.has_two_trails.ensures.0 c.if-not-has_two_trails.false in whole-three first _ trail _ _ one both.0 both.1 c.character.ensures
