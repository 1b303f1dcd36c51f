use Rattle.std.proofs.Common.{arith}
use Rattle.std.proofs.lemmas.Bool.{ltb-true}
use Rattle.seg_segments.proofs.ItemStarts.{begins-utf8}
use Rattle.seg_segments.proofs.cursor.texts.RefSliceU8CursorText.begins_item.Goals as goal

pub returns-then-byte-lt128 : goal.returns-then-byte-lt128
returns-then-byte-lt128 c is = begins-utf8 c.args.self.now c.args.index c.requires (λ low high. omega (arith, low, c.if-byte-lt128.true))

pub returns-else-byte-lt128 : goal.returns-else-byte-lt128
returns-else-byte-lt128 c is = begins-utf8 c.args.self.now c.args.index c.requires (λ low high. omega (arith, high, ltb-true _ _ is))
