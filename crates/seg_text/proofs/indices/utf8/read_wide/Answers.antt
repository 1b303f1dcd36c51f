use Rattle.std.proofs.Common.{arith, refl}
use Rattle.seg_text.proofs.Utf8Reads.{row-at}
use Rattle.seg_text.proofs.indices.utf8.read_wide.Goals as goal

pub returns-then-first-le236 : goal.returns-then-first-le236
returns-then-first-le236 c = row-at 3 (0xE1, 0xEC) _ _ _ (omega arith) refl c.requires (omega arith) (omega arith) (c.read_three.ensures (0xE1, 0xEC))

pub returns-then-first : goal.returns-then-first
returns-then-first c = row-at 2 (0xE0, 0xE0) _ _ _ (omega arith) refl c.requires (omega arith) (omega arith) (c.read_three-then-first.ensures (0xE0, 0xE0))
