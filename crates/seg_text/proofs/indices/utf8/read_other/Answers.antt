use Rattle.std.proofs.Common.{arith, refl}
use Rattle.seg_text.proofs.Utf8Reads.{row-at, no-row}
use Rattle.seg_text.proofs.indices.utf8.read_other.Goals as goal

pub returns-in-194-to-223 : goal.returns-in-194-to-223
returns-in-194-to-223 c = row-at 1 (0xC2, 0xDF) _ _ _ (omega arith) refl c.requires.wide (omega arith) (omega arith) (c.read_two.ensures (0xC2, 0xDF))

pub returns-in-237 : goal.returns-in-237
returns-in-237 c = row-at 4 (0xED, 0xED) _ _ _ (omega arith) refl c.requires.wide (omega arith) (omega arith) (c.read_three.ensures (0xED, 0xED))

pub returns-in-238-to-239 : goal.returns-in-238-to-239
returns-in-238-to-239 c = row-at 5 (0xEE, 0xEF) _ _ _ (omega arith) refl c.requires.wide (omega arith) (omega arith) (c.read_three-in-238-to-239.ensures (0xEE, 0xEF))

pub returns-in-240 : goal.returns-in-240
returns-in-240 c = row-at 6 (0xF0, 0xF0) _ _ _ (omega arith) refl c.requires.wide (omega arith) (omega arith) (c.read_four.ensures (0xF0, 0xF0))

pub returns-in-241-to-243 : goal.returns-in-241-to-243
returns-in-241-to-243 c = row-at 7 (0xF1, 0xF3) _ _ _ (omega arith) refl c.requires.wide (omega arith) (omega arith) (c.read_four-in-241-to-243.ensures (0xF1, 0xF3))

pub returns-in-244 : goal.returns-in-244
returns-in-244 c = row-at 8 (0xF4, 0xF4) _ _ _ (omega arith) refl c.requires.wide (omega arith) (omega arith) (c.read_four-in-244.ensures (0xF4, 0xF4))

pub returns-in_default : goal.returns-in_default
returns-in_default c = no-row _ c.requires.wide (λ low high. omega (arith, c.requires.other))

pub returns-in_default-2 : goal.returns-in_default-2
returns-in_default-2 c = no-row _ c.requires.wide (λ low high. omega (arith, c.requires.other))

pub returns-in_default-3 : goal.returns-in_default-3
returns-in_default-3 c = no-row _ c.requires.wide (λ low high. omega (arith, c.requires.other))
