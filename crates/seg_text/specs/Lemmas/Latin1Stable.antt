-- What Latin-1's reader reads of an item stays the same where the bytes after the item are cut off.
use Rattle.std.proofs.Common.{◌≡◌, ℕ, zero, suc, ◌≤◌, List, ◌∷◌, take, refl, arith}
use Rattle.seg_text.specs.Decoding.{read_latin1}
use Rattle.seg_text.specs.Lemmas.Rising.{read_latin1-reader}
use Rattle.seg_text.specs.Lemmas.Readers.{IsStable}

pub read_latin1-stable : IsStable read_latin1
read_latin1-stable = record { reader = read_latin1-reader; stable = stable }
  where
    stable : (most unit : ℕ) (units : List ℕ) → 1 ≤ most → read_latin1 (take most (unit ∷ units)) ≡ (1, unit)
    stable zero unit units few = absurd (omega arith)
    stable (suc most) unit units few = refl
