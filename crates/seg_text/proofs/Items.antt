-- The items that a reader finds tile the units, and no others do, in any encoding.
use Rattle.std.proofs.Common.{◌≡◌, ℕ, zero, suc, ◌+◌, ◌<◌, ◌≤◌, List, [], ◌∷◌, length, drop, refl, sym, arith}
use Rattle.seg_text.specs.Items.{IsTiling, items_by, Reader, Item}
use Rattle.seg_text.specs.Lemmas.Readers.{IsReader, fewer, items_by-nil, items_by-cons}

-- `read` gives the one item that an encoding reads
pub record IsReaderOf (Reads : List ℕ → ℕ → ℕ → Type 0) (read : Reader ℕ) : Type 0 where
  pub reader : IsReader read
  pub reads : (unit : ℕ) (units : List ℕ) → Reads (unit ∷ units) (read (unit ∷ units)).0 (read (unit ∷ units)).1
  pub only : (unit : ℕ) (units : List ℕ) (taken code_point : ℕ) → 0 < taken → taken ≤ suc (length units)
      → Reads (unit ∷ units) taken code_point → (taken, code_point) ≡ read (unit ∷ units)

tiling-more : (Reads : List ℕ → ℕ → ℕ → Type 0) (read : Reader ℕ) → IsReaderOf Reads read
    → (most place : ℕ) (units : List ℕ) → length units ≤ most → IsTiling Reads (items_by read place units) place units
tiling-more Reads read of most place [] bound = rw (items_by-nil read place) refl
tiling-more Reads read of zero place (unit ∷ units) bound = absurd (omega arith)
tiling-more Reads read of (suc most) place (unit ∷ units) bound =
    let taken : ℕ = (read (unit ∷ units)).0 in
    let rest : List ℕ = drop taken (unit ∷ units) in
    let some : 0 < taken = of.reader.some unit units in
    rw (items_by-cons read of.reader place unit units) (
      refl,
      (
        taken,
        some,
        of.reader.within unit units,
        of.reads unit units,
        tiling-more Reads read of most (place + taken) rest (fewer taken most unit units some bound),
      ),
    )

-- the items tile the units
pub items_by-tile : (Reads : List ℕ → ℕ → ℕ → Type 0) (read : Reader ℕ) → IsReaderOf Reads read
    → (place : ℕ) (units : List ℕ) → IsTiling Reads (items_by read place units) place units
items_by-tile Reads read of place units = tiling-more Reads read of (length units) place units (omega arith)

-- and nothing else does
pub items_by-only : (Reads : List ℕ → ℕ → ℕ → Type 0) (read : Reader ℕ) → IsReaderOf Reads read
    → (place : ℕ) (units : List ℕ) (items : List Item) → IsTiling Reads items place units
    → items ≡ items_by read place units
items_by-only Reads read of place units [] tiles = rw tiles (sym (items_by-nil read place))
items_by-only Reads read of place [] (item ∷ items) (at, (taken, some, within, reads, tiles)) = absurd (omega arith)
items_by-only Reads read of place (unit ∷ units) ((start, code_point) ∷ items) (at, (taken, some, within, reads, tiles)) =
    let found : (taken, code_point) ≡ read (unit ∷ units) = of.only unit units taken code_point some within reads in
    let rest : items ≡ items_by read (place + taken) (drop taken (unit ∷ units)) =
    items_by-only Reads read of (place + taken) (drop taken (unit ∷ units)) items tiles in
    rw (items_by-cons read of.reader place unit units, ← found, at, rest) refl
