-- What holds of the items that any reader finds, as far as the law that items rise needs it.
use Rattle.std.proofs.Common.{◌≡◌, ℕ, zero, suc, ◌+◌, ◌<◌, ◌≤◌, List, [], ◌∷◌, length, take, drop, refl, ap, arith}
use Rattle.std.proofs.lemmas.List.{length-drop}
use Rattle.seg_text.specs.Items.{IsRising, place_of, first_items, items_by, Reader}

-- an item takes one or more units, of those that there are
pub record IsReader {U : Type 0} (read : Reader U) : Type 0 where
  pub some : (unit : U) (units : List U) → 0 < (read (unit ∷ units)).0
  pub within : (unit : U) (units : List U) → (read (unit ∷ units)).0 ≤ suc (length units)

-- what it reads of an item doesn't change where the units after the item are cut off
pub record IsStable {U : Type 0} (read : Reader U) : Type 0 where
  pub reader : IsReader read
  pub stable : (most : ℕ) (unit : U) (units : List U) → (read (unit ∷ units)).0 ≤ most
      → read (take most (unit ∷ units)) ≡ read (unit ∷ units)

-- what is left after an item is shorter
pub fewer : {U : Type 0} (taken most : ℕ) (unit : U) (units : List U) → 0 < taken → suc (length units) ≤ suc most
    → length (drop taken (unit ∷ units)) ≤ most
fewer taken most unit units some bound = omega (arith, length-drop taken (unit ∷ units))

-- from so many items on, more are the same
first_items-more : {U : Type 0} (read : Reader U) → IsReader read → (most more place : ℕ) (units : List U)
    → length units ≤ most → length units ≤ more → first_items read most place units ≡ first_items read more place units
unfolding first_items
first_items-more read reader zero zero place units bound other = refl
first_items-more read reader zero (suc more) place [] bound other = refl
first_items-more read reader zero (suc more) place (unit ∷ units) bound other = absurd (omega arith)
first_items-more read reader (suc most) zero place [] bound other = refl
first_items-more read reader (suc most) zero place (unit ∷ units) bound other = absurd (omega arith)
first_items-more read reader (suc most) (suc more) place [] bound other = refl
first_items-more read reader (suc most) (suc more) place (unit ∷ units) bound other =
    let taken : ℕ = (read (unit ∷ units)).0 in
    ap (λ items. (place, (read (unit ∷ units)).1) ∷ items)
    (first_items-more read reader most more (place + taken) (drop taken (unit ∷ units))
    (fewer taken most unit units (reader.some unit units) bound)
    (fewer taken more unit units (reader.some unit units) other))

pub items_by-nil : {U : Type 0} (read : Reader U) (place : ℕ) → items_by read place [] ≡ []
unfolding first_items items_by
items_by-nil read place = refl

-- the first item, and those after it
pub items_by-cons : {U : Type 0} (read : Reader U) → IsReader read → (place : ℕ) (unit : U) (units : List U)
    → items_by read place (unit ∷ units)
    ≡ (place, (read (unit ∷ units)).1)
    ∷ items_by read (place + (read (unit ∷ units)).0) (drop (read (unit ∷ units)).0 (unit ∷ units))
unfolding first_items items_by
items_by-cons read reader place unit units =
    let taken : ℕ = (read (unit ∷ units)).0 in
    ap (λ items. (place, (read (unit ∷ units)).1) ∷ items)
    (first_items-more read reader (length units) (length (drop taken (unit ∷ units))) (place + taken)
    (drop taken (unit ∷ units)) (fewer taken (length units) unit units (reader.some unit units) (omega arith)) (omega arith))

-- the first item begins at the place that the items begin at
pub place_of-items_by : {U : Type 0} (read : Reader U) → IsReader read → (place : ℕ) (units : List U)
    → place_of (items_by read place units) (place + length units) ≡ place
place_of-items_by read reader place [] = rw (items_by-nil read place) (omega arith)
place_of-items_by read reader place (unit ∷ units) = rw (items_by-cons read reader place unit units) refl

-- there are none just where there are no units
pub items_by-empty : {U : Type 0} (read : Reader U) → IsReader read → (place : ℕ) (units : List U)
    → items_by read place units ≡ [] → units ≡ []
items_by-empty read reader place [] none = refl
items_by-empty read reader place (unit ∷ units) none =
    let some = items_by-cons read reader place unit units in cc

rising-more : {U : Type 0} (read : Reader U) → IsReader read → (most place : ℕ) (units : List U)
    → length units ≤ most → IsRising (items_by read place units) (place + length units)
rising-more {U = U} read reader most place [] bound = rw (items_by-nil read place) tt
rising-more {U = U} read reader zero place (unit ∷ units) bound = absurd (omega arith)
rising-more {U = U} read reader (suc most) place (unit ∷ units) bound =
    let taken : ℕ = (read (unit ∷ units)).0 in
    let some : 0 < taken = reader.some unit units in
    let within : taken ≤ suc (length units) = reader.within unit units in
    let rest : List U = drop taken (unit ∷ units) in
    let same : place + suc (length units) ≡ (place + taken) + length rest =
    omega (arith, length-drop taken (unit ∷ units)) in
    let next = place_of-items_by read reader (place + taken) rest in
    let rises = rising-more read reader most (place + taken) rest (fewer taken most unit units some bound) in
    rw (items_by-cons read reader place unit units, same) (rw next (omega arith), rises)

-- each item begins before the next one does, and the last before the end
pub items_by-rises : {U : Type 0} (read : Reader U) → IsReader read → (place : ℕ) (units : List U)
    → IsRising (items_by read place units) (place + length units)
items_by-rises read reader place units = rising-more read reader (length units) place units (omega arith)
