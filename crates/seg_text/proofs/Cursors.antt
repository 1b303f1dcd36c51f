-- What the cursors of all encodings owe, over any reader.
use Rattle.std.proofs.Common.{◌≡◌, ℕ, zero, suc, ◌+◌, ◌<◌, ◌≤◌, List, [], ◌∷◌, length, drop, refl, ap, sym, ◌∙◌, nat_eq, arith}
use Rattle.std.proofs.lemmas.List.{length-drop, drop-drop, drop_all}
use Rattle.std.proofs.lemmas.Bool.{eq-eqb, ne_eqb}
use Rattle.std.proofs.Math.Dec.{eqb-suc-zero}
use Rattle.std.specs.Prelude.{Some, ⊤}
use Rattle.std.specs.Iterator.{MakesProgress, item_count}
use Rattle.seg_text.specs.Items.{Rest, GoesOn, Text, BeginsWide, rest_after, place_of, items_by, Reader, Reading}
use Rattle.seg_text.specs.Lemmas.Readers.{IsReader, items_by-nil, items_by-cons, place_of-items_by}

-- the items after the first k are those of the units after the first so many
pub record IsFrom {U : Type 0} (read : Reader U) (k place : ℕ) (units : List U) : Type 0 where
  pub before : ℕ
  pub within : before ≤ length units
  pub same : drop k (items_by read place units) ≡ items_by read (place + before) (drop before units)

pub items_by-from : {U : Type 0} (read : Reader U) → IsReader read → (k place : ℕ) (units : List U) → IsFrom read k place units
items_by-from read reader zero place units =
    let start : place + 0 ≡ place = omega arith in
    record { before = 0; within = omega arith; same = rw start refl }
items_by-from read reader (suc k) place [] =
    let start : place + 0 ≡ place = omega arith in
    record { before = 0; within = omega arith; same = rw (start, items_by-nil read place) refl }
items_by-from read reader (suc k) place (unit ∷ units) =
    let taken : ℕ = (read (unit ∷ units)).0 in
    let bound : taken ≤ suc (length units) = reader.within unit units in
    let rest = items_by-from read reader k (place + taken) (drop taken (unit ∷ units)) in
    let further : place + (taken + rest.before) ≡ (place + taken) + rest.before = omega arith in
    let within : rest.before ≤ length (drop taken (unit ∷ units)) = rest.within in
    record {
      before = taken + rest.before;
      within = omega (arith, length-drop taken (unit ∷ units));
      same = rw (items_by-cons read reader place unit units, further, ← drop-drop rest.before taken (unit ∷ units)) rest.same;
    }

-- the place of an item that isn't read yet, and what is left there, where the text is `text` and `start` the place of the cursor
seek-found : {U : Type 0} (read : Reader U) → IsReader read → (k place start : ℕ) (text : List U) → start ≤ length text
    → place ≡ place_of (drop k (items_by read start (drop start text))) (start + length (drop start text))
    → (place ≤ length text) × (items_by read place (drop place text) ≡ drop k (items_by read start (drop start text)))
seek-found read reader k place start text inside here =
    let from = items_by-from read reader k start (drop start text) in
    let within : from.before ≤ length (drop start text) = from.within in
    let end : start + length (drop start text) ≡ (start + from.before) + length (drop from.before (drop start text)) =
    omega (arith, length-drop from.before (drop start text)) in
    let is : place ≡ start + from.before =
    (rw (from.same, end) at here) ∙ place_of-items_by read reader (start + from.before) (drop from.before (drop start text)) in
    let same : items_by read place (drop place text) ≡ drop k (items_by read start (drop start text)) =
    rw (is, ← drop-drop from.before start text) (sym from.same) in
    (omega (arith, length-drop start text), same)

pub seek-within : {U : Type 0} (read : Reader U) → IsReader read → (k place start : ℕ) (text : List U) → start ≤ length text
    → place ≡ place_of (drop k (items_by read start (drop start text))) (start + length (drop start text))
    → place ≤ length text
seek-within read reader k place start text inside here = (seek-found read reader k place start text inside here).0

pub seek-left : {U : Type 0} (read : Reader U) → IsReader read → (k place start : ℕ) (text : List U) → start ≤ length text
    → place ≡ place_of (drop k (items_by read start (drop start text))) (start + length (drop start text))
    → items_by read place (drop place text) ≡ drop k (items_by read start (drop start text))
seek-left read reader k place start text inside here = (seek-found read reader k place start text inside here).1

-- the end stays the same
pub seek-end : {U : Type 0} (place start : ℕ) (text : List U) → place ≤ length text → start ≤ length text
    → place + length (drop place text) ≡ start + length (drop start text)
seek-end place start text inside before = omega (arith, length-drop place text, length-drop start text)

-- what is left there, as a text
pub seek-text : {U : Type 0} (read : Reader U) → IsReader read → (k place start : ℕ) (text : List U) → start ≤ length text
    → place ≡ place_of (drop k (items_by read start (drop start text))) (start + length (drop start text))
    → let there : Text = record { items = items_by read place (drop place text); end = place + length (drop place text) } in
    there ≡ rest_after k (record { items = items_by read start (drop start text); end = start + length (drop start text) })
seek-text read reader k place start text inside here =
    rw (seek-left read reader k place start text inside here, seek-end place start text (seek-within read reader k place start text inside here) inside) refl

-- it is at the end just where no item is left
pub at-end : {U : Type 0} (read : Reader U) → IsReader read → (start : ℕ) (text : List U) → start ≤ length text
    → nat_eq start (length text) ≡ nat_eq (length (items_by read start (drop start text))) 0
at-end {U = U} read reader start text inside = on (drop start text) refl
  where
    on : (units : List U) → drop start text ≡ units → nat_eq start (length text) ≡ nat_eq (length (items_by read start units)) 0
    on [] is =
        let last : start ≡ length text = omega (arith, length-drop start text, ap length is) in
        rw (items_by-nil read start) (eq-eqb start (length text) last)
    on (unit ∷ units) is =
        let before : start < length text = omega (arith, length-drop start text, ap length is) in
        rw (items_by-cons read reader start unit units) (ne_eqb start (length text) (λ same. omega arith) ∙ sym (eqb-suc-zero _))

-- what one call of `next` reads
pub next-item : {U : Type 0} (read : Reader U) → IsReader read → (start : ℕ) (text : List U) (found : Reading) → start < length text
    → found ≡ read (drop start text)
    → items_by read start (drop start text) ≡ (start, found.1) ∷ items_by read (start + found.0) (drop (start + found.0) text)
next-item {U = U} read reader start text found inside reads = on (drop start text) refl reads
  where
    on : (units : List U) → drop start text ≡ units → found ≡ read units
        → items_by read start units ≡ (start, found.1) ∷ items_by read (start + found.0) (drop (start + found.0) text)
    on [] is reads = absurd (omega (arith, length-drop start text, ap length is))
    on (unit ∷ units) is reads =
        rw (items_by-cons read reader start unit units, ← reads, ← drop-drop found.0 start text, is) refl

-- what is left begins wide where its first item does, and where nothing is left
pub begins-wide : {U : Type 0} (read : Reader U) → IsReader read → (start : ℕ) (text : List U)
    → (start < length text → 0x80 ≤ (read (drop start text)).1) → BeginsWide (items_by read start (drop start text))
begins-wide {U = U} read reader start text wide = on (drop start text) refl wide
  where
    on : (units : List U) → drop start text ≡ units → (start < length text → 0x80 ≤ (read units).1) → BeginsWide (items_by read start units)
    on [] is wide = rw (items_by-nil read start) tt
    on (unit ∷ units) is wide =
        rw (items_by-cons read reader start unit units) (wide (omega (arith, length-drop start text, ap length is)))

-- and where it goes
pub goes-on : {U : Type 0} (taken start : ℕ) (text : List U) → start + taken ≤ length text
    → GoesOn (record { place = start; units = drop start text }) (record { place = start + taken; units = drop (start + taken) text })
goes-on taken start text inside = (taken, omega (arith, length-drop start text), refl, sym (drop-drop taken start text))

pub stays : {U : Type 0} (rest : Rest U) → GoesOn rest rest
stays rest = (0, omega arith, omega arith, refl)

pub same-end : {U : Type 0} (earlier later : Rest U) → GoesOn earlier later
    → later.place + length later.units ≡ earlier.place + length earlier.units
same-end earlier later (taken, within, place, units) =
    omega (arith, ap length units, length-drop taken earlier.units)

pub nothing-left : {U : Type 0} (read : Reader U) (start : ℕ) (text : List U) → length text ≤ start
    → items_by read start (drop start text) ≡ []
nothing-left read start text past = rw (drop_all start text past) (items_by-nil read start)

-- a call that gave the first of the items that were left has fewer left
pub fewer-left : {S A : Type 0} (left : S → List A) (s t : S) (item : A) → left s ≡ item ∷ left t
    → MakesProgress (λ _. ⊤) (item_count left) s (Some item) t
fewer-left left s t item gave =
    record { on = λ _. (tt, tt, omega (arith, ap length gave)); keeps = tt; rests = λ _. tt }

-- an item ends within the text
pub taken-within : {U : Type 0} (read : Reader U) → IsReader read → (start : ℕ) (text : List U) (found : Reading) → start < length text
    → found ≡ read (drop start text) → start + found.0 ≤ length text
taken-within {U = U} read reader start text found inside reads = on (drop start text) refl reads
  where
    on : (units : List U) → drop start text ≡ units → found ≡ read units → start + found.0 ≤ length text
    on [] is reads = absurd (omega (arith, length-drop start text, ap length is))
    on (unit ∷ units) is reads =
        let bound : found.0 ≤ suc (length units) = rw reads (reader.within unit units) in
        omega (arith, length-drop start text, ap length is)
