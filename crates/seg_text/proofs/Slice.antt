-- The items of a slice, and of the units before a place, over any reader that stops where an item ends.
use Rattle.std.proofs.Common.{◌≡◌, ℕ, zero, suc, ◌+◌, ◌-◌, ◌<◌, ◌≤◌, List, [], ◌∷◌, length, take, drop, refl, ap, sym, ◌∙◌, arith}
use Rattle.std.proofs.lemmas.List.{length-take, length-take-le, length-drop, drop-drop, drop-take}
use Rattle.seg_text.specs.Items.{Item, Text, slice_of, text_before, text_by, start_of, rest_after, place_of, items_by, shifted_back, Reader}
use Rattle.seg_text.specs.Lemmas.Readers.{IsReader, IsStable, items_by-nil, items_by-cons, place_of-items_by}
use Rattle.seg_text.proofs.Cursors.{items_by-from, seek-within, seek-left, seek-end}

-- the place of the k-th item is not before the first
place-after : {U : Type 0} (read : Reader U) → IsReader read → (k place : ℕ) (units : List U)
    → place ≤ place_of (drop k (items_by read place units)) (place + length units)
place-after read reader k place units =
    let from = items_by-from read reader k place units in
    let within : from.before ≤ length units = from.within in
    let end : place + length units ≡ (place + from.before) + length (drop from.before units) =
    omega (arith, length-drop from.before units) in
    let at : place_of (items_by read (place + from.before) (drop from.before units)) (place + length units) ≡ place + from.before =
    rw end (place_of-items_by read reader (place + from.before) (drop from.before units)) in
    rw (from.same, at) (omega arith)

-- the first item ends before the place of the k-th after it
step-after : {U : Type 0} (read : Reader U) → IsReader read → (k place most : ℕ) (unit : U) (units : List U)
    → place + most ≡ place_of (drop (suc k) (items_by read place (unit ∷ units))) (place + length (unit ∷ units))
    → let taken : ℕ = (read (unit ∷ units)).0 in let rest : List U = drop taken (unit ∷ units) in
    (taken ≤ most) × (place + most ≡ place_of (drop k (items_by read (place + taken) rest)) ((place + taken) + length rest))
step-after {U = U} read reader k place most unit units here =
    let taken : ℕ = (read (unit ∷ units)).0 in
    let rest : List U = drop taken (unit ∷ units) in
    let bound : taken ≤ suc (length units) = reader.within unit units in
    let end : place + suc (length units) ≡ (place + taken) + length rest = omega (arith, length-drop taken (unit ∷ units)) in
    let there : place + most ≡ place_of (drop k (items_by read (place + taken) rest)) ((place + taken) + length rest) =
    rw (items_by-cons read reader place unit units, end) at here in
    let after : place + taken ≤ place + most = rw there (place-after read reader k (place + taken) rest) in
    (omega (arith, after), there)

-- the items of the units up to the place of the k-th item are the first k, each place less `from`
pub slice-items : {U : Type 0} (read : Reader U) → IsStable read → (k from place most : ℕ) (units : List U) → from ≤ place
    → place + most ≡ place_of (drop k (items_by read place units)) (place + length units)
    → items_by read (place - from) (take most units) ≡ shifted_back from (take k (items_by read place units))
slice-items {U = U} read stable zero from place most units before here =
    let none : most ≡ 0 = omega (arith, here ∙ place_of-items_by read stable.reader place units) in
    rw none (items_by-nil read (place - from))
slice-items {U = U} read stable (suc k) from place most [] before here =
    let none : most ≡ 0 = omega (arith, rw (items_by-nil read place) at here) in
    rw (none, items_by-nil read place, items_by-nil read (place - from)) refl
slice-items {U = U} read stable (suc k) from place zero (unit ∷ units) before here =
    let some : 0 < (read (unit ∷ units)).0 = stable.reader.some unit units in
    let after = step-after read stable.reader k place zero unit units here in absurd (omega arith)
slice-items {U = U} read stable (suc k) from place (suc most) (unit ∷ units) before here =
    let taken : ℕ = (read (unit ∷ units)).0 in
    let rest : List U = drop taken (unit ∷ units) in
    let after = step-after read stable.reader k place (suc most) unit units here in
    let still : read (unit ∷ take most units) ≡ read (unit ∷ units) = stable.stable (suc most) unit units after.0 in
    let parts : taken + (suc most - taken) ≡ suc most = omega (arith, after.0) in
    let cut : drop taken (unit ∷ take most units) ≡ take (suc most - taken) rest =
    ap (λ n. drop taken (take n (unit ∷ units))) (sym parts) ∙ drop-take taken (suc most - taken) (unit ∷ units) in
    let moved : (place - from) + taken ≡ (place + taken) - from = omega arith in
    let further : (place + taken) + (suc most - taken) ≡ place + suc most = omega (arith, parts) in
    let more = slice-items read stable k from (place + taken) (suc most - taken) rest (omega arith) (further ∙ after.1) in
    rw (items_by-cons read stable.reader (place - from) unit (take most units), items_by-cons read stable.reader place unit units, still, cut, moved)
    (ap (λ items. (place - from, (read (unit ∷ units)).1) ∷ items) more)

-- the two places of a slice are in order, and its items are those between them
slice-found : {U : Type 0} (read : Reader U) → IsStable read → (j k from to start : ℕ) (text : List U) → start ≤ length text
    → from ≡ place_of (drop j (items_by read start (drop start text))) (start + length (drop start text))
    → to ≡ place_of (drop (j + k) (items_by read start (drop start text))) (start + length (drop start text))
    → (from ≤ to)
    × (items_by read 0 (take (to - from) (drop from text)) ≡ shifted_back from (take k (drop j (items_by read start (drop start text)))))
slice-found read stable j k from to start text inside begins ends =
    let left = seek-left read stable.reader j from start text inside begins in
    let within = seek-within read stable.reader j from start text inside begins in
    let same_end = seek-end from start text within inside in
    let reaches : to ≡ place_of (drop k (items_by read from (drop from text))) (from + length (drop from text)) =
    rw (left, same_end, drop-drop k j (items_by read start (drop start text))) ends in
    let after : from ≤ to = rw reaches (place-after read stable.reader k from (drop from text)) in
    let parts : from + (to - from) ≡ to = omega arith in
    let nothing : from - from ≡ 0 = omega arith in
    let items = slice-items read stable k from from (to - from) (drop from text) (omega arith) (parts ∙ reaches) in
    (after, rw (nothing, left) at items)

pub slice-order : {U : Type 0} (read : Reader U) → IsStable read → (j k from to start : ℕ) (text : List U) → start ≤ length text
    → from ≡ place_of (drop j (items_by read start (drop start text))) (start + length (drop start text))
    → to ≡ place_of (drop (j + k) (items_by read start (drop start text))) (start + length (drop start text))
    → from ≤ to
slice-order read stable j k from to start text inside begins ends =
    (slice-found read stable j k from to start text inside begins ends).0

-- as a text
pub slice-text : {U : Type 0} (read : Reader U) → IsStable read → (j k from to start : ℕ) (text : List U) → start ≤ length text
    → from ≡ place_of (drop j (items_by read start (drop start text))) (start + length (drop start text))
    → to ≡ place_of (drop (j + k) (items_by read start (drop start text))) (start + length (drop start text))
    → let part : List U = take (to - from) (drop from text) in
    let slice : Text = record { items = items_by read 0 part; end = 0 + length part } in
    slice ≡ slice_of j k (record { items = items_by read start (drop start text); end = start + length (drop start text) })
slice-text read stable j k from to start text inside begins ends =
    let found = slice-found read stable j k from to start text inside begins ends in
    let order : from ≤ to = found.0 in
    let within : to ≤ length text = seek-within read stable.reader (j + k) to start text inside ends in
    let long : 0 + length (take (to - from) (drop from text)) ≡ to - from =
    omega (arith, length-take (to - from) (drop from text), length-drop from text) in
    rw (found.1, long, ← begins, ← ends) refl

-- the units before the place of the k-th item: their places stay, so nothing is taken off them

shifted-none : (items : List Item) → shifted_back 0 items ≡ items
shifted-none [] = refl
shifted-none ((place, code_point) ∷ items) =
    let same : place - 0 ≡ place = omega arith in
    rw (same, shifted-none items) refl

-- from the cursor on, where the text is `text` and `start` the place of the cursor
pub record IsUpTo {U : Type 0} (read : Reader U) (k to start : ℕ) (text : List U) : Type 0 where
  pub after : start ≤ to
  pub within : to ≤ length text
  pub long : length (take to text) ≡ to
  pub units : drop start (take to text) ≡ take (to - start) (drop start text)
  pub before : text_by read start (drop start (take to text)) ≡ text_before k (text_by read start (drop start text))

pub up_to-found : {U : Type 0} (read : Reader U) → IsStable read → (k to start : ℕ) (text : List U) → start ≤ length text
    → to ≡ start_of (rest_after k (text_by read start (drop start text))) → IsUpTo read k to start text
up_to-found read stable k to start text inside ends =
    let after : start ≤ to = rw ends (place-after read stable.reader k start (drop start text)) in
    let within : to ≤ length text = seek-within read stable.reader k to start text inside ends in
    let long : length (take to text) ≡ to = length-take-le to text within in
    let parts : start + (to - start) ≡ to = omega (arith, after) in
    let units : drop start (take to text) ≡ take (to - start) (drop start text) =
    ap (λ n. drop start (take n text)) (sym parts) ∙ drop-take start (to - start) text in
    let none : start - 0 ≡ start = omega arith in
    let found = slice-items read stable k 0 start (to - start) (drop start text) (omega arith) (parts ∙ ends) in
    let items : items_by read start (drop start (take to text)) ≡ take k (items_by read start (drop start text)) =
    rw units (rw (none, shifted-none (take k (items_by read start (drop start text)))) at found) in
    let end : start + length (drop start (take to text)) ≡ to = omega (arith, length-drop start (take to text), long, after) in
    record { after = after; within = within; long = long; units = units; before = rw (items, end, ← ends) refl }
