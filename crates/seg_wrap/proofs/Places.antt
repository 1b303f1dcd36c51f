-- Places of a text's items, and what begins before them.
use Rattle.std.proofs.Common.{◌≡◌, ℕ, zero, suc, ◌+◌, ◌<◌, ◌≤◌, Bool, true, false, cond, nat_lt, List, [], ◌∷◌, ◌++◌, length, take, drop, refl, sym, ap, ◌∙◌, arith}
use Rattle.std.proofs.lemmas.Bool.{le-ltb, lt-ltb, ltb-true}
use Rattle.std.proofs.lemmas.List.{drop-drop}
use Rattle.std.proofs.Math.Seq.{take-add}
use Rattle.std.specs.List.{prefix_len}
use Rattle.std.proofs.lemmas.List.Sums.{prefix_len-le-length}
use Rattle.seg_text.specs.Items.{Item, Text, IsRising, code_points, place_of, rest_after, start_of, text_before}
use Rattle.seg_text.proofs.Places.{code_points-drop, place_of-drop-lt}
use Rattle.seg_wrap.specs.Wrapping.{characters_before, count_before, rest_from}

abbrev count : ℕ → List Item → ℕ
count place items = prefix_len (λ (item : Item). nat_lt item.0 place) items

abbrev with_items : ℕ → List Item → Text
with_items end items = record { items = items; end = end }

drop-one : (n : ℕ) (item : Item) (items : List Item) → drop (1 + n) (item ∷ items) ≡ drop n items
drop-one n item items =
    let one : 1 + n ≡ suc n = omega arith in
    ap (λ (k : ℕ). drop k (item ∷ items)) one

count-on : (p q : ℕ) (items : List Item) → p ≤ q → count q items ≡ count p items + count q (drop (count p items) items)
count-on p q [] within = refl
count-on p q (item ∷ items) within = by (nat_lt item.0 p) refl (count-on p q items within)
  where
    by : (b : Bool) → nat_lt item.0 p ≡ b → count q items ≡ count p items + count q (drop (count p items) items)
        → cond (nat_lt item.0 q) (1 + count q items) 0 ≡ cond b (1 + count p items) 0 + count q (drop (cond b (1 + count p items) 0) (item ∷ items))
    by false is on = omega arith
    by true is on =
        let passes : nat_lt item.0 q ≡ true = lt-ltb item.0 q (omega (arith, within, ltb-true item.0 p is)) in
        rw (passes, drop-one (count p items) item items) (omega (arith, on))

-- what begins before a later place: what begins before an earlier one, and then the others
pub count-before-on : (text : Text) (p q : ℕ) → p ≤ q → count_before q text ≡ count_before p text + count_before q (rest_from p text)
count-before-on text p q within = count-on p q text.items within

pub rest-on : (text : Text) (p q : ℕ) → p ≤ q → rest_from q (rest_from p text) ≡ rest_from q text
rest-on text p q within =
    ap (with_items text.end)
    (drop-drop (count q (drop (count p text.items) text.items)) (count p text.items) text.items
    ∙ ap (λ (n : ℕ). drop n text.items) (omega (arith, count-on p q text.items within)))

pub characters-on : (text : Text) (p q : ℕ) → p ≤ q → characters_before q text ≡ characters_before p text ++ characters_before q (rest_from p text)
characters-on text p q within =
    let cs : List ℕ = code_points text.items in
    let m : ℕ = count p text.items in
    let n : ℕ = count q (drop m text.items) in
    ap (λ (k : ℕ). take k cs) (count-on p q text.items within)
    ∙ take-add m n cs
    ∙ ap (λ (rest : List ℕ). take m cs ++ take n rest) (sym (code_points-drop m text.items))

-- the first item begins before a place before which some item does
pub first-before : (items : List Item) (end place : ℕ) → 0 < count place items → place_of items end < place
first-before [] end place some = absurd (omega (arith, some))
first-before (item ∷ items) end place some = on (nat_lt item.0 place) refl some
  where
    on : (b : Bool) → nat_lt item.0 place ≡ b → 0 < cond b (1 + count place items) 0 → item.0 < place
    on true is some = ltb-true item.0 place is
    on false is some = absurd (omega (arith, some))

pub some-before : (items : List Item) (end place : ℕ) → place ≤ end → place_of items end < place → 0 < count place items
some-before [] end place within after = absurd (omega (arith, within, after))
some-before (item ∷ items) end place within after = rw (lt-ltb item.0 place after) (omega arith)

-- from the place of an item on there is what is left after the items before it
place-at : (items : List Item) (end k : ℕ) → IsRising items end → drop (count (place_of (drop k items) end) items) items ≡ drop k items
place-at [] end zero rises = refl
place-at [] end (suc k) rises = refl
place-at (item ∷ items) end zero rises = rw (le-ltb item.0 item.0 (omega arith)) refl
place-at (item ∷ items) end (suc k) rises =
    let place : ℕ = place_of (drop k items) end in
    let passes : nat_lt item.0 place ≡ true = lt-ltb item.0 place (place_of-drop-lt item items end (suc k) rises (omega arith)) in
    rw passes (drop-one (count place items) item items ∙ place-at items end k rises.1)

pub rest-at : (text : Text) (k : ℕ) → IsRising text.items text.end → rest_from (start_of (rest_after k text)) text ≡ rest_after k text
rest-at text k rises = ap (with_items text.end) (place-at text.items text.end k rises)

-- how many characters there are before a place
take-length : (items : List Item) (n : ℕ) → n ≤ length items → length (take n (code_points items)) ≡ n
take-length items zero within = refl
take-length [] (suc n) within = absurd (omega (arith, within))
take-length (item ∷ items) (suc n) within = ap (λ (k : ℕ). suc k) (take-length items n (omega (arith, within)))

pub count-within : (text : Text) (place : ℕ) → count_before place text ≤ length text.items
count-within text place = prefix_len-le-length (λ (item : Item). nat_lt item.0 place) text.items

pub characters-length : (text : Text) (place : ℕ) → length (characters_before place text) ≡ count_before place text
characters-length text place = take-length text.items (count place text.items) (count-within text place)

pub rest-of-characters : (text : Text) (place : ℕ) → rest_after (length (characters_before place text)) text ≡ rest_from place text
rest-of-characters text place = ap (λ (n : ℕ). rest_after n text) (characters-length text place)

-- items that rise are no more than there are places
pub place-within : (items : List Item) (end : ℕ) → IsRising items end → place_of items end ≤ end
place-within [] end rises = omega arith
place-within (item ∷ items) end rises = omega (arith, rises.0, place-within items end rises.1)

pub few-items : (items : List Item) (end : ℕ) → IsRising items end → length items + place_of items end ≤ end
few-items [] end rises = omega arith
few-items (item ∷ items) end rises = omega (arith, rises.0, few-items items end rises.1)

pub none-left : (items : List Item) (end : ℕ) → IsRising items end → place_of items end ≡ end → items ≡ []
none-left [] end rises is = refl
none-left (item ∷ items) end rises is = absurd (omega (arith, rises.0, place-within items end rises.1, is))

pub place-grows : (items : List Item) (end n : ℕ) → IsRising items end → place_of items end ≤ place_of (drop n items) end
place-grows items end zero rises = omega arith
place-grows [] end (suc n) rises = omega arith
place-grows (item ∷ items) end (suc n) rises = omega (arith, rises.0, place-grows items end n rises.1)

-- the first so many items begin where the text does
pub start-before : (n : ℕ) (text : Text) → 0 < n → start_of (text_before n text) ≡ start_of text
start-before n text some = on n text.items some
  where
    on : (n : ℕ) (items : List Item) → 0 < n → place_of (take n items) (place_of (drop n items) text.end) ≡ place_of items text.end
    on zero items some = absurd (omega (arith, some))
    on (suc n) [] some = refl
    on (suc n) (item ∷ items) some = refl
