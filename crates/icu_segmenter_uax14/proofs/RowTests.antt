-- What the symbols next to a place say of a row there: that it may fit, or that it surely does; and so of the first row that fits.
use Rattle.std.proofs.Common.{◌≡◌, ℕ, Bool, true, false, not, ◌&&◌, ◌||◌, ◌==◌, List, [], ◌∷◌, ◌++◌, reverse, get_or, refl, sym, ap, ap₂, ◌∙◌, inl, inr, append_assoc, subst, eqb-true}
use Rattle.std.specs.Prelude.{◌↔◌, slice_index_or}
use Rattle.std.proofs.lemmas.Bool.{and_parts, cond-true, cond-false, or_cases, or_left, or_right, not_from_true}
use Rattle.std.proofs.lemmas.List.{reverse-append, reverse-reverse}
use Rattle.seg_rules.specs.declared.rules.Count.{Count}
use Rattle.seg_rules.specs.declared.rules.Count.TheVariants.{One, Optional, Star, Pairs}
use Rattle.seg_rules.specs.RowRules.{Pattern, Row, has}
use Rattle.seg_rules.specs.Patterns.{BeginsWith, EndsIn, Fits, FitsItem}
use Rattle.seg_rules.specs.Plain.{first_row, row_fits}
use Rattle.icu_segmenter_uax29.proofs.Lists.{bool-cases}

-- ---- the nearest symbol, and the next

-- symbols that fit a pattern, after others that may end as `here` says, may have this one nearest
unfoldable pub may_end : Bool → Pattern → ℕ → Bool
may_end here [] x = here
may_end here ((class, One) ∷ items) x = may_end (has class x) items x
may_end here ((class, Optional) ∷ items) x = may_end (here || has class x) items x
may_end here ((class, Star) ∷ items) x = may_end (here || has class x) items x
may_end here ((class, Pairs) ∷ items) x = may_end (here || has class x) items x

-- and may have this one first
unfoldable pub may_begin : Pattern → ℕ → Bool
may_begin [] y = true
may_begin ((class, One) ∷ items) y = has class y
may_begin ((class, Optional) ∷ items) y = true
may_begin ((class, Star) ∷ items) y = true
may_begin ((class, Pairs) ∷ items) y = true

-- a row may fit between a symbol and the next
abbrev pub may_fit : ℕ → ℕ → Row → Bool
may_fit x y row = may_end true row.left x && may_begin row.right y

same-head : (z x : ℕ) (zs xs : List ℕ) → z ∷ zs ≡ x ∷ xs → z ≡ x
same-head z x zs xs is = ap (λ all. get_or all 0 0) is

has-same : (class z x : ℕ) → z ≡ x → has class z ≡ true → has class x ≡ true
has-same class z x is has_z = subst (λ n. has class n ≡ true) is has_z

-- what fits an item begins with a symbol of its class
pub nearest-has : (class : ℕ) (count : Count) (x : ℕ) (xs : List ℕ) → FitsItem class count (x ∷ xs) → has class x ≡ true
nearest-has class One x xs (z, (is, has_z)) = has-same class z x (sym (same-head x z xs [] is)) has_z
nearest-has class Optional x xs (inl none) = cc
nearest-has class Optional x xs (inr (z, (is, has_z))) = has-same class z x (sym (same-head x z xs [] is)) has_z
nearest-has class Star x xs (has_x, more) = has_x
nearest-has class Pairs x [] fits = absurd fits
nearest-has class Pairs x (y ∷ xs) ((has_x, has_y), more) = has_x

-- where nothing fits what comes later, the item has the nearest symbol, or nothing fits it either
item-ends : (class : ℕ) (count : Count) (later own farther : List ℕ) (here : Bool) (x : ℕ) (rest : List ℕ) → FitsItem class count own → later ≡ []
    → later ++ (own ++ farther) ≡ x ∷ rest → (own ≡ [] → here ≡ true) → (here || has class x) ≡ true
item-ends class count later [] farther here x rest fits none are empty = or_left here _ (empty refl)
item-ends class count later (z ∷ own) farther here x rest fits none are empty =
    let all : (z ∷ own) ++ farther ≡ x ∷ rest = ap (λ l. l ++ ((z ∷ own) ++ farther)) (sym none) ∙ are in
    or_right here _ (has-same class z x (same-head z x (own ++ farther) rest all) (nearest-has class count z own fits))

one-ends : (class : ℕ) (later own farther : List ℕ) (x : ℕ) (rest : List ℕ) → FitsItem class One own → later ≡ []
    → later ++ (own ++ farther) ≡ x ∷ rest → has class x ≡ true
one-ends class later own farther x rest (z, (is, has_z)) none are =
    let all : (z ∷ []) ++ farther ≡ x ∷ rest = sym (ap₂ (λ (l o : List ℕ). l ++ (o ++ farther)) none is) ∙ are in
    has-same class z x (same-head z x farther rest all) has_z

ends-there : (pattern : Pattern) (nearest farther : List ℕ) (here : Bool) (x : ℕ) (rest : List ℕ) → Fits pattern nearest
    → nearest ++ farther ≡ x ∷ rest → (nearest ≡ [] → here ≡ true) → may_end here pattern x ≡ true
unfolding may_end
ends-there [] nearest farther here x rest fits are empty = empty fits
ends-there ((class, One) ∷ items) nearest farther here x rest (later, own, (is, (item, fits))) are empty =
    let all = sym (append_assoc later own farther) ∙ ap (λ xs. xs ++ farther) (sym is) ∙ are in
    ends-there items later (own ++ farther) (has class x) x rest fits all (λ none. one-ends class later own farther x rest item none all)
ends-there ((class, Optional) ∷ items) nearest farther here x rest (later, own, (is, (item, fits))) are empty =
    let all = sym (append_assoc later own farther) ∙ ap (λ xs. xs ++ farther) (sym is) ∙ are in
    ends-there items later (own ++ farther) (here || has class x) x rest fits all
    (λ none. item-ends class Optional later own farther here x rest item none all (λ nothing. empty (is ∙ ap₂ (λ (l o : List ℕ). l ++ o) none nothing)))
ends-there ((class, Star) ∷ items) nearest farther here x rest (later, own, (is, (item, fits))) are empty =
    let all = sym (append_assoc later own farther) ∙ ap (λ xs. xs ++ farther) (sym is) ∙ are in
    ends-there items later (own ++ farther) (here || has class x) x rest fits all
    (λ none. item-ends class Star later own farther here x rest item none all (λ nothing. empty (is ∙ ap₂ (λ (l o : List ℕ). l ++ o) none nothing)))
ends-there ((class, Pairs) ∷ items) nearest farther here x rest (later, own, (is, (item, fits))) are empty =
    let all = sym (append_assoc later own farther) ∙ ap (λ xs. xs ++ farther) (sym is) ∙ are in
    ends-there items later (own ++ farther) (here || has class x) x rest fits all
    (λ none. item-ends class Pairs later own farther here x rest item none all (λ nothing. empty (is ∙ ap₂ (λ (l o : List ℕ). l ++ o) none nothing)))

begins-there : (pattern : Pattern) (own rest : List ℕ) (y : ℕ) (after : List ℕ) → y ∷ after ≡ own ++ rest → Fits pattern (reverse own) → may_begin pattern y ≡ true
unfolding may_begin
begins-there [] own rest y after are fits = refl
begins-there ((class, Optional) ∷ items) own rest y after are fits = refl
begins-there ((class, Star) ∷ items) own rest y after are fits = refl
begins-there ((class, Pairs) ∷ items) own rest y after are fits = refl
begins-there ((class, One) ∷ items) own rest y after are (later, mine, (is, ((z, (alone, has_z)), fits))) =
    let turned : own ≡ z ∷ reverse later =
    sym (reverse-reverse own) ∙ ap reverse (is ∙ ap (λ o. later ++ o) alone) ∙ reverse-append later (z ∷ []) in
    has-same class z y (sym (same-head y z after (reverse later ++ rest) (are ∙ ap (λ o. o ++ rest) turned))) has_z

-- what a row's fitting is, by patterns
abbrev pub ByPatterns : Type 0
ByPatterns = (row : Row) (before after : List ℕ) → (row_fits row before after ≡ true) ↔ (EndsIn row.left before × BeginsWith row.right after)

pub fits-may : ByPatterns → (row : Row) (x y : ℕ) (past rest : List ℕ) → row_fits row (x ∷ past) (y ∷ rest) ≡ true → may_fit x y row ≡ true
fits-may by row x y past rest fits =
    let ((own, farther, (left, ends)), (mine, further, (right, begins))) = (by row (x ∷ past) (y ∷ rest)).0 fits in
    ap₂ (λ (a b : Bool). a && b) (ends-there row.left own farther true x past ends (sym left) (λ none. refl))
    (begins-there row.right mine further y rest right begins)

-- a row that fits between some symbols fits there in every text
abbrev pub sure_fit : List ℕ → List ℕ → Row → Bool
sure_fit xs ys row = row_fits row xs ys

pub sure-fits : ByPatterns → (row : Row) (xs ys past rest : List ℕ) → sure_fit xs ys row ≡ true → row_fits row (xs ++ past) (ys ++ rest) ≡ true
sure-fits by row xs ys past rest sure =
    let ((own, farther, (left, ends)), (mine, further, (right, begins))) = (by row xs ys).0 sure in
    (by row (xs ++ past) (ys ++ rest)).1 (
      (own, farther ++ past, (ap (λ all. all ++ past) left ∙ append_assoc own farther past, ends)),
      (mine, further ++ rest, (ap (λ all. all ++ rest) right ∙ append_assoc mine further rest, begins)),
    )

-- ---- a left side that is known to fit

abbrev count_number : Count → ℕ
count_number One = 0
count_number Optional = 1
count_number Star = 2
count_number Pairs = 3

abbrev count_from : ℕ → Count
count_from n = slice_index_or (One ∷ Optional ∷ Star ∷ Pairs ∷ []) n One

count-back : (count : Count) → count_from (count_number count) ≡ count
count-back One = refl
count-back Optional = refl
count-back Star = refl
count-back Pairs = refl

unfoldable pub same_items : Pattern → Pattern → Bool
same_items [] [] = true
same_items [] (item ∷ items) = false
same_items (item ∷ items) [] = false
same_items ((class, count) ∷ items) ((class2, count2) ∷ items2) = (class == class2 && count_number count == count_number count2) && same_items items items2

pub same-items : (p q : Pattern) → same_items p q ≡ true → p ≡ q
unfolding same_items
same-items [] [] same = refl
same-items [] (item ∷ items) same = cc
same-items (item ∷ items) [] same = cc
same-items ((class, count) ∷ items) ((class2, count2) ∷ items2) same =
    let parts = and_parts (class == class2 && count_number count == count_number count2) _ same in
    let here = and_parts (class == class2) _ parts.0 in
    let class_is = eqb-true class class2 here.0 in
    let count_is = sym (count-back count) ∙ ap count_from (eqb-true _ _ here.1) ∙ count-back count2 in
    let rest = same-items items items2 parts.1 in
    λ i. (class_is i, count_is i) ∷ rest i

-- the row without its left side
abbrev right_side : Row → Row
right_side row = record { left = []; right = row.right; verdict = 0 }

-- a row surely fits between some symbols, or where this left side fits before the next
abbrev pub sure_after : Pattern → ℕ → ℕ → Row → Bool
sure_after left x y row = sure_fit (x ∷ []) (y ∷ []) row || (same_items row.left left && row_fits (right_side row) [] (y ∷ []))

pub after-fits : ByPatterns → (row : Row) (left : Pattern) (x y : ℕ) (more further : List ℕ) → EndsIn left (x ∷ more) → sure_after left x y row ≡ true
    → row_fits row (x ∷ more) (y ∷ further) ≡ true
after-fits by row left x y more further ends sure = elim (or_cases (sure_fit (x ∷ []) (y ∷ []) row) _ sure) [
  | inl fits ↦ sure-fits by row (x ∷ []) (y ∷ []) more further fits
  | inr after ↦
      let parts = and_parts (same_items row.left left) _ after in
      let (nothing, (mine, rest, (right, begins))) = (by (right_side row) [] (y ∷ [])).0 parts.1 in
      (by row (x ∷ more) (y ∷ further)).1 (
        subst (λ p. EndsIn p (x ∷ more)) (sym (same-items row.left left parts.0)) ends,
        (mine, rest ++ further, (ap (λ all. all ++ further) right ∙ append_assoc mine rest further, begins)),
      )
]

-- ---- the first row that fits

-- whatever row is the first that fits, its verdict passes a test: rows of other verdicts can't fit, up to one that surely does
unfoldable pub keeps : (ℕ → Bool) → (Row → Bool) → (Row → Bool) → List Row → Bool → Bool
keeps test may sure [] otherwise = otherwise
keeps test may sure (row ∷ rows) otherwise =
    (test row.verdict || not (may row)) && ((test row.verdict && (may row && sure row)) || keeps test may sure rows otherwise)

pub clash : {b : Bool} → b ≡ true → not b ≡ true → ⊥
clash {b} is other = let no : true ≡ false = sym other ∙ not_from_true b is in cc

module _ (test : ℕ → Bool) (may sure : Row → Bool) (before after : List ℕ)
    (may-be : (row : Row) → row_fits row before after ≡ true → may row ≡ true)
    (surely : (row : Row) → sure row ≡ true → row_fits row before after ≡ true) where
  pub first-kept : (rows : List Row) (end : Bool) (otherwise : ℕ) → keeps test may sure rows end ≡ true → (end ≡ true → test otherwise ≡ true)
      → test (first_row rows before after otherwise) ≡ true
  unfolding keeps first_row
  first-kept [] end otherwise kept last = last kept
  first-kept (row ∷ rows) end otherwise kept last =
      let parts = and_parts (test row.verdict || not (may row)) _ kept in
      let further = first_row rows before after otherwise in
      elim (bool-cases (row_fits row before after)) [
        | inl fits ↦
            ap test (cond-true (row_fits row before after) row.verdict further fits)
            ∙ elim (or_cases (test row.verdict) _ parts.0) [
              | inl passes ↦ passes
              | inr not_there ↦ absurd (clash (may-be row fits) not_there)
            ]
        | inr other ↦
            ap test (cond-false (row_fits row before after) row.verdict further other)
            ∙ elim (or_cases (test row.verdict && (may row && sure row)) _ parts.1) [
              | inl both ↦
                  let fits = surely row (and_parts (may row) _ (and_parts (test row.verdict) _ both).1).1 in
                  let no : true ≡ false = sym fits ∙ other in cc
              | inr later ↦ first-kept rows end otherwise later last
            ]
      ]
