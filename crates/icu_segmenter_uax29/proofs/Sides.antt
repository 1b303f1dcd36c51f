-- Rows whose sides are short, read without flags.
use Rattle.std.proofs.Common.{◌≡◌, ℕ, zero, suc, ◌<◌, Bool, true, false, cond, not, ◌&&◌, ◌||◌, ◌==◌, nat_lt, List, [], ◌∷◌, length, refl, sym, ap, ◌∙◌, lt-ltb}
use Rattle.std.proofs.lemmas.Bool.{and_parts}
use Rattle.ucd_table.proofs.TrieCheck.{all_below, all_below-at}
use Rattle.unicode_segmentation.proofs.BoolLemmas.{and-false, or-false}
use Rattle.seg_rules.specs.declared.rules.Count.TheVariants.{One, Star}
use Rattle.seg_rules.specs.RowRules.{Pattern, Row, has, flow, no_flags, is_full, is_live, once}
use Rattle.seg_rules.specs.Patterns.{flags}
use Rattle.seg_rules.specs.Plain.{first_row, right_fits, row_fits}
use Rattle.seg_rules.proofs.Adequacy.{after_one, after_pairs, full-is, reached}
use Rattle.seg_rules.proofs.Bits.{once_is}
use Rattle.seg_rules.proofs.Verdicts.{dead-fits, fits_on, right-fits-on}
use Rattle.icu_segmenter_uax29.proofs.Tests.{implied, implies}

-- a side may begin anywhere
abbrev pub anywhere : List ℕ → Bool
anywhere past = true

-- whether a left side fits what stands before a place, nearest first
abbrev pub left_by : List ℕ → Pattern → Bool
left_by before pattern = reached pattern anywhere before

-- whether a symbol of a class comes, at once or after any number of another class
abbrev pub next_in : ℕ → List ℕ → Bool
next_in class [] = false
next_in class (x ∷ xs) = has class x

unfoldable pub comes : ℕ → ℕ → List ℕ → Bool
comes over class [] = false
comes over class (x ∷ xs) = has class x || (has over x && comes over class xs)

-- whether a right side fits a symbol and what comes after it
abbrev pub right_by : ℕ → List ℕ → Pattern → Bool
right_by x after [] = true
right_by x after ((class, One) ∷ []) = has class x
right_by x after ((class, One) ∷ ((further, One) ∷ [])) = has class x && next_in further after
right_by x after ((over, Star) ∷ ((class, One) ∷ [])) = comes over class (x ∷ after)
right_by x after pattern = right_fits pattern [] (x ∷ after)

right-one : (class x : ℕ) (after : List ℕ) → right_fits ((class, One) ∷ []) [] (x ∷ after) ≡ has class x
unfolding flags flow no_flags is_full is_live fits_on
right-one class x [] = right-fits-on ((class, One) ∷ []) [] (x ∷ []) ∙ or-false (has class x)
right-one class x (y ∷ ys) =
    right-fits-on ((class, One) ∷ []) [] (x ∷ (y ∷ ys))
    ∙ ap (λ b. has class x || b) (dead-fits ((class, One) ∷ []) (false ∷ (false ∷ [])) ys refl) ∙ or-false (has class x)

right-two : (class further x : ℕ) (after : List ℕ)
    → right_fits ((class, One) ∷ ((further, One) ∷ [])) [] (x ∷ after) ≡ (has class x && next_in further after)
unfolding flags flow no_flags is_full is_live fits_on
right-two class further x [] = right-fits-on ((class, One) ∷ ((further, One) ∷ [])) [] (x ∷ []) ∙ sym (and-false (has class x))
right-two class further x (y ∷ []) =
    right-fits-on ((class, One) ∷ ((further, One) ∷ [])) [] (x ∷ (y ∷ [])) ∙ or-false (has class x && has further y)
right-two class further x (y ∷ (z ∷ zs)) =
    right-fits-on ((class, One) ∷ ((further, One) ∷ [])) [] (x ∷ (y ∷ (z ∷ zs)))
    ∙ ap (λ b. (has class x && has further y) || b) (dead-fits ((class, One) ∷ ((further, One) ∷ [])) (false ∷ (false ∷ (false ∷ []))) zs refl)
    ∙ or-false (has class x && has further y)

spread : (b here over later : Bool) → ((b && here) || ((b && over) && later)) ≡ (b && (here || (over && later)))
spread true here over later = refl
spread false here over later = refl

until-on : (over class : ℕ) (b c : Bool) (ys : List ℕ)
    → fits_on ((over, Star) ∷ ((class, One) ∷ [])) (b ∷ (b ∷ (c ∷ []))) ys ≡ (b && comes over class ys)
unfolding flow is_full fits_on comes
until-on over class b c [] = sym (and-false b)
until-on over class b c (y ∷ ys) =
    ap (λ live. is_full live || fits_on ((over, Star) ∷ ((class, One) ∷ [])) live ys)
    (once_is (b && has over y) (λ here. here ∷ (here ∷ ((b && has class y) ∷ []))))
    ∙ ap (λ later. (b && has class y) || later) (until-on over class (b && has over y) (b && has class y) ys)
    ∙ spread b (has class y) (has over y) (comes over class ys)

right-until : (over class x : ℕ) (after : List ℕ)
    → right_fits ((over, Star) ∷ ((class, One) ∷ [])) [] (x ∷ after) ≡ comes over class (x ∷ after)
unfolding flags flow no_flags is_full once
right-until over class x after =
    right-fits-on ((over, Star) ∷ ((class, One) ∷ [])) [] (x ∷ after) ∙ until-on over class true false (x ∷ after)

right-none : (x : ℕ) (after : List ℕ) → right_fits [] [] (x ∷ after) ≡ true
unfolding flags flow no_flags is_full right_fits
right-none x after = refl

right-is : (x : ℕ) (after : List ℕ) (pattern : Pattern) → right_fits pattern [] (x ∷ after) ≡ right_by x after pattern
right-is x after [] = right-none x after
right-is x after ((class, One) ∷ []) = right-one class x after
right-is x after ((class, One) ∷ ((further, One) ∷ [])) = right-two class further x after
right-is x after ((over, Star) ∷ ((class, One) ∷ [])) = right-until over class x after
right-is x after _ = refl

-- ---- rows

-- whether the first row that fits joins, or where none fits, by what says which sides fit
unfoldable pub joined : List Row → (left right : Pattern → Bool) → Bool → Bool
joined [] left right otherwise = otherwise
joined (row ∷ rows) left right otherwise = cond (left row.left && right row.right) (row.verdict == 0) (joined rows left right otherwise)

pub joins-either : (b : Bool) (v w : ℕ) → (cond b v w == 0) ≡ cond b (v == 0) (w == 0)
joins-either true v w = refl
joins-either false v w = refl

pub joined-is : (rows : List Row) (before : List ℕ) (x : ℕ) (after : List ℕ) (otherwise : ℕ)
    → (first_row rows before (x ∷ after) otherwise == 0) ≡ joined rows (left_by before) (right_by x after) (otherwise == 0)
unfolding first_row joined
joined-is [] before x after otherwise = refl
joined-is (row ∷ rows) before x after otherwise =
    joins-either (row_fits row before (x ∷ after)) row.verdict (first_row rows before (x ∷ after) otherwise)
    ∙ (λ i. cond (full-is row.left anywhere before i && right-is x after row.right i) (row.verdict == 0) (joined-is rows before x after otherwise i))

-- ---- an even or odd number of symbols of a class at the end, after the start of the text or another symbol

pub record Flags (edge other class : ℕ) (xs : List ℕ) (half : Bool) : Type 0 where
  pub even : ((after_pairs class (after_one edge anywhere) xs).0 || (after_pairs class (after_one other anywhere) xs).0) ≡ not half
  pub odd : ((after_pairs class (after_one edge anywhere) xs).1 || (after_pairs class (after_one other anywhere) xs).1) ≡ half

even-on : (p q is half : Bool) → (p || q) ≡ half → ((p && is) || (not is || (q && is))) ≡ not (is && not half)
even-on true q true half h = ap (λ b. not (not b)) h
even-on false true true half h = ap (λ b. not (not b)) h
even-on false false true half h = ap (λ b. not (not b)) h
even-on true q false half h = refl
even-on false q false half h = refl

odd-on : (p q is half : Bool) → (p || q) ≡ not half → ((p && is) || (q && is)) ≡ (is && not half)
odd-on true q true half h = h
odd-on false true true half h = h
odd-on false false true half h = h
odd-on true q false half h = and-false q
odd-on false q false half h = and-false q

pub flags-on : (edge other class x : ℕ) (xs : List ℕ) (half : Bool) → has edge x ≡ false → has other x ≡ not (has class x)
    → Flags edge other class xs half → Flags edge other class (x ∷ xs) (has class x && not half)
unfolding after_one after_pairs
flags-on edge other class x xs half inside others past =
    let one = after_pairs class (after_one edge anywhere) xs in
    let two = after_pairs class (after_one other anywhere) xs in
    record {
      even =
          (λ i. (inside i || (one.1 && has class x)) || (others i || (two.1 && has class x)))
          ∙ even-on one.1 two.1 (has class x) half past.odd;
      odd = odd-on one.0 two.0 (has class x) half past.even;
    }

-- ---- tests of each symbol of a text, and of so many Booleans

abbrev pub for_text : ℕ → (ℕ → Bool) → Bool
for_text count test = all_below (λ s. implies (nat_lt 0 s) (test s)) count

pub for-text : (count : ℕ) (test : ℕ → Bool) (s : ℕ) → for_text count test ≡ true → 0 < s → s < count → test s ≡ true
for-text count test s all some below =
    implied (nat_lt 0 s) (test s) (all_below-at (λ s. implies (nat_lt 0 s) (test s)) count s all below) (lt-ltb 0 s some)

unfoldable pub for_flags : ℕ → (List Bool → Bool) → Bool
for_flags zero test = test []
for_flags (suc n) test = for_flags n (λ flags. test (true ∷ flags)) && for_flags n (λ flags. test (false ∷ flags))

pub for-flags : (test : List Bool → Bool) (flags : List Bool) → for_flags (length flags) test ≡ true → test flags ≡ true
unfolding for_flags
for-flags test [] h = h
for-flags test (true ∷ flags) h = for-flags (λ flags. test (true ∷ flags)) flags (and_parts _ _ h).0
for-flags test (false ∷ flags) h = for-flags (λ flags. test (false ∷ flags)) flags (and_parts _ _ h).1
