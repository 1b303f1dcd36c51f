-- A code point that no abbreviation has stops them all: what stands behind it ends with one where it does alone.
use Rattle.std.proofs.Common.{◌≡◌, ℕ, suc, ◌+◌, ◌<◌, Bool, true, false, List, [], ◌∷◌, ◌++◌, take, drop, length, Contains, refl, ap, ◌∙◌, arith, append_assoc, length-append}
use Rattle.std.specs.Prelude.{◌&&◌, ◌||◌, ◌==◌, cond, not, nat_lt, filter, if◌then◌else◌}
use Rattle.std.specs.List.{list_all}
use Rattle.std.proofs.lemmas.Bool.{eqb-true}
use Rattle.std.proofs.lemmas.Bool.Decides.{nat_tests}
use Rattle.std.proofs.Math.Seq.{take-append-add}
use Rattle.seg_text.specs.declared.boundary.Boundary.{Boundary}
use Rattle.seg_text.specs.Boundaries.{IsCover, RisesTo, shift, shift_all}
use Rattle.seg_data.specs.WordSets.{Words, has_empty, tails_after}
use Rattle.seg_segments.specs.Suppression.{is_abbreviated, is_abbreviated_after, is_letter_or_digit, is_space, is_word_and_spaces, stays_in, without_abbreviated}
use Rattle.seg_segments.proofs.Reading.{no-word}

pub and-none : (b : Bool) → not (b && false) ≡ true
and-none true = refl
and-none false = refl

module _ (stop : ℕ) where
  -- ---- words without it

  abbrev HasNone : List ℕ → Type 0
  HasNone [] = Unit {0}
  HasNone (c ∷ word) = (c ≡ stop → ⊥) × HasNone word

  abbrev pub HaveNone : Words → Type 0
  HaveNone [] = Unit {0}
  HaveNone (word ∷ words) = HasNone word × HaveNone words

  has-no-stop : (word : List ℕ) → (Contains word stop → ⊥) → HasNone word
  has-no-stop [] none = tt
  has-no-stop (c ∷ word) none = (λ is. none (0, omega arith, is), has-no-stop word (λ has. none (suc has.0, omega (arith, has.1), has.2)))

  pub have-none : (words : Words) → ((word : List ℕ) → Contains words word → Contains word stop → ⊥) → HaveNone words
  have-none [] none = tt
  have-none (word ∷ words) none =
      (has-no-stop word (none word (0, omega arith, refl)), have-none words (λ other has. none other (suc has.0, omega (arith, has.1), has.2)))

  none-behind : (c : ℕ) (words : Words) → HaveNone words → HaveNone (tails_after c words)
  none-behind c [] none = tt
  none-behind c ([] ∷ words) none = none-behind c words none.1
  none-behind c ((first ∷ rest) ∷ words) none = on (first == c) (none-behind c words none.1)
    where
      on : (b : Bool) → HaveNone (tails_after c words) → HaveNone (if b then rest ∷ tails_after c words else tails_after c words)
      on true later = (none.0.1, later)
      on false later = later

  none-after : (words : Words) → HaveNone words → tails_after stop words ≡ []
  none-after [] none = refl
  none-after ([] ∷ words) none = none-after words none.1
  none-after ((first ∷ rest) ∷ words) none = on (first == stop) refl (none-after words none.1)
    where
      on : (b : Bool) → (first == stop) ≡ b → tails_after stop words ≡ [] → (if b then rest ∷ tails_after stop words else tails_after stop words) ≡ []
      on true is later = absurd (none.0.0 (eqb-true first stop is))
      on false is later = later

  -- ---- it ends all that was read, but where spaces alone stand from it on

  not-spaces : (before cs : List ℕ) → list_all is_space (stop ∷ cs) ≡ false → list_all is_space (before ++ stop ∷ cs) ≡ false
  not-spaces [] cs some = some
  not-spaces (c ∷ before) cs some = rw (not-spaces before cs some) (on (is_space c))
    where
      on : (b : Bool) → (b && false) ≡ false
      on true = refl
      on false = refl

  no-word-over : (before cs : List ℕ) (words : Words) → HaveNone words → list_all is_space (stop ∷ cs) ≡ false → is_word_and_spaces words (before ++ stop ∷ cs) ≡ false
  unfolding is_word_and_spaces
  no-word-over [] cs words none some = rw (none-after words none) (no-word cs)
  no-word-over (c ∷ before) cs words none some =
      rw (not-spaces before cs some, no-word-over before cs (tails_after c words) (none-behind c words none) some) (on (has_empty (tails_after c words)))
    where
      on : (b : Bool) → ((b && false) || false) ≡ false
      on true = refl
      on false = refl

  module _ (words : Words) (none : HaveNone words) (apart : is_letter_or_digit stop ≡ false) where
    after-stop : (before cs : List ℕ) (joined : Bool) → list_all is_space (stop ∷ cs) ≡ false
        → is_abbreviated_after joined words (before ++ stop ∷ cs) ≡ is_abbreviated_after false words cs
    unfolding is_abbreviated_after
    after-stop [] cs joined some = rw (no-word-over [] cs words none some, apart) (on (not joined))
      where
        on : (b : Bool) → ((b && false) || is_abbreviated_after false words cs) ≡ is_abbreviated_after false words cs
        on true = refl
        on false = refl
    after-stop (c ∷ before) cs joined some =
        rw (no-word-over (c ∷ before) cs words none some, after-stop before cs (is_letter_or_digit c) some) (on (not joined))
      where
        on : (b : Bool) → ((b && false) || is_abbreviated_after false words cs) ≡ is_abbreviated_after false words cs
        on true = refl
        on false = refl

    pub behind-stop : (before cs : List ℕ) → list_all is_space (stop ∷ cs) ≡ false → is_abbreviated words ((before ++ stop ∷ []) ++ cs) ≡ is_abbreviated words cs
    behind-stop before cs some = ap (is_abbreviated words) (append_assoc before (stop ∷ []) cs) ∙ after-stop before cs false some

    -- ---- boundaries behind it

    module _ (before second : List ℕ) (some : (n : ℕ) → 0 < n → list_all is_space (stop ∷ take n second) ≡ false) where
      abbrev first : List ℕ
      first = before ++ stop ∷ []

      stays-second : (boundary : Boundary) → 0 < boundary.offset → stays_in words (first ++ second) (shift (length first) boundary) ≡ stays_in words second boundary
      stays-second boundary later =
          rw (take-append-add first second boundary.offset, behind-stop before (take boundary.offset second) (some boundary.offset later), less) refl
        where
          less : nat_lt (length first + boundary.offset) (length (first ++ second)) ≡ nat_lt boundary.offset (length second)
          less = let sum : length (first ++ second) ≡ length first + length second = length-append first second in grind (arith, nat_tests)

      kept-later : (from end : ℕ) (boundaries : List Boundary) → RisesTo from boundaries end
          → filter (stays_in words (first ++ second)) (shift_all (length first) boundaries) ≡ shift_all (length first) (filter (stays_in words second) boundaries)
      kept-later from end [] rises = refl
      kept-later from end (one ∷ boundaries) rises =
          rw (stays-second one (omega (arith, rises.0)), kept-later one.offset end boundaries rises.1) (on (stays_in words second one))
        where
          on : (b : Bool) → cond b (shift (length first) one ∷ shift_all (length first) (filter (stays_in words second) boundaries))
              (shift_all (length first) (filter (stays_in words second) boundaries))
              ≡ shift_all (length first) (cond b (one ∷ filter (stays_in words second) boundaries) (filter (stays_in words second) boundaries))
          on true = refl
          on false = refl

      -- what stays of the second list is what stays of it alone, but perhaps for its start
      pub kept-second : (find : List ℕ → List Boundary) → IsCover 0 (length second) (find second)
          → filter (stays_in words (first ++ second)) (shift_all (length first) (drop 1 (find second)))
          ≡ shift_all (length first) (drop 1 (without_abbreviated words find second))
      unfolding is_abbreviated_after
      kept-second find cover = on (find second) cover
        where
          on : (found : List Boundary) → IsCover 0 (length second) found
              → filter (stays_in words (first ++ second)) (shift_all (length first) (drop 1 found)) ≡ shift_all (length first) (drop 1 (filter (stays_in words second) found))
          on [] cover = absurd cover
          on (one ∷ found) cover = rw (cover.0, and-none (nat_lt 0 (length second))) (kept-later 0 (length second) found cover.1)
