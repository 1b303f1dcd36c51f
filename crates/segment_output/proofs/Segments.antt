-- One boundary more ends one segment more, if it is shown.
use Rattle.std.proofs.Common.{◌≡◌, ℕ, ◌+◌, ◌^◌, ◌<◌, arith, Bool, true, false, Option, None, Some, List, [], ◌∷◌, ◌++◌, drop, map, filter, length, refl, sym, ap, ◌∙◌, append-nil, length-append}
use Rattle.std.proofs.lemmas.Bool.{true≢false}
use Rattle.std.proofs.lemmas.Option.{none-some}
use Rattle.std.proofs.lemmas.List.{map-append}
use Rattle.std.proofs.lemmas.List.Elements.{filter-append}
use Rattle.std.specs.List.{zip}
use Rattle.std.specs.Option.{is_some, option_map}
use Rattle.segment_output.specs.Output.{Segment, ended, is_shown, segment_between, segments}
use Rattle.segment_output.specs.declared.marks.Mark.{Mark}

-- the last of a list
abbrev pub last : {X : Type 0} → List X → Option X
last [] = None
last (x ∷ []) = Some x
last (x ∷ y ∷ xs) = last (y ∷ xs)

pub last-more : {X : Type 0} (xs : List X) (x : X) → last (xs ++ x ∷ []) ≡ Some x
last-more [] x = refl
last-more (a ∷ []) x = refl
last-more (a ∷ b ∷ xs) x = last-more (b ∷ xs) x

-- where the next segment begins, once a place has come
unfoldable pub begun : Bool → ℕ → Option ℕ
begun true start = Some start
begun false start = None

pub begun-at : (has_begun : Bool) (start : ℕ) → has_begun ≡ true → begun has_begun start ≡ Some start
unfolding begun
begun-at has_begun start is = rw is refl

pub begun-not : (has_begun : Bool) (start : ℕ) → has_begun ≡ false → begun has_begun start ≡ None
unfolding begun
begun-not has_begun start is = rw is refl

-- what doesn't begin at the last place that can be counted has begun
pub has-begun : (has_begun : Bool) (start : ℕ) → (has_begun ≡ false → start + 1 ≡ 2 ^ 64) → start + 1 < 2 ^ 64 → has_begun ≡ true
has-begun true start last within = refl
has-begun false start last within = absurd (omega (arith, last refl, within))

-- the neighbours of a list
abbrev neighbours : {X : Type 0} → List X → List (X × X)
neighbours xs = zip xs (drop 1 xs)

abbrev with_last : {X : Type 0} → Option X → X → List (X × X)
with_last None x = []
with_last (Some last) x = (last, x) ∷ []

neighbours-more : {X : Type 0} (xs : List X) (x : X) → neighbours (xs ++ x ∷ []) ≡ neighbours xs ++ with_last (last xs) x
neighbours-more [] x = refl
neighbours-more (a ∷ []) x = refl
neighbours-more (a ∷ b ∷ xs) x = ap (λ rest. (a, b) ∷ rest) (neighbours-more (b ∷ xs) x)

module _ (alone : Bool) where
  abbrev shown : List ((ℕ × Mark) × (ℕ × Mark)) → List Segment
  shown pairs = map segment_between (filter (λ pair. is_shown alone pair.1.1) pairs)

  shown-append : (pairs more : List ((ℕ × Mark) × (ℕ × Mark))) → shown (pairs ++ more) ≡ shown pairs ++ shown more
  shown-append pairs more =
      ap (λ found. map segment_between found) (filter-append (λ pair. is_shown alone pair.1.1) pairs more)
      ∙ map-append segment_between (filter (λ pair. is_shown alone pair.1.1) pairs) (filter (λ pair. is_shown alone pair.1.1) more)

  is-shown : (start : Option (ℕ × Mark)) (end : ℕ × Mark) → is_shown alone end.1 ≡ true
      → shown (with_last start end) ≡ ended (option_map (λ boundary. boundary.0) start) end
  is-shown None end is = refl
  is-shown (Some start) end is = rw is refl

  is-left_out : (start : Option (ℕ × Mark)) (end : ℕ × Mark) → is_shown alone end.1 ≡ false → shown (with_last start end) ≡ []
  is-left_out None end is = refl
  is-left_out (Some start) end is = rw is refl

  none-before : (start : Option (ℕ × Mark)) (end : ℕ × Mark) → option_map (λ boundary. boundary.0) start ≡ None → shown (with_last start end) ≡ []
  none-before None end none = refl
  none-before (Some start) end none = absurd (none-some start.0 (sym none))

  module _ (boundaries : List (ℕ × Mark)) (end : ℕ × Mark) where
    more-is : segments alone (boundaries ++ end ∷ []) ≡ segments alone boundaries ++ shown (with_last (last boundaries) end)
    more-is = ap shown (neighbours-more boundaries end) ∙ shown-append (neighbours boundaries) (with_last (last boundaries) end)

    pub segments-more : is_shown alone end.1 ≡ true
        → segments alone (boundaries ++ end ∷ []) ≡ segments alone boundaries ++ ended (option_map (λ boundary. boundary.0) (last boundaries)) end
    segments-more is = more-is ∙ ap (λ more. segments alone boundaries ++ more) (is-shown (last boundaries) end is)

    pub segments-same : is_shown alone end.1 ≡ false → segments alone (boundaries ++ end ∷ []) ≡ segments alone boundaries
    segments-same is =
        more-is ∙ ap (λ more. segments alone boundaries ++ more) (is-left_out (last boundaries) end is) ∙ append-nil (segments alone boundaries)

    pub segments-first : option_map (λ boundary. boundary.0) (last boundaries) ≡ None → segments alone (boundaries ++ end ∷ []) ≡ segments alone boundaries
    segments-first none =
        more-is ∙ ap (λ more. segments alone boundaries ++ more) (none-before (last boundaries) end none) ∙ append-nil (segments alone boundaries)

-- how many segments there are, where one place more comes: none ends at the first
no-start : (start : Option (ℕ × Mark)) → is_some start ≡ false → option_map (λ (boundary : ℕ × Mark). boundary.0) start ≡ None
no-start None is = refl
no-start (Some start) is = absurd (true≢false is)

one-ended : (start : Option (ℕ × Mark)) (end : ℕ × Mark) → is_some start ≡ true → length (ended (option_map (λ (boundary : ℕ × Mark). boundary.0) start) end) ≡ 1
one-ended (Some start) end is = refl
one-ended None end is = absurd (true≢false (sym is))

pub counted-first : (alone : Bool) (found : List (ℕ × Mark)) (end : ℕ × Mark) → is_some (last found) ≡ false → segments alone (found ++ end ∷ []) ≡ segments alone found
counted-first alone found end none = segments-first alone found end (no-start (last found) none)

pub counted-more : (alone : Bool) (found : List (ℕ × Mark)) (end : ℕ × Mark) → is_some (last found) ≡ true → is_shown alone end.1 ≡ true
    → length (segments alone (found ++ end ∷ [])) ≡ length (segments alone found) + 1
counted-more alone found end some shown =
    ap (λ (found : List Segment). length found) (segments-more alone found end shown)
    ∙ length-append (segments alone found) (ended (option_map (λ (boundary : ℕ × Mark). boundary.0) (last found)) end)
    ∙ ap (λ n. length (segments alone found) + n) (one-ended (last found) end some)
