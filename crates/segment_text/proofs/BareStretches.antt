-- Parts of stretches in which nothing is escaped in JSON.
use Rattle.std.proofs.Common.{◌≡◌, ℕ, zero, suc, ◌+◌, ◌-◌, ◌<◌, ◌≤◌, ◌&&◌, Bool, true, false, Option, None, Some, IfSome, List, [], ◌∷◌, length, take, drop, take-append-drop, IsUtf8, slice_index_or, refl, sym, ap, ap₂, subst, ◌∙◌, arith}
use Rattle.std.proofs.lemmas.Bool.{true≢false}
use Rattle.std.proofs.lemmas.List.{drop-drop, drop-take, length-take, take-take}
use Rattle.std.proofs.lemmas.List.Folds.{list_all-append}
use Rattle.std.specs.List.{list_all, slice_range}
use Rattle.segment_text.specs.Bare.{AreBare, is_bare}

-- both of two
pub both : (one other : Bool) → (one && other) ≡ true → (one ≡ true) × (other ≡ true)
both true other are = (refl, are)
both false other are = absurd (true≢false (sym are))

-- of what is bare each part is
pub bare-take : (n : ℕ) (xs : List ℕ) → list_all is_bare xs ≡ true → list_all is_bare (take n xs) ≡ true
bare-take n xs bare =
    (both (list_all is_bare (take n xs)) (list_all is_bare (drop n xs))
    (sym (list_all-append is_bare (take n xs) (drop n xs)) ∙ ap (λ (ys : List ℕ). list_all is_bare ys) (take-append-drop n xs) ∙ bare)).0

bare-drop : (n : ℕ) (xs : List ℕ) → list_all is_bare xs ≡ true → list_all is_bare (drop n xs) ≡ true
bare-drop n xs bare =
    (both (list_all is_bare (take n xs)) (list_all is_bare (drop n xs))
    (sym (list_all-append is_bare (take n xs) (drop n xs)) ∙ ap (λ (ys : List ℕ). list_all is_bare ys) (take-append-drop n xs) ∙ bare)).1

module _ (text bare part : List ℕ) (from a b : ℕ) (is : bare ≡ slice_range text from (from + length bare)) (part-is : part ≡ slice_range bare a b)
    (ordered : a ≤ b) (within : b ≤ length bare) where
  same : part ≡ slice_range text (from + a) (from + b)
  same =
      part-is
      ∙ ap (λ (xs : List ℕ). take (b - a) (drop a xs)) is
      ∙ ap (λ (n : ℕ). take (b - a) (drop a (take n (drop from text)))) (omega (arith, within, ordered))
      ∙ ap (λ (xs : List ℕ). take (b - a) xs) (drop-take a (length bare - a) (drop from text))
      ∙ take-take (b - a) (length bare - a) (drop a (drop from text)) (omega (arith, within, ordered))
      ∙ ap₂ (λ (n : ℕ) (xs : List ℕ). take n xs) (omega arith) (drop-drop a from text)

  -- a part of a stretch, by its places in the text
  pub bare-part : list_all is_bare bare ≡ true → IsUtf8 part → AreBare (slice_range text (from + a) (from + b))
  bare-part all utf8 =
      subst (λ (xs : List ℕ). AreBare xs) same
      (utf8, ap (λ (xs : List ℕ). list_all is_bare xs) part-is ∙ bare-take (b - a) (drop a bare) (bare-drop a bare all))

-- bytes that all are
pub all-bare : (len : ℕ) (xs : List ℕ) → ((place : ℕ) → place < len → is_bare (slice_index_or xs place 0) ≡ true) → list_all is_bare (take len xs) ≡ true
all-bare zero xs are = refl
all-bare (suc len) [] are = refl
all-bare (suc len) (x ∷ xs) are = rw (are 0 (omega arith)) (all-bare len xs (λ place below. are (suc place) (omega (arith, below))))

-- what some bytes begin with, by its own length
own-length : (k : ℕ) (xs : List ℕ) → take k xs ≡ take (length (take k xs)) xs
own-length zero xs = refl
own-length (suc k) [] = refl
own-length (suc k) (x ∷ xs) = ap (λ ys. x ∷ ys) (own-length k xs)

begins-in : (xs ys zs : List ℕ) → xs ≡ take (length xs) ys → ys ≡ take (length ys) zs → length xs ≤ length ys → xs ≡ take (length xs) zs
begins-in xs ys zs one other few = one ∙ ap (λ (all : List ℕ). take (length xs) all) other ∙ take-take (length xs) (length ys) zs few

short : (k : ℕ) (xs : List ℕ) → length (take k xs) ≤ length xs
short k xs = omega (arith, length-take k xs)

-- what is looked at, of that what is bare, and of that what is well-formed: a stretch
pub bare-stretch : (text near bare found : List ℕ) (from n m k : ℕ) → near ≡ take n (drop from text) → bare ≡ take m near → found ≡ take k bare → list_all is_bare bare ≡ true
    → (found ≡ slice_range text from (from + length found)) × (list_all is_bare found ≡ true)
bare-stretch text near bare found from n m k near-is bare-is found-is all =
    let near-begins : near ≡ take (length near) (drop from text) = rw near-is (own-length n (drop from text)) in
    let bare-begins : bare ≡ take (length bare) near = rw bare-is (own-length m near) in
    let found-begins : found ≡ take (length found) bare = rw found-is (own-length k bare) in
    let bare-few : length bare ≤ length near = rw bare-is (short m near) in
    let found-few : length found ≤ length bare = rw found-is (short k bare) in
    let begins : found ≡ take (length found) (drop from text) =
    begins-in found near (drop from text) (begins-in found bare near found-begins bare-begins found-few) near-begins (omega (arith, bare-few, found-few)) in
    (begins ∙ ap (λ (len : ℕ). take len (drop from text)) (omega arith), ap (λ (xs : List ℕ). list_all is_bare xs) found-is ∙ bare-take k bare all)

-- what is found, and what holds of the whole
pub found-and : {X : Type 0} {P Q : X → Type 0} (found : Option X) → ((x : X) → P x → Q x) → IfSome found P → IfSome found Q
found-and None give is = tt
found-and (Some x) give is = give x is
