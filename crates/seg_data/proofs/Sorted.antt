-- Words that were sorted, and of which each is kept once.
use Rattle.std.proofs.Common.{◌≡◌, ℕ, ◌<◌, Bool, true, List, [], ◌∷◌, length, get_or, refl, sym, subst, ap, ◌∙◌, arith, Ordering}
use Rattle.std.specs.Prelude.{Contains, nat_eq, Vec}
use Rattle.std.specs.declared.cmp.Ordering.TheVariants.{Less, Equal, Greater}
use Rattle.std.specs.Cmp.Lexicographic.{slice_cmp, pointwise, texts_ties, on_texts, on_texts_equal}
use Rattle.std.specs.List.{dedup}
use Rattle.std.specs.List.Sorted.{IsPermutation, IsSorted, IsStrictlySortedBy}
use Rattle.std.specs.Ordering.{is_lt, is_eq, nat_cmp}
use Rattle.std.specs.declared.alloc.Global.{Global}
use Rattle.std.proofs.lemmas.Bool.{false≢true}
use Rattle.std.proofs.lemmas.Bool.Decides.{nat_tests}
use Rattle.std.proofs.lemmas.Cmp.{same_from_slice_cmp}
use Rattle.std.proofs.lemmas.List.{get_or-map, length-map}
use Rattle.std.proofs.lemmas.List.Elements.{Contains-get_or}
use Rattle.std.proofs.lemmas.List.Kept.{Any-dedup, Contains-from_dedup, IsStrictlySortedBy-dedup}
use Rattle.std.proofs.lemmas.List.Sorted.{Contains-permutation, IsPermutation-sym}
use Rattle.std.proofs.lemmas.Map.Keys.{Less-from_sorted}
use Rattle.std.proofs.lemmas.Map.Lookups.{exact_bytes}
use Rattle.seg_data.specs.WordSets.{Words, IsSameSet, is_before, IsInOrder, held}

-- the order of vectors, and whether they hold the same
abbrev compared : Vec ℕ Global → Vec ℕ Global → Ordering
compared x y = slice_cmp nat_cmp x.items y.items

abbrev alike : Vec ℕ Global → Vec ℕ Global → Bool
alike x y = pointwise nat_eq x.items y.items

before-is : (xs ys : List ℕ) (o : Ordering) → o ≡ slice_cmp nat_cmp xs ys → is_lt o ≡ is_before xs ys
before-is = same_from_slice_cmp nat_cmp is_lt is_before refl (λ _ _. refl) (λ _ _. refl) (λ x y xs ys o h. grind (arith, nat_tests))

sorted-order : (vectors : List (Vec ℕ Global)) → IsStrictlySortedBy compared vectors → IsInOrder (held vectors)
sorted-order [] sorted j k less within = absurd (omega arith)
sorted-order (vector ∷ vectors) sorted j k less within =
    let all : List (Vec ℕ Global) = vector ∷ vectors in
    let inside : k < length all = omega (arith, length-map all (λ v. v.items)) in
    ap (λ xs. is_before xs (get_or (held all) k [])) (get_or-map (λ v. v.items) all j vector [] (omega arith))
    ∙ ap (is_before (get_or all j vector).items) (get_or-map (λ v. v.items) all k vector [] inside)
    ∙ sym (before-is (get_or all j vector).items (get_or all k vector).items (compared (get_or all j vector) (get_or all k vector)) refl)
    ∙ ap is_lt (Less-from_sorted compared all j k vector sorted less inside)

-- what a sort and a `dedup` leave is in order
pub kept-order : (vectors : List (Vec ℕ Global)) → IsSorted compared vectors → IsInOrder (held (dedup alike vectors))
kept-order vectors sorted =
    sorted-order (dedup alike vectors) (IsStrictlySortedBy-dedup (on_texts (λ v. v.items)) (λ x y. texts_ties x.items y.items) vectors sorted)

held-by : (vectors : List (Vec ℕ Global)) (word : List ℕ) → Contains (held vectors) word
    → (v : Vec ℕ Global) × Contains vectors v × (v.items ≡ word)
held-by [] word (k, within, is) = absurd (omega arith)
held-by (vector ∷ vectors) word (k, within, is) =
    let all : List (Vec ℕ Global) = vector ∷ vectors in
    let inside : k < length all = omega (arith, length-map all (λ v. v.items)) in
    (get_or all k vector, Contains-get_or all k vector inside, sym (get_or-map (λ v. v.items) all k vector word inside) ∙ is)

holds : (vectors : List (Vec ℕ Global)) (v : Vec ℕ Global) (word : List ℕ) → Contains vectors v → v.items ≡ word → Contains (held vectors) word
holds vectors v word (k, within, is) same =
    (k, omega (arith, length-map vectors (λ v. v.items)), get_or-map (λ v. v.items) vectors k v word within ∙ ap (λ w. w.items) is ∙ same)

is-equal : (r : Ordering) → is_eq r ≡ true → r ≡ Equal
is-equal Less e = absurd (false≢true e)
is-equal Equal e = refl
is-equal Greater e = absurd (false≢true e)

alike-items : (x y : Vec ℕ Global) → alike x y ≡ true → x.items ≡ y.items
alike-items x y same = exact_bytes x.items y.items (is-equal (compared x y) (sym (texts_ties x.items y.items) ∙ same))

-- and has the same words
pub kept-same : (vectors sorted : List (Vec ℕ Global)) (words : Words) → held vectors ≡ words → IsPermutation vectors sorted
    → IsSameSet (held (dedup alike sorted)) words
kept-same vectors sorted words same moved word = (
  λ there.
      let found = held-by (dedup alike sorted) word there in
      let before = Contains-permutation sorted vectors found.0 (IsPermutation-sym vectors sorted moved) (Contains-from_dedup alike sorted found.0 found.1) in
      subst (λ ws. Contains ws word) same (holds vectors found.0 word before found.2),
  λ there.
      let found = held-by vectors word (subst (λ ws. Contains ws word) (sym same) there) in
      let kept = Any-dedup (on_texts_equal (λ v. v.items)) sorted found.0 (Contains-permutation vectors sorted found.0 moved found.1) in
      holds (dedup alike sorted) kept.1 word (kept.0, kept.2, kept.3) (sym (alike-items found.0 kept.1 kept.4) ∙ found.2),
)
