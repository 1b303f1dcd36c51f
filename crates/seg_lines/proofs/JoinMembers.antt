-- Boundaries joined with cuts are the one list that rises and holds all boundaries and the cuts that stand alone.
use Rattle.std.proofs.Common.{◌≡◌, ℕ, zero, suc, ◌<◌, ◌⊎◌, inl, inr, List, [], ◌∷◌, refl, sym, ap, ◌∙◌, subst, arith}
use Rattle.std.specs.List.{Contains}
use Rattle.std.proofs.lemmas.Bool.{cases_lt}
use Rattle.seg_text.specs.declared.boundary.Boundary.{Boundary}
use Rattle.seg_text.specs.Boundaries.{boundary, offsets}
use Rattle.seg_lines.specs.LineBreaks.{AreAbove, AreRising, IsCutAlone, IsJoin, joined, with_cut}
use Rattle.seg_lines.proofs.Joins.{above-more, cut-after, cut-ahead, cut-at, with-above}

abbrev pub In : {X : Type 0} → List X → X → Type 0
In [] x = ⊥
In (y ∷ ys) x = (y ≡ x) ⊎ In ys x

pub in-to : {X : Type 0} (xs : List X) (x : X) → Contains xs x → In xs x
in-to [] x (k, below, is) = absurd (omega (arith, below))
in-to (y ∷ ys) x (zero, below, is) = inl is
in-to (y ∷ ys) x (suc k, below, is) = inr (in-to ys x (k, omega (arith, below), is))

pub in-from : {X : Type 0} (xs : List X) (x : X) → In xs x → Contains xs x
in-from [] x is = absurd is
in-from (y ∷ ys) x (inl is) = (0, omega arith, is)
in-from (y ∷ ys) x (inr is) = let found = in-from ys x is in (suc found.0, omega (arith, found.1), found.2)

in-above : (low n : ℕ) (numbers : List ℕ) → AreAbove low numbers → In numbers n → low < n
in-above low n [] above is = absurd is
in-above low n (number ∷ numbers) above (inl is) = omega (arith, above.0, is)
in-above low n (number ∷ numbers) above (inr is) = in-above low n numbers above.1 is

in-offsets : (boundaries : List Boundary) (one : Boundary) → In boundaries one → In (offsets boundaries) one.offset
in-offsets [] one is = absurd is
in-offsets (found ∷ boundaries) one (inl is) = inl (ap (λ (b : Boundary). b.offset) is)
in-offsets (found ∷ boundaries) one (inr is) = inr (in-offsets boundaries one is)

-- one cut

-- where it stands among boundaries
module _ (cut : ℕ) where
  -- it and they alone are there
  with-in : (boundaries : List Boundary) (one : Boundary) → AreRising (offsets boundaries) → In (with_cut cut boundaries) one
      → In boundaries one ⊎ ((boundary cut 0 ≡ one) × (In (offsets boundaries) cut → ⊥))
  with-in [] one rising (inl is) = inr (is, λ none. none)
  with-in [] one rising (inr is) = absurd is
  with-in (found ∷ boundaries) one rising is =
      elim (cases_lt cut found.offset) [
        | inl before ↦ first before (subst (λ (all : List Boundary). In all one) (cut-ahead cut found boundaries before) is)
        | inr other ↦ elim (cases_lt found.offset cut) [
          | inl after ↦ later after (with-in boundaries one rising.1) (subst (λ (all : List Boundary). In all one) (cut-after cut found boundaries after) is)
          | inr same ↦ inl (subst (λ (all : List Boundary). In all one) (cut-at cut found boundaries (omega (arith, other, same))) is)
        ]
      ]
    where
      no-more : cut < found.offset → In (offsets (found ∷ boundaries)) cut → ⊥
      no-more before (inl is) = omega (arith, before, is)
      no-more before (inr is) = omega (arith, before, in-above found.offset cut (offsets boundaries) rising.0 is)

      first : cut < found.offset → In (boundary cut 0 ∷ found ∷ boundaries) one → In (found ∷ boundaries) one ⊎ ((boundary cut 0 ≡ one) × (In (offsets (found ∷ boundaries)) cut → ⊥))
      first before (inl is) = inr (is, no-more before)
      first before (inr is) = inl is

      no-other : found.offset < cut → (In (offsets boundaries) cut → ⊥) → In (offsets (found ∷ boundaries)) cut → ⊥
      no-other after none (inl is) = omega (arith, after, is)
      no-other after none (inr is) = none is

      later : found.offset < cut → (In (with_cut cut boundaries) one → In boundaries one ⊎ ((boundary cut 0 ≡ one) × (In (offsets boundaries) cut → ⊥)))
          → In (found ∷ with_cut cut boundaries) one → In (found ∷ boundaries) one ⊎ ((boundary cut 0 ≡ one) × (In (offsets (found ∷ boundaries)) cut → ⊥))
      later after rest (inl is) = inl (inl is)
      later after rest (inr is) = elim (rest is) [
        | inl there ↦ inl (inr there)
        | inr new ↦ inr (new.0, no-other after new.1)
      ]

  -- they stay there
  with-old : (boundaries : List Boundary) (one : Boundary) → In boundaries one → In (with_cut cut boundaries) one
  with-old [] one is = absurd is
  with-old (found ∷ boundaries) one is =
      elim (cases_lt cut found.offset) [
        | inl before ↦ subst (λ (all : List Boundary). In all one) (sym (cut-ahead cut found boundaries before)) (inr is)
        | inr other ↦ elim (cases_lt found.offset cut) [
          | inl after ↦ subst (λ (all : List Boundary). In all one) (sym (cut-after cut found boundaries after)) (on (with-old boundaries one) is)
          | inr same ↦ subst (λ (all : List Boundary). In all one) (sym (cut-at cut found boundaries (omega (arith, other, same)))) is
        ]
      ]
    where
      on : (In boundaries one → In (with_cut cut boundaries) one) → In (found ∷ boundaries) one → In (found ∷ with_cut cut boundaries) one
      on rest (inl is) = inl is
      on rest (inr is) = inr (rest is)

  -- it is there where none of them stands
  with-new : (boundaries : List Boundary) → (In (offsets boundaries) cut → ⊥) → In (with_cut cut boundaries) (boundary cut 0)
  with-new [] none = inl refl
  with-new (found ∷ boundaries) none =
      elim (cases_lt cut found.offset) [
        | inl before ↦ subst (λ (all : List Boundary). In all (boundary cut 0)) (sym (cut-ahead cut found boundaries before)) (inl refl)
        | inr other ↦ elim (cases_lt found.offset cut) [
          | inl after ↦ subst (λ (all : List Boundary). In all (boundary cut 0)) (sym (cut-after cut found boundaries after)) (inr (with-new boundaries (λ is. none (inr is))))
          | inr same ↦ absurd (none (inl (omega (arith, other, same))))
        ]
      ]

  with-rising : (boundaries : List Boundary) → AreRising (offsets boundaries) → AreRising (offsets (with_cut cut boundaries))
  with-rising [] rising = (tt, tt)
  with-rising (found ∷ boundaries) rising =
      elim (cases_lt cut found.offset) [
        | inl before ↦ subst (λ (all : List Boundary). AreRising (offsets all)) (sym (cut-ahead cut found boundaries before)) ((before, above-more cut found.offset (offsets boundaries) before rising.0), rising)
        | inr other ↦ elim (cases_lt found.offset cut) [
          | inl after ↦
              let later = with-rising boundaries rising.1 in
              subst (λ (all : List Boundary). AreRising (offsets all)) (sym (cut-after cut found boundaries after)) (with-above found.offset cut boundaries after rising.0, later)
          | inr same ↦ subst (λ (all : List Boundary). AreRising (offsets all)) (sym (cut-at cut found boundaries (omega (arith, other, same)))) rising
        ]
      ]

-- all cuts

module _ (boundaries : List Boundary) (rising : AreRising (offsets boundaries)) where
  joined-rising : (cuts : List ℕ) → AreRising (offsets (joined boundaries cuts))
  joined-rising [] = rising
  joined-rising (cut ∷ cuts) = with-rising cut (joined boundaries cuts) (joined-rising cuts)

  joined-old : (cuts : List ℕ) (one : Boundary) → In boundaries one → In (joined boundaries cuts) one
  joined-old [] one is = is
  joined-old (cut ∷ cuts) one is = with-old cut (joined boundaries cuts) one (joined-old cuts one is)

  abbrev IsAlone : List ℕ → Boundary → Type 0
  IsAlone cuts one = (one.status ≡ 0) × In cuts one.offset × (In (offsets boundaries) one.offset → ⊥)

  pub offset-old : (cuts : List ℕ) (n : ℕ) → In (offsets boundaries) n → In (offsets (joined boundaries cuts)) n
  offset-old cuts n is = on boundaries (joined-old cuts) is
    where
      on : (found : List Boundary) → ((one : Boundary) → In found one → In (joined boundaries cuts) one) → In (offsets found) n → In (offsets (joined boundaries cuts)) n
      on [] all is = absurd is
      on (one ∷ found) all (inl is) = subst (In (offsets (joined boundaries cuts))) is (in-offsets (joined boundaries cuts) one (all one (inl refl)))
      on (one ∷ found) all (inr is) = on found (λ other there. all other (inr there)) is

  joined-in : (cuts : List ℕ) (one : Boundary) → In (joined boundaries cuts) one → In boundaries one ⊎ IsAlone cuts one
  joined-in [] one is = inl is
  joined-in (cut ∷ cuts) one is = elim (with-in cut (joined boundaries cuts) one (joined-rising cuts) is) [
    | inl there ↦ elim (joined-in cuts one there) [
      | inl old ↦ inl old
      | inr alone ↦ inr (alone.0, inr alone.1, alone.2)
    ]
    | inr new ↦ inr (
      ap (λ (b : Boundary). b.status) (sym new.0),
      inl (ap (λ (b : Boundary). b.offset) new.0),
      λ old. new.1 (offset-old cuts cut (subst (In (offsets boundaries)) (sym (ap (λ (b : Boundary). b.offset) new.0)) old)),
    )
  ]

  -- a place there is a boundary's, or a cut
  joined-offset : (cuts : List ℕ) (n : ℕ) → In (offsets (joined boundaries cuts)) n → In (offsets boundaries) n ⊎ In cuts n
  joined-offset cuts n is = on (joined boundaries cuts) (joined-in cuts) is
    where
      on : (found : List Boundary) → ((one : Boundary) → In found one → In boundaries one ⊎ IsAlone cuts one) → In (offsets found) n → In (offsets boundaries) n ⊎ In cuts n
      on [] all is = absurd is
      on (one ∷ found) all (inl is) = elim (all one (inl refl)) [
        | inl old ↦ inl (subst (In (offsets boundaries)) is (in-offsets boundaries one old))
        | inr alone ↦ inr (subst (In cuts) is alone.1)
      ]
      on (one ∷ found) all (inr is) = on found (λ other there. all other (inr there)) is

  joined-new : (cuts : List ℕ) → AreRising cuts → (cut : ℕ) → In cuts cut → (In (offsets boundaries) cut → ⊥) → In (joined boundaries cuts) (boundary cut 0)
  joined-new [] rises cut is none = absurd is
  joined-new (first ∷ cuts) rises cut (inr is) none = with-old first (joined boundaries cuts) (boundary cut 0) (joined-new cuts rises.1 cut is none)
  joined-new (first ∷ cuts) rises cut (inl is) none =
      subst (λ n. In (with_cut first (joined boundaries cuts)) (boundary n 0)) is (with-new first (joined boundaries cuts) alone)
    where
      alone : In (offsets (joined boundaries cuts)) first → ⊥
      alone there = elim (joined-offset cuts first there) [
        | inl old ↦ none (subst (In (offsets boundaries)) is old)
        | inr again ↦ omega (arith, in-above first first cuts rises.0 again)
      ]

  pub is-join : (cuts : List ℕ) → AreRising cuts → IsJoin boundaries cuts (joined boundaries cuts)
  is-join cuts rises = record { rises = joined-rising cuts; holds = λ one. (to one, from one) }
    where
      to : (one : Boundary) → Contains (joined boundaries cuts) one → Contains boundaries one ⊎ IsCutAlone boundaries cuts one
      to one is = elim (joined-in cuts one (in-to (joined boundaries cuts) one is)) [
        | inl old ↦ inl (in-from boundaries one old)
        | inr alone ↦ inr (alone.0, in-from cuts one.offset alone.1, λ there. alone.2 (in-to (offsets boundaries) one.offset there))
      ]

      from : (one : Boundary) → Contains boundaries one ⊎ IsCutAlone boundaries cuts one → Contains (joined boundaries cuts) one
      from one (inl old) = in-from (joined boundaries cuts) one (joined-old cuts one (in-to boundaries one old))
      from one (inr alone) =
          let new = joined-new cuts rises one.offset (in-to cuts one.offset alone.1) (λ old. alone.2 (in-from (offsets boundaries) one.offset old)) in
          in-from (joined boundaries cuts) one (subst (λ status. In (joined boundaries cuts) (boundary one.offset status)) (sym alone.0) new)

-- lists that rise and hold the same are the same

same-rising : (some others : List Boundary) → AreRising (offsets some) → AreRising (offsets others)
    → ((one : Boundary) → In some one → In others one) → ((one : Boundary) → In others one → In some one) → some ≡ others
same-rising [] [] rising rises to from = refl
same-rising [] (other ∷ others) rising rises to from = absurd (from other (inl refl))
same-rising (found ∷ some) [] rising rises to from = absurd (to found (inl refl))
same-rising (found ∷ some) (other ∷ others) rising rises to from =
    ap (λ (first : Boundary). first ∷ some) same ∙ ap (λ (rest : List Boundary). other ∷ rest) (same-rising some others rising.1 rises.1 rest-to rest-from)
  where
    heads : In (other ∷ others) found → In (found ∷ some) other → other ≡ found
    heads (inl is) there = is
    heads (inr is) (inl there) = sym there
    heads (inr is) (inr there) =
        absurd (omega (arith, in-above other.offset found.offset (offsets others) rises.0 (in-offsets others found is), in-above found.offset other.offset (offsets some) rising.0 (in-offsets some other there)))

    same : found ≡ other
    same = sym (heads (to found (inl refl)) (from other (inl refl)))

    rest-to : (one : Boundary) → In some one → In others one
    rest-to one is = elim (to one (inr is)) [
      | inl first ↦ absurd (omega (arith, in-above found.offset one.offset (offsets some) rising.0 (in-offsets some one is), ap (λ (b : Boundary). b.offset) (same ∙ first)))
      | inr there ↦ there
    ]

    rest-from : (one : Boundary) → In others one → In some one
    rest-from one is = elim (from one (inr is)) [
      | inl first ↦ absurd (omega (arith, in-above other.offset one.offset (offsets others) rises.0 (in-offsets others one is), ap (λ (b : Boundary). b.offset) (sym same ∙ first)))
      | inr there ↦ there
    ]

pub one-join : (boundaries : List Boundary) (cuts : List ℕ) (found other : List Boundary) → IsJoin boundaries cuts found → IsJoin boundaries cuts other → found ≡ other
one-join boundaries cuts found other one two =
    same-rising found other one.rises two.rises
    (λ b is. in-to other b ((two.holds b).1 ((one.holds b).0 (in-from found b is))))
    (λ b is. in-to found b ((one.holds b).1 ((two.holds b).0 (in-from other b is))))
