-- What comes first of boundaries that are joined with cuts, and where both stand in a text.
use Rattle.std.proofs.Common.{◌≡◌, ℕ, ◌<◌, ◌≤◌, inl, inr, ◌==◌, nat_lt, Bool, true, false, List, [], ◌∷◌, ◌++◌, length, map, refl, sym, ap, ◌∙◌, subst, arith, eq-eqb}
use Rattle.std.specs.Prelude.{if◌then◌else◌, IfSome, Option, None, Some}
use Rattle.std.specs.Option.{option_map, option_to_list}
use Rattle.std.proofs.lemmas.Bool.{cases_lt, false_from_ne_true, lt-ltb, ltb-true, ne_eqb}
use Rattle.seg_text.specs.declared.boundary.Boundary.{Boundary}
use Rattle.seg_text.specs.Items.{Text, IsRising, start_of, rest_after}
use Rattle.seg_text.specs.Boundaries.{boundary, boundary_in, offsets}
use Rattle.seg_text.proofs.Covers.{place-between}
use Rattle.seg_clusters.specs.Spans.{AreBeyond}
use Rattle.seg_lines.specs.LineBreaks.{AreAbove, AreRising, joined, with_cut}

abbrev pub AreAtMost : ℕ → List ℕ → Type 0
AreAtMost most [] = Unit {0}
AreAtMost most (n ∷ numbers) = (n ≤ most) × AreAtMost most numbers

less : (a b : ℕ) → a < b → nat_lt a b ≡ true
less a b below = lt-ltb a b below

not-less : (a b : ℕ) → b ≤ a → nat_lt a b ≡ false
not-less a b above = false_from_ne_true (nat_lt a b) (λ is. absurd (omega (arith, ltb-true a b is, above)))

not-equal : (a b : ℕ) → b < a → (a == b) ≡ false
not-equal a b above = ne_eqb a b (λ is. absurd (omega (arith, is, above)))

-- one before the first boundary
pub cut-ahead : (cut : ℕ) (found : Boundary) (boundaries : List Boundary) → cut < found.offset → with_cut cut (found ∷ boundaries) ≡ boundary cut 0 ∷ found ∷ boundaries
cut-ahead cut found boundaries before = rw (less cut found.offset before) refl

-- a cut before all boundaries
cut-before : (cut : ℕ) (boundaries : List Boundary) → AreAbove cut (offsets boundaries) → with_cut cut boundaries ≡ boundary cut 0 ∷ boundaries
cut-before cut [] above = refl
cut-before cut (found ∷ boundaries) above = cut-ahead cut found boundaries above.0

-- one after the first boundary
pub cut-after : (cut : ℕ) (found : Boundary) (boundaries : List Boundary) → found.offset < cut → with_cut cut (found ∷ boundaries) ≡ found ∷ with_cut cut boundaries
cut-after cut found boundaries above = rw (not-less cut found.offset (omega (arith, above)), not-equal cut found.offset above) refl

-- one at the first boundary
pub cut-at : (cut : ℕ) (found : Boundary) (boundaries : List Boundary) → cut ≡ found.offset → with_cut cut (found ∷ boundaries) ≡ found ∷ boundaries
cut-at cut found boundaries at = rw (not-less cut found.offset (omega (arith, at)), eq-eqb cut found.offset at) refl

pub with-above : (low cut : ℕ) (boundaries : List Boundary) → low < cut → AreAbove low (offsets boundaries) → AreAbove low (offsets (with_cut cut boundaries))
with-above low cut [] below above = (below, tt)
with-above low cut (found ∷ boundaries) below above = on (nat_lt cut found.offset) (cut == found.offset) (with-above low cut boundaries below above.1)
  where
    on : (b c : Bool) → AreAbove low (offsets (with_cut cut boundaries))
        → AreAbove low (offsets (if b then boundary cut 0 ∷ found ∷ boundaries else if c then found ∷ boundaries else found ∷ with_cut cut boundaries))
    on true c later = (below, above)
    on false true later = above
    on false false later = (above.0, later)

pub joined-above : (low : ℕ) (boundaries : List Boundary) (cuts : List ℕ) → AreAbove low (offsets boundaries) → AreAbove low cuts → AreAbove low (offsets (joined boundaries cuts))
joined-above low boundaries [] above below = above
joined-above low boundaries (cut ∷ cuts) above below = with-above low cut (joined boundaries cuts) below.0 (joined-above low boundaries cuts above below.1)

-- a cut comes first
pub cut-first : (cut : ℕ) (boundaries : List Boundary) (cuts : List ℕ) → AreAbove cut (offsets boundaries) → AreAbove cut cuts
    → joined boundaries (cut ∷ cuts) ≡ boundary cut 0 ∷ joined boundaries cuts
cut-first cut boundaries cuts above below = cut-before cut (joined boundaries cuts) (joined-above cut boundaries cuts above below)

-- a boundary comes first
pub boundary-first : (found : Boundary) (boundaries : List Boundary) (cuts : List ℕ) → AreAbove found.offset cuts
    → joined (found ∷ boundaries) cuts ≡ found ∷ joined boundaries cuts
boundary-first found boundaries [] above = refl
boundary-first found boundaries (cut ∷ cuts) above =
    ap (with_cut cut) (boundary-first found boundaries cuts above.1) ∙ cut-after cut found (joined boundaries cuts) above.0

-- both come first
pub both-first : (cut : ℕ) (found : Boundary) (boundaries : List Boundary) (cuts : List ℕ) → cut ≡ found.offset → AreAbove cut cuts
    → joined (found ∷ boundaries) (cut ∷ cuts) ≡ found ∷ joined boundaries cuts
both-first cut found boundaries cuts at above =
    ap (with_cut cut) (boundary-first found boundaries cuts (rw at at above)) ∙ cut-at cut found (joined boundaries cuts) at

-- in a text

module _ (text : Text) (rising : IsRising text.items text.end) where
  abbrev place : ℕ → ℕ
  place n = start_of (rest_after n text)

  lower : (a b : ℕ) → a < b → b ≤ length text.items → place a < place b
  lower a b below inside = place-between text.items text.end a b rising below inside

  with-places : (cut : ℕ) (boundaries : List Boundary) → cut ≤ length text.items → AreAtMost (length text.items) (offsets boundaries)
      → map (boundary_in text) (with_cut cut boundaries) ≡ with_cut (place cut) (map (boundary_in text) boundaries)
  with-places cut [] inside are = refl
  with-places cut (found ∷ boundaries) inside are =
      elim (cases_lt cut found.offset) [
        | inl below ↦ rw (less cut found.offset below, less (place cut) (place found.offset) (lower cut found.offset below are.0)) refl
        | inr above ↦ elim (cases_lt found.offset cut) [
          | inl before ↦
              let later = with-places cut boundaries inside are.1 in
              ap (map (boundary_in text)) (cut-after cut found boundaries before)
              ∙ ap (λ (rest : List Boundary). boundary_in text found ∷ rest) later
              ∙ sym (cut-after (place cut) (boundary_in text found) (map (boundary_in text) boundaries) (lower found.offset cut before inside))
          | inr other ↦
              let at : cut ≡ found.offset = omega (arith, above, other) in
              ap (map (boundary_in text)) (cut-at cut found boundaries at)
              ∙ sym (cut-at (place cut) (boundary_in text found) (map (boundary_in text) boundaries) (ap place at))
        ]
      ]

  with-inside : (cut : ℕ) (boundaries : List Boundary) → cut ≤ length text.items → AreAtMost (length text.items) (offsets boundaries)
      → AreAtMost (length text.items) (offsets (with_cut cut boundaries))
  with-inside cut [] inside are = (inside, tt)
  with-inside cut (found ∷ boundaries) inside are = on (nat_lt cut found.offset) (cut == found.offset) (with-inside cut boundaries inside are.1)
    where
      on : (b c : Bool) → AreAtMost (length text.items) (offsets (with_cut cut boundaries))
          → AreAtMost (length text.items) (offsets (if b then boundary cut 0 ∷ found ∷ boundaries else if c then found ∷ boundaries else found ∷ with_cut cut boundaries))
      on true c later = (inside, are)
      on false true later = are
      on false false later = (are.0, later)

  joined-inside : (boundaries : List Boundary) (cuts : List ℕ) → AreAtMost (length text.items) (offsets boundaries) → AreAtMost (length text.items) cuts
      → AreAtMost (length text.items) (offsets (joined boundaries cuts))
  joined-inside boundaries [] are inside = are
  joined-inside boundaries (cut ∷ cuts) are inside = with-inside cut (joined boundaries cuts) inside.0 (joined-inside boundaries cuts are inside.1)

  -- boundaries and cuts that are joined stand where they stand apart
  pub joined-places : (boundaries : List Boundary) (cuts : List ℕ) → AreAtMost (length text.items) (offsets boundaries) → AreAtMost (length text.items) cuts
      → map (boundary_in text) (joined boundaries cuts) ≡ joined (map (boundary_in text) boundaries) (map place cuts)
  joined-places boundaries [] are inside = refl
  joined-places boundaries (cut ∷ cuts) are inside =
      with-places cut (joined boundaries cuts) inside.0 (joined-inside boundaries cuts are inside.1)
      ∙ ap (with_cut (place cut)) (joined-places boundaries cuts are inside.1)

-- the next of what is joined

pub above-more : (low high : ℕ) (numbers : List ℕ) → low < high → AreAbove high numbers → AreAbove low numbers
above-more low high [] below above = tt
above-more low high (n ∷ numbers) below above = (omega (arith, below, above.0), above-more low high numbers below above.1)

all-above : (place : ℕ) (found : Option Boundary) (left : List Boundary) → IfSome found (λ boundary. place < boundary.offset)
    → AreRising (offsets (option_to_list found ++ left)) → (found ≡ None → left ≡ []) → AreAbove place (offsets (option_to_list found ++ left))
all-above place None left before rising none = rw (none refl) tt
all-above place (Some found) left before rising none = (before, above-more place found.offset (offsets left) before rising.0)

-- cuts that rise and stand beyond a place
pub beyond-above : (place : ℕ) (cuts : List ℕ) → AreBeyond (Some place) cuts → AreRising cuts → AreAbove place cuts
beyond-above place [] beyond rising = tt
beyond-above place (cut ∷ cuts) beyond rising = (beyond, above-more place cut cuts beyond rising.0)

cuts-above : (place : ℕ) (cut : Option ℕ) (cuts : List ℕ) → IfSome cut (λ first. place < first) → AreRising (option_to_list cut ++ cuts) → (cut ≡ None → AreBeyond (Some place) cuts)
    → AreAbove place (option_to_list cut ++ cuts)
cuts-above place None cuts before rising beyond = beyond-above place cuts (beyond refl) rising
cuts-above place (Some cut) cuts before rising beyond = (before, above-more place cut cuts before rising.0)

abbrev pub offset_of : Option Boundary → Option ℕ
offset_of found = option_map (λ (boundary : Boundary). boundary.offset) found

module _ (held cut : Option ℕ) (before after : List ℕ) (same : option_to_list cut ++ after ≡ option_to_list held ++ before) (rises : AreRising (option_to_list held ++ before)) where
  taken-rises : AreRising (option_to_list cut ++ after)
  taken-rises = subst AreRising (sym same) rises

  pub cut-step : (found : Option Boundary) (left : List Boundary) (place : ℕ)
      → cut ≡ Some place → IfSome found (λ boundary. place < boundary.offset)
      → AreRising (offsets (option_to_list found ++ left)) → (found ≡ None → left ≡ [])
      → joined (option_to_list found ++ left) (option_to_list held ++ before) ≡ boundary place 0 ∷ joined (option_to_list found ++ left) after
  cut-step found left place is ahead rising none =
      let first : AreRising (place ∷ after) = subst (λ (cut : Option ℕ). AreRising (option_to_list cut ++ after)) is taken-rises in
      ap (joined (option_to_list found ++ left)) (sym same)
      ∙ ap (λ (cut : Option ℕ). joined (option_to_list found ++ left) (option_to_list cut ++ after)) is
      ∙ cut-first place (option_to_list found ++ left) after (all-above place found left ahead rising none) first.0

  pub boundary-step : (found : Option Boundary) (left : List Boundary) (next : Boundary)
      → found ≡ Some next → IfSome cut (λ place. next.offset < place) → (cut ≡ None → AreBeyond (offset_of found) after)
      → joined (option_to_list found ++ left) (option_to_list held ++ before) ≡ next ∷ joined left (option_to_list cut ++ after)
  boundary-step found left next is ahead beyond =
      let far : cut ≡ None → AreBeyond (Some next.offset) after = λ none. subst (λ (found : Option Boundary). AreBeyond (offset_of found) after) is (beyond none) in
      ap (joined (option_to_list found ++ left)) (sym same)
      ∙ ap (λ (found : Option Boundary). joined (option_to_list found ++ left) (option_to_list cut ++ after)) is
      ∙ boundary-first next left (option_to_list cut ++ after) (cuts-above next.offset cut after ahead taken-rises far)

  pub both-step : (found : Option Boundary) (left : List Boundary) (next : Boundary)
      → found ≡ Some next → cut ≡ Some next.offset
      → joined (option_to_list found ++ left) (option_to_list held ++ before) ≡ next ∷ joined left after
  both-step found left next is at =
      let rising : AreRising (next.offset ∷ after) = subst (λ (cut : Option ℕ). AreRising (option_to_list cut ++ after)) at taken-rises in
      ap (joined (option_to_list found ++ left)) (sym same)
      ∙ ap (λ (found : Option Boundary). joined (option_to_list found ++ left) (option_to_list cut ++ after)) is
      ∙ ap (λ (cut : Option ℕ). joined (next ∷ left) (option_to_list cut ++ after)) at
      ∙ both-first next.offset next left after refl rising.0
