-- Rows below that of marks, where these are read with what they follow: the rows are a rule of the kit that passes over marks.
use Rattle.std.proofs.Common.{◌≡◌, ℕ, ◌<◌, Bool, true, false, cond, not, ◌&&◌, ◌||◌, ◌==◌, Option, Some, None, List, [], ◌∷◌, ◌++◌, unwrap_or, refl, sym, ap, subst, ◌∙◌, inl, inr}
use Rattle.std.specs.Option.{is_some}
use Rattle.std.proofs.lemmas.Bool.{and_parts}
use Rattle.unicode_segmentation.specs.Segments.{Rule}
use Rattle.unicode_segmentation.proofs.BoolLemmas.{not_swap, same, same-true}
use Rattle.seg_machine.specs.Machine.{Machine, symbols_of}
use Rattle.seg_rules.specs.Plain.{bases_after, bases_before, first_row, is_base, is_marked, plain_verdict}
use Rattle.seg_rules.specs.RowRules.{RowRules, has}
use Rattle.icu_segmenter_uax29.proofs.Lists.{bool-cases}
use Rattle.icu_segmenter_uax29.proofs.RangeSymbols.{symbol_in}
use Rattle.icu_segmenter_uax29.proofs.RowPlaces.{RowsAre}
use Rattle.icu_segmenter_uax29.proofs.Sides.{for-flags, for-text, for_flags, for_text, joined, joined-is, joins-either, left_by, right_by}
use Rattle.icu_segmenter_uax29.proofs.Tests.{clash, not-true}

base-of : (mark past bare : Bool) → (bare && mark) ≡ false → ((mark && past) || (true && not bare)) ≡ not bare
base-of true true false h = refl
base-of true false false h = refl
base-of false past false h = refl
base-of true past true h = cc
base-of false past true h = refl

pub not-bare : (bare mark : Bool) → (bare && mark) ≡ false → mark ≡ true → bare ≡ false
not-bare false mark h is = refl
not-bare true mark h is = clash is h

-- The rows above say of two symbols what a rule of pairs says. Where it says nothing, the second is no mark, and both are free.
abbrev pub agrees : RowRules → (pair : ℕ → ℕ → Option Bool) (free : ℕ → ℕ → Bool) (s t : ℕ) → List Bool → Bool
agrees rules pair free s t (joins ∷ []) =
    same (joined rules.above (left_by (s ∷ [])) (right_by t []) (cond (has rules.marks t && not (has rules.bare s)) true joins)) (not (unwrap_or (pair s t) (not joins)))
    && (is_some (pair s t) || (not (has rules.marks t) && free s t))
agrees rules pair free s t _ = true

abbrev pub all_agree : RowRules → (pair : ℕ → ℕ → Option Bool) (free : ℕ → ℕ → Bool) → ℕ → Bool
all_agree rules pair free count = for_text count (λ s. for_text count (λ t. for_flags 1 (agrees rules pair free s t)))

module _ (rules : RowRules) (m : Machine) (marked : rules.has_marks ≡ true)
    (apart : (c : ℕ) → (has rules.bare (symbol_in m c) && has rules.marks (symbol_in m c)) ≡ false) where
  -- a mark is one with what stands before it, but for what is bare
  pub base-is : (c : ℕ) (before : List ℕ) → is_base rules (symbols_of m (c ∷ before)) ≡ not (has rules.bare (symbol_in m c))
  unfolding is_base
  base-is c before =
      let s = symbol_in m c in
      let past = is_base rules (symbols_of m before) in
      ap (λ marked. (has rules.marks s && past) || (marked && not (has rules.bare s))) marked
      ∙ base-of (has rules.marks s) past (has rules.bare s) (apart c)

  -- what is bare stands last, or nothing does
  abbrev pub EndsBare : List ℕ → Type 0
  EndsBare [] = Unit {0}
  EndsBare (c ∷ cs) = has rules.bare (symbol_in m c) ≡ true

  ends-bare : (cs : List ℕ) → is_base rules (symbols_of m cs) ≡ false → EndsBare cs
  ends-bare [] alone = tt
  ends-bare (c ∷ cs) alone = sym (not_swap _ _ (sym (sym (base-is c cs) ∙ alone)))

  -- what is so of the start, and stays so with each code point, is so of all bases and their code points
  module _ (P : List ℕ → List ℕ → Type 0) (start : P (0 ∷ []) [])
      (passed : (c : ℕ) (bases cs : List ℕ) → has rules.marks (symbol_in m c) ≡ true → is_base rules (symbols_of m cs) ≡ true → P bases cs → P bases (c ∷ cs))
      (alone : (c : ℕ) (bases cs : List ℕ) → has rules.marks (symbol_in m c) ≡ true → EndsBare cs → P bases cs → P (rules.alone ∷ bases) (c ∷ cs))
      (kept : (c : ℕ) (bases cs : List ℕ) → has rules.marks (symbol_in m c) ≡ false → P bases cs → P (symbol_in m c ∷ bases) (c ∷ cs)) where
    pub bases-are : (cs : List ℕ) → P (bases_before rules (symbols_of m cs)) cs
    unfolding bases_before
    bases-are [] = start
    bases-are (c ∷ cs) =
        let bases = bases_before rules (symbols_of m cs) in
        let base = is_base rules (symbols_of m cs) in
        let later = bases-are cs in
        elim (bool-cases (has rules.marks (symbol_in m c))) [
          | inr plain ↦
              subst (λ mark. P (cond (mark && base) bases (cond mark rules.alone (symbol_in m c) ∷ bases)) (c ∷ cs)) (sym plain) (kept c bases cs plain later)
          | inl mark ↦
              subst (λ mark. P (cond (mark && base) bases (cond mark rules.alone (symbol_in m c) ∷ bases)) (c ∷ cs)) (sym mark)
              (elim (bool-cases base) [
                | inl is ↦ subst (λ base. P (cond base bases (rules.alone ∷ bases)) (c ∷ cs)) (sym is) (passed c bases cs mark is later)
                | inr first ↦ subst (λ base. P (cond base bases (rules.alone ∷ bases)) (c ∷ cs)) (sym first) (alone c bases cs mark (ends-bare cs first) later)
              ])
        ]

  -- what the rows below join, of code points of which the second is no mark
  abbrev pub joins_below : (c d : ℕ) (before after : List ℕ) → Bool
  joins_below c d before after =
      joined rules.below (left_by (bases_before rules (symbols_of m (c ∷ before))))
      (right_by (symbol_in m d) (bases_after rules (not (has rules.bare (symbol_in m d))) (symbols_of m after))) true

  below-is : (base : Bool) (d : ℕ) (bases after : List ℕ) → has rules.marks (symbol_in m d) ≡ false
      → (first_row rules.below bases (bases_after rules base (symbols_of m (d ∷ after))) 0 == 0)
      ≡ joined rules.below (left_by bases) (right_by (symbol_in m d) (bases_after rules (not (has rules.bare (symbol_in m d))) (symbols_of m after))) true
  unfolding bases_after
  below-is base d bases after plain =
      let t = symbol_in m d in
      let later = λ (mark marked : Bool). bases_after rules ((mark && base) || (marked && not (has rules.bare t))) (symbols_of m after) in
      (λ i. first_row rules.below bases (cond (plain i && base) (later (plain i) (marked i)) (cond (plain i) rules.alone t ∷ later (plain i) (marked i))) 0 == 0)
      ∙ joined-is rules.below bases t (bases_after rules (not (has rules.bare t)) (symbols_of m after)) 0

  -- a rule that reads pairs of symbols as the rows above do, and otherwise what the rows below read
  module _ (rule : Rule) (pair : ℕ → ℕ → Option Bool) (free : ℕ → ℕ → Bool) (count : ℕ)
      (inside : (c : ℕ) → (0 < symbol_in m c) × (symbol_in m c < count))
      (agree : all_agree rules pair free count ≡ true)
      (short : (s t : ℕ) (before after : List ℕ) (joins : Bool)
      → joined rules.above (left_by (s ∷ before)) (right_by t after) joins ≡ joined rules.above (left_by (s ∷ [])) (right_by t []) joins)
      (otherwise : (c d : ℕ) (before after : List ℕ) → Bool)
      (by_pairs : (c d : ℕ) (before after : List ℕ) → rule (c ∷ before) (d ∷ after) ≡ unwrap_or (pair (symbol_in m c) (symbol_in m d)) (otherwise c d before after))
      (below : (c d : ℕ) (before after : List ℕ) → has rules.marks (symbol_in m d) ≡ false → free (symbol_in m c) (symbol_in m d) ≡ true
      → joins_below c d before after ≡ not (otherwise c d before after)) where
    agreeing : (c d : ℕ) (joins : Bool) → agrees rules pair free (symbol_in m c) (symbol_in m d) (joins ∷ []) ≡ true
    agreeing c d joins =
        let s = symbol_in m c in
        let t = symbol_in m d in
        for-flags (agrees rules pair free s t) (joins ∷ [])
        (for-text count (λ t. for_flags 1 (agrees rules pair free s t)) t
        (for-text count (λ s. for_text count (λ t. for_flags 1 (agrees rules pair free s t))) s agree (inside c).0 (inside c).1) (inside d).0 (inside d).1)

    choice : (found : Option Bool) (joins breaks : Bool) → (found ≡ None → joins ≡ not breaks) → not (unwrap_or found (not joins)) ≡ not (unwrap_or found breaks)
    choice None joins breaks h = ap (λ b. not (not b)) (h refl) ∙ ap not (not_swap (not breaks) breaks refl)
    choice (Some b) joins breaks h = refl

    pub rows-are : RowsAre rule rules m
    unfolding plain_verdict
    rows-are c d before after =
        let s = symbol_in m c in
        let t = symbol_in m d in
        let base = is_base rules (symbols_of m (c ∷ before)) in
        let bases = bases_before rules (symbols_of m (c ∷ before)) in
        let rest = bases_after rules base (symbols_of m (d ∷ after)) in
        let lower = first_row rules.below bases rest 0 in
        joined-is rules.above (symbols_of m (c ∷ before) ++ (0 ∷ [])) t (symbols_of m after ++ (0 ∷ []))
        (cond (rules.has_marks && is_marked rules base (symbols_of m (d ∷ after))) 0 lower)
        ∙ ap (joined rules.above (left_by (symbols_of m (c ∷ before) ++ (0 ∷ []))) (right_by t (symbols_of m after ++ (0 ∷ []))))
        (joins-either (rules.has_marks && is_marked rules base (symbols_of m (d ∷ after))) 0 lower
        ∙ (λ i. cond (marked i && (has rules.marks t && base-is c before i)) true (lower == 0)))
        ∙ short s t (symbols_of m before ++ (0 ∷ [])) (symbols_of m after ++ (0 ∷ [])) (cond (has rules.marks t && not (has rules.bare s)) true (lower == 0))
        ∙ same-true _ _ (and_parts _ _ (agreeing c d (lower == 0))).0
        ∙ choice (pair s t) (lower == 0) (otherwise c d before after)
        (λ none.
        let found = ap (λ found. is_some found || (not (has rules.marks t) && free s t)) (sym none) ∙ (and_parts _ _ (agreeing c d true)).1 in
        let parts = and_parts (not (has rules.marks t)) _ found in
        let plain = not-true _ parts.0 in
        below-is base d bases after plain ∙ below c d before after plain parts.1)
        ∙ ap not (sym (by_pairs c d before after))
