-- Boundaries stand just where a rule breaks.
use Rattle.std.proofs.Common.{◌≡◌, ℕ, suc, ◌+◌, ◌<◌, true, List, [], ◌∷◌, ◌++◌, length, reverse, sym, ap, subst, ◌∙◌, arith, inl, inr, append_assoc, append-nil, zero-add}
use Rattle.std.specs.List.{Contains}
use Rattle.std.proofs.lemmas.Bool.{cond_both, cond-true}
use Rattle.std.proofs.lemmas.List.{reverse-append}
use Rattle.unicode_segmentation.specs.Segments.{Rule, cut}
use Rattle.seg_text.specs.Boundaries.{offsets}
use Rattle.seg_machine.specs.Machine.{Machine}
use Rattle.seg_machine.specs.Pick.{machine_boundaries}
use Rattle.icu_segmenter_uax29.specs.Pieces.{piece_ends}
use Rattle.icu_segmenter_uax29.proofs.Ends.{break_places, ends-cut}
use Rattle.icu_segmenter_uax29.proofs.Lists.{has-none, has-cases, has-here, has-later}

-- breaks come after what they are counted from
above : (rule : Rule) (before : List ℕ) (from : ℕ) (cs : List ℕ) (n : ℕ) → Contains (break_places rule before from cs) n → from < n
unfolding break_places
above rule before from [] n has = absurd (has-none n has)
above rule before from (c ∷ cs) n has =
    let rest = break_places rule (c ∷ before) (suc from) cs in
    cond_both (rule (c ∷ before) cs) (suc from ∷ rest) rest (λ places. Contains places n → from < n)
    (λ _ has. elim (has-cases (suc from) rest n has) [
      | inl is ↦ omega (arith, is)
      | inr later ↦ omega (arith, above rule (c ∷ before) (suc from) cs n later)
    ])
    (λ _ has. omega (arith, above rule (c ∷ before) (suc from) cs n has)) has

turned : (c : ℕ) (cs before : List ℕ) → reverse (c ∷ cs) ++ before ≡ reverse cs ++ (c ∷ before)
turned c cs before = ap (λ past. past ++ before) (reverse-append (c ∷ []) cs) ∙ append_assoc (reverse cs) (c ∷ []) before

-- a rule breaks after some code points where that is one of its places
says-break : (rule : Rule) (c : ℕ) (cs ys before : List ℕ) (from : ℕ)
    → Contains (break_places rule before from ((c ∷ cs) ++ ys)) (from + length (c ∷ cs)) → rule (reverse (c ∷ cs) ++ before) ys ≡ true
unfolding break_places
says-break rule c [] ys before from has =
    let rest = break_places rule (c ∷ before) (suc from) ys in
    cond_both (rule (c ∷ before) ys) (suc from ∷ rest) rest (λ places. Contains places (from + 1) → rule (c ∷ before) ys ≡ true)
    (λ is _. is)
    (λ _ has. let later = above rule (c ∷ before) (suc from) ys (from + 1) has in absurd (omega arith)) has
says-break rule c (d ∷ ds) ys before from has =
    let rest = break_places rule (c ∷ before) (suc from) ((d ∷ ds) ++ ys) in
    let place : from + length (c ∷ (d ∷ ds)) ≡ suc from + length (d ∷ ds) = omega arith in
    let later : Contains rest (from + length (c ∷ (d ∷ ds))) =
    cond_both (rule (c ∷ before) ((d ∷ ds) ++ ys)) (suc from ∷ rest) rest (λ places. Contains places (from + length (c ∷ (d ∷ ds))) → Contains rest (from + length (c ∷ (d ∷ ds))))
    (λ _ has. elim (has-cases (suc from) rest _ has) [
      | inl is ↦ absurd (omega (arith, is))
      | inr later ↦ later
    ])
    (λ _ has. has) has in
    ap (λ past. rule past ys) (turned c (d ∷ ds) before)
    ∙ says-break rule d ds ys (c ∷ before) (suc from) (subst (Contains rest) place later)

has-break : (rule : Rule) (c : ℕ) (cs ys before : List ℕ) (from : ℕ) → rule (reverse (c ∷ cs) ++ before) ys ≡ true
    → Contains (break_places rule before from ((c ∷ cs) ++ ys)) (from + length (c ∷ cs))
unfolding break_places
has-break rule c [] ys before from is =
    let rest = break_places rule (c ∷ before) (suc from) ys in
    let place : suc from ≡ from + 1 = omega arith in
    subst (λ places. Contains places (from + 1)) (sym (cond-true _ _ _ is)) (subst (Contains (suc from ∷ rest)) place (has-here (suc from) rest))
has-break rule c (d ∷ ds) ys before from is =
    let rest = break_places rule (c ∷ before) (suc from) ((d ∷ ds) ++ ys) in
    let place : suc from + length (d ∷ ds) ≡ from + length (c ∷ (d ∷ ds)) = omega arith in
    let later = has-break rule d ds ys (c ∷ before) (suc from) (sym (ap (λ past. rule past ys) (turned c (d ∷ ds) before)) ∙ is) in
    let there : Contains rest (from + length (c ∷ (d ∷ ds))) = subst (Contains rest) place later in
    cond_both (rule (c ∷ before) ((d ∷ ds) ++ ys)) (suc from ∷ rest) rest (λ places. Contains places (from + length (c ∷ (d ∷ ds))))
    (λ _. has-later (suc from) rest _ there)
    (λ _. there)

-- a machine whose boundaries are where the pieces of a rule end
abbrev pub EndsAre : Rule → Machine → Type 0
EndsAre rule m = (cs : List ℕ) → offsets (machine_boundaries m cs) ≡ 0 ∷ piece_ends 0 (cut rule [] cs [])

-- a rule that breaks at the start and at the end of every text
pub record HasEnds (rule : Rule) : Type 0 where
  pub start : (after : List ℕ) → rule [] after ≡ true
  pub end : (c : ℕ) (before : List ℕ) → rule (c ∷ before) [] ≡ true

boundary_places : (rule : Rule) (m : Machine) → HasEnds rule → EndsAre rule m → (cs : List ℕ) → offsets (machine_boundaries m cs) ≡ 0 ∷ break_places rule [] 0 cs
boundary_places rule m has are cs = are cs ∙ ap (λ places. 0 ∷ places) (ends-cut rule has.end cs [] 0)

-- Law: a boundary stands between two parts of a text just where the rule has one
pub boundaries-break : (rule : Rule) (m : Machine) → HasEnds rule → EndsAre rule m → (before after : List ℕ)
    → Contains (offsets (machine_boundaries m (before ++ after))) (length before) → rule (reverse before) after ≡ true
boundaries-break rule m ends are [] after has = ends.start after
boundaries-break rule m ends are (c ∷ cs) after has =
    let n = length (c ∷ cs) in
    let places = break_places rule [] 0 ((c ∷ cs) ++ after) in
    let found : Contains (0 ∷ places) n = subst (λ places. Contains places n) (boundary_places rule m ends are ((c ∷ cs) ++ after)) has in
    let later : Contains places n = elim (has-cases 0 places n found) [
      | inl is ↦ absurd (omega (arith, is))
      | inr later ↦ later
    ] in
    ap (λ past. rule past after) (sym (append-nil (reverse (c ∷ cs))))
    ∙ says-break rule c cs after [] 0 (subst (Contains places) (sym (zero-add n)) later)

pub breaks-bound : (rule : Rule) (m : Machine) → HasEnds rule → EndsAre rule m → (before after : List ℕ)
    → rule (reverse before) after ≡ true → Contains (offsets (machine_boundaries m (before ++ after))) (length before)
breaks-bound rule m ends are [] after is = subst (λ places. Contains places 0) (sym (boundary_places rule m ends are after)) (has-here 0 _)
breaks-bound rule m ends are (c ∷ cs) after is =
    let n = length (c ∷ cs) in
    let places = break_places rule [] 0 ((c ∷ cs) ++ after) in
    let later = has-break rule c cs after [] 0 (ap (λ past. rule past after) (append-nil (reverse (c ∷ cs))) ∙ is) in
    subst (λ places. Contains places n) (sym (boundary_places rule m ends are ((c ∷ cs) ++ after)))
    (has-later 0 places n (subst (Contains places) (zero-add n) later))
