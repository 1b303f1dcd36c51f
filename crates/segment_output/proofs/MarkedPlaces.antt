-- Boundaries up to a limit that say something, with the marks that they give.
use Rattle.std.proofs.Common.{◌≡◌, ℕ, Bool, true, false, cond, Option, None, Some, List, [], ◌∷◌, refl, sym, ap, ap₂, ◌∙◌}
use Rattle.std.specs.Iterator.{YieldsFirst}
use Rattle.icu_segmenter.specs.Boundary.{Boundary}
use Rattle.icu_segmenter.specs.Boundaries.{offsets}
use Rattle.icu_segmenter.specs.TextSegments.{marked}
use Rattle.segment_output.specs.Output.{shown_boundaries, shown_places, unmarked}
use Rattle.segment_output.specs.declared.marks.Mark.{Mark}
use Rattle.segment_output.specs.declared.marks.Mark.TheVariants.{Unmarked}

-- what is left of them up to a limit, step by step, where those before are behind it
module _ {M L : Type 0} (mark : ℕ → M) (said : M → Mark) (holds : L → ℕ → Bool) where
  -- the marks of those that are left
  abbrev pub marks_up_to : L → List Boundary → List (ℕ × Mark)
  marks_up_to limit left = marked (λ status. said (mark status)) (shown_boundaries (holds limit) left)

  module _ (limit now : L) (same : now ≡ limit) (old s t : List Boundary) (r : Option Boundary) (over : marks_up_to limit old ≡ marks_up_to limit s)
      (gives : YieldsFirst (λ (left : List Boundary). left) s r t) where
    pub next-marked : (end : Boundary) (told : M) (shown : Mark) (admitted : Bool) → r ≡ Some end → told ≡ mark end.status → shown ≡ said told
        → admitted ≡ holds now end.offset → admitted ≡ true → marks_up_to limit old ≡ (end.offset, shown) ∷ marks_up_to now t
    next-marked end told shown admitted is is-told is-said admits within =
        let first : s ≡ end ∷ t = rw is at gives in
        let test : holds limit end.offset ≡ true = ap (λ limit. holds limit end.offset) (sym same) ∙ sym admits ∙ within in
        let here : marks_up_to limit (end ∷ t) ≡ (end.offset, said (mark end.status)) ∷ marks_up_to limit t = rw test refl in
        over ∙ ap (marks_up_to limit) first ∙ here
        ∙ ap₂ (λ shown limit. (end.offset, shown) ∷ marks_up_to limit t) (ap said (sym is-told) ∙ sym is-said) (sym same)

    pub passes-over : (end : Boundary) (admitted : Bool) → r ≡ Some end → admitted ≡ holds now end.offset → admitted ≡ false → marks_up_to limit old ≡ marks_up_to limit t
    passes-over end admitted is admits above =
        let first : s ≡ end ∷ t = rw is at gives in
        let test : holds limit end.offset ≡ false = ap (λ limit. holds limit end.offset) (sym same) ∙ sym admits ∙ above in
        let none : marks_up_to limit (end ∷ t) ≡ marks_up_to limit t = rw test refl in
        over ∙ ap (marks_up_to limit) first ∙ none

    pub none-marked : r ≡ None → (marks_up_to limit old ≡ []) × (marks_up_to now t ≡ [])
    none-marked is =
        let none : (s ≡ []) × (t ≡ []) = rw is at gives in
        (over ∙ ap (marks_up_to limit) none.0, ap (marks_up_to now) none.1)

offsets-kept : (b : Bool) (found : Boundary) (places : List ℕ) (boundaries : List Boundary) → places ≡ offsets boundaries
    → cond b (found.offset ∷ places) places ≡ offsets (cond b (found ∷ boundaries) boundaries)
offsets-kept true found places boundaries same = ap (λ places. found.offset ∷ places) same
offsets-kept false found places boundaries same = same

-- places of the boundaries that a limit admits
pub shown-offsets : (admits : ℕ → Bool) (boundaries : List Boundary) → shown_places admits (offsets boundaries) ≡ offsets (shown_boundaries admits boundaries)
shown-offsets admits [] = refl
shown-offsets admits (found ∷ boundaries) = offsets-kept (admits found.offset) found _ _ (shown-offsets admits boundaries)

unsaid : (boundaries : List Boundary) → unmarked (offsets boundaries) ≡ marked (λ status. Unmarked) boundaries
unsaid [] = refl
unsaid (found ∷ boundaries) = ap (λ ends. (found.offset, Unmarked) ∷ ends) (unsaid boundaries)

-- where nothing is said of boundaries, their places are enough
pub nothing-said : (admits : ℕ → Bool) (boundaries : List Boundary) (places : List ℕ) → places ≡ offsets boundaries
    → unmarked (shown_places admits places) ≡ marked (λ status. Unmarked) (shown_boundaries admits boundaries)
nothing-said admits boundaries places are =
    ap (λ (found : List ℕ). unmarked (shown_places admits found)) are ∙ ap unmarked (shown-offsets admits boundaries) ∙ unsaid (shown_boundaries admits boundaries)

-- where it admits all, they are all
pub all-shown : (boundaries : List Boundary) → shown_boundaries (λ _. true) boundaries ≡ boundaries
all-shown [] = refl
all-shown (found ∷ boundaries) = ap (λ boundaries. found ∷ boundaries) (all-shown boundaries)
