-- What an engine gives, call by call.
use Rattle.std.proofs.Common.{◌≡◌, ◌≢◌, ℕ, ◌==◌, Bool, true, false, Some, List, [], ◌∷◌, length, refl, ap, arith}
use Rattle.std.proofs.lemmas.Bool.Decides.{nat_tests}
use Rattle.std.specs.Prelude.{⊤}
use Rattle.std.specs.Iterator.{MakesProgress, item_count}
use Rattle.seg_text.specs.Items.{Item, Text, start_of, rest_after, code_points}
use Rattle.seg_text.specs.declared.boundary.Boundary.{Boundary}
use Rattle.seg_text.specs.Boundaries.{Remainder, boundary, boundary_in, offsets, offsets_left, Stretch, remainder}
use Rattle.seg_text.proofs.Cursors.{fewer-left}
use Rattle.seg_text.proofs.Stretches.{text-later-nil, text-later-next}
use Rattle.seg_machine.specs.Machine.{Machine, symbols_of}
use Rattle.seg_machine.specs.Pick.{pick, machine_stretch}
use Rattle.seg_machine.proofs.Segmentations.{machine-picks, machine-going}

-- what a call owes that gives a boundary: it was the first that was left, and has its status
pub record Gives (before after : Remainder) (offset : ℕ) : Type 0 where
  pub steps : (offsets_left before ≡ offset ∷ offsets_left after) × (before.left ≡ boundary offset after.status ∷ after.left)
  pub goes : MakesProgress (λ _. ⊤) (item_count offsets_left) before (Some offset) after

gives : (before after : Remainder) (offset : ℕ) → before.left ≡ boundary offset after.status ∷ after.left → Gives before after offset
gives before after offset is =
    let steps : offsets_left before ≡ offset ∷ offsets_left after = ap offsets is in
    record { steps = (steps, is); goes = fewer-left offsets_left before after offset steps }

pub gives-start : (first : List ℕ → Stretch) (text : Text) (started : Bool) (status place : ℕ)
    → started ≡ false → status ≡ 0 → place ≡ start_of text
    → Gives (remainder started first text status) (remainder true first text status) place
gives-start first text started status place off none is = gives _ _ place (rw (off, none, is) refl)

pub gives-next : (m : Machine) (text rest : Text) (started : Bool) (status next place : ℕ)
    → started ≡ true → text.items ≢ []
    → (p : Boundary) × (pick m (symbols_of m (code_points text.items)) ≡ Some p) × (next ≡ p.status) × (rest ≡ rest_after p.offset text)
    → place ≡ start_of rest
    → Gives (remainder started (machine_stretch m) text status) (remainder started (machine_stretch m) rest next) place
gives-next m text rest started status next place on some (p, picks, same, after) is =
    gives _ _ place (rw (on, is, after, same) (from text.items some picks))
  where
    from : (items : List Item) → items ≢ [] → pick m (symbols_of m (code_points items)) ≡ Some p
        → let whole : Text = record { items = items; end = text.end } in
        (remainder true (machine_stretch m) whole status).left
        ≡ boundary_in whole p ∷ (remainder true (machine_stretch m) (rest_after p.offset whole) p.status).left
    from [] some picks = absurd (some refl)
    from (item ∷ items) some picks =
        rw (machine-picks m _ p picks) at (text-later-next (machine_stretch m) (machine-going m) item items text.end)

pub end-left : (first : List ℕ → Stretch) (text : Text) (started : Bool) (status : ℕ)
    → started ≡ true → (length text.items == 0) ≡ true → (remainder started first text status).left ≡ []
end-left first text started status on none = from text.items none
  where
    from : (items : List Item) → (length items == 0) ≡ true → (remainder started first (record { items = items; end = text.end }) status).left ≡ []
    from [] none = rw on (text-later-nil first text.end)
    from (item ∷ items) none = absurd (grind (arith, nat_tests))

-- a text that isn't at its end
pub not_at_end : (items : List Item) → (length items == 0) ≡ false → items ≢ []
not_at_end [] some none = cc
not_at_end (item ∷ items) some none = cc
