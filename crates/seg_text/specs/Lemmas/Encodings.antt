-- What holds of an encoding in units: how its texts come from what it reads.
use Rattle.std.proofs.Common.{◌≡◌, ℕ, ◌+◌, List, [], ◌∷◌, drop}
use Rattle.std.specs.Prelude.{map}
use Rattle.seg_text.specs.Items.{Text, Reader, IsRising, text_by}
use Rattle.seg_text.specs.Lemmas.Readers.{IsStable, items_by-rises}

-- what reads an item as its code point
abbrev pub coded : {U C : Type 0} → (List U → ℕ × C) → (C → ℕ) → Reader U
coded read code units = ((read units).0, code (read units).1)

-- the texts, and their characters, are what is read
pub record IsEncoding {U C : Type 0} (read : List U → ℕ × C) (code : C → ℕ) (characters : ℕ → List U → List (ℕ × C)) (text : ℕ → List U → Text) : Type 0 where
  pub stable : IsStable (coded read code)
  pub none : (place : ℕ) → characters place [] ≡ []
  pub some : (place : ℕ) (unit : U) (units : List U) → characters place (unit ∷ units)
      ≡ (place, (read (unit ∷ units)).1) ∷ characters (place + (read (unit ∷ units)).0) (drop (read (unit ∷ units)).0 (unit ∷ units))
  pub is : (place : ℕ) (units : List U) → text place units ≡ text_by (coded read code) place units
  pub items : (place : ℕ) (units : List U) → (text place units).items ≡ map (λ (c : ℕ × C). (c.0, code c.1)) (characters place units)

module _ {U C : Type 0} (read : List U → ℕ × C) (code : C → ℕ) (characters : ℕ → List U → List (ℕ × C)) (text : ℕ → List U → Text)
    (encoding : IsEncoding read code characters text) where
  pub text-rises : (place : ℕ) (units : List U) → IsRising (text place units).items (text place units).end
  text-rises place units = rw (encoding.is place units) (items_by-rises (coded read code) encoding.stable.reader place units)
