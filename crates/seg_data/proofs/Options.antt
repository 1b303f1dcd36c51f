-- Options, and which of them have a value.
use Rattle.std.proofs.Common.{◌≡◌, ◌⊎◌, ◌||◌, Bool, true, false, Option, Some, None, refl, subst, inl, inr}
use Rattle.std.specs.Prelude.{IfSome}
use Rattle.std.specs.Option.{is_some, option_map}

pub option-cases : {X : Type 0} (found : Option X) → (found ≡ None) ⊎ ((x : X) × (found ≡ Some x))
option-cases None = inl refl
option-cases (Some x) = inr (x, refl)

pub some-map : {X Y : Type 0} (f : X → Y) (found : Option X) → is_some (option_map f found) ≡ is_some found
some-map f (Some x) = refl
some-map f None = refl

pub or-false : (b : Bool) → (b || false) ≡ b
or-false true = refl
or-false false = refl

pub or-true : (b : Bool) → (b || true) ≡ true
or-true true = refl
or-true false = refl

pub none-of : {X : Type 0} (found : Option X) → is_some found ≡ false → found ≡ None
none-of None is = refl
none-of (Some x) is = cc

pub some-of : {X : Type 0} (found : Option X) → is_some found ≡ true → (x : X) × (found ≡ Some x)
some-of None is = cc
some-of (Some x) is = (x, refl)

-- what holds of each value that an option may have, holds of the option, and of its value
pub if-for : {X : Type 0} (found : Option X) (holds : X → Type 0) → ((x : X) → found ≡ Some x → holds x) → IfSome found holds
if-for None holds for = tt
if-for (Some x) holds for = for x refl

pub if-some : {X : Type 0} (found : Option X) (holds : X → Type 0) (x : X) → IfSome found holds → found ≡ Some x → holds x
if-some {X} found holds x if is = subst (λ (found : Option X). IfSome found holds) is if
