-- Lists whose elements all pass a test, what lists contain, and what may be missing.
use Rattle.std.proofs.Common.{◌≡◌, ℕ, zero, suc, ◌⊎◌, Bool, true, false, not, ◌&&◌, List, [], ◌∷◌, get_or, Option, Some, None, refl, subst, arith, inl, inr}
use Rattle.std.specs.List.{Any, Contains}
use Rattle.std.specs.Option.{is_some}
use Rattle.std.proofs.lemmas.Bool.{and_parts}
use Rattle.std.proofs.lemmas.List.Elements.{Contains-append_left, Contains-append_right, Contains-append_cases, Contains-push, Contains-push_cases}

pub option-cases : {X : Type 0} (found : Option X) → (found ≡ None) ⊎ ((x : X) × (found ≡ Some x))
option-cases None = inl refl
option-cases (Some x) = inr (x, refl)

pub none-from : {X : Type 0} (found : Option X) → not (is_some found) ≡ true → found ≡ None
none-from None h = refl
none-from (Some x) h = cc

pub bool-cases : (b : Bool) → (b ≡ true) ⊎ (b ≡ false)
bool-cases true = inl refl
bool-cases false = inr refl

pub has-none : {X : Type 0} (x : X) → Contains [] x → ⊥
has-none x (k, below, is) = omega arith

pub has-cases : {X : Type 0} (y : X) (ys : List X) (x : X) → Contains (y ∷ ys) x → (y ≡ x) ⊎ Contains ys x
has-cases y ys x has =
    elim (Contains-append_cases (y ∷ []) ys x has) [
      | inl here ↦ elim (Contains-push_cases [] y x here) [
        | inl none ↦ absurd (has-none x none)
        | inr is ↦ inl is
      ]
      | inr later ↦ inr later
    ]

pub has-here : {X : Type 0} (x : X) (xs : List X) → Contains (x ∷ xs) x
has-here x xs = Contains-append_left (x ∷ []) xs x (Contains-push [] x)

pub has-later : {X : Type 0} (y : X) (ys : List X) (x : X) → Contains ys x → Contains (y ∷ ys) x
has-later y ys x has = Contains-append_right (y ∷ []) ys x has

-- all elements pass the test
abbrev pub every : {X : Type 0} → (X → Bool) → List X → Bool
every test [] = true
every test (x ∷ xs) = test x && every test xs

pub passes : {X : Type 0} (test : X → Bool) (xs : List X) (x : X) → every test xs ≡ true → Contains xs x → test x ≡ true
passes test [] x all has = absurd (has-none x has)
passes test (y ∷ ys) x all has =
    let parts = and_parts (test y) (every test ys) all in
    elim (has-cases y ys x has) [
      | inl is ↦ subst (λ z. test z ≡ true) is parts.0
      | inr later ↦ passes test ys x parts.1 later
    ]

-- some element has the property, and it passes what all pass
pub any-passes : {X : Type 0} {P : X → Type 0} (test : X → Bool) (xs : List X) → every test xs ≡ true → Any P xs → (x : X) × (test x ≡ true) × P x
any-passes test xs all (k, x, below, is, p) = (x, passes test xs x all (k, below, is), p)

-- what all elements pass, and the default too, is passed wherever the list is read
pub every-at : {X : Type 0} (test : X → Bool) (xs : List X) (k : ℕ) (default : X) → every test xs ≡ true → test default ≡ true → test (get_or xs k default) ≡ true
every-at test [] k default all is = is
every-at test (x ∷ xs) zero default all is = (and_parts (test x) (every test xs) all).0
every-at test (x ∷ xs) (suc k) default all is = every-at test xs k default (and_parts (test x) (every test xs) all).1 is
