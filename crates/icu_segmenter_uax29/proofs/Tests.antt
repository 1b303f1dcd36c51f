-- Boolean tests, and what follows from them.
use Rattle.std.proofs.Common.{◌≡◌, ◌⊎◌, Bool, true, false, cond, not, ◌&&◌, ◌||◌, Option, Some, refl, sym, ap, ◌∙◌, inl, inr}

abbrev pub implies : Bool → Bool → Bool
implies b c = cond b c true

pub implied : (b c : Bool) → implies b c ≡ true → b ≡ true → c ≡ true
implied true c h is = h
implied false c h is = cc

pub both : (b c : Bool) → b ≡ true → c ≡ true → (b && c) ≡ true
both b c h k = ap (λ x. x && c) h ∙ k

pub either : (b c : Bool) → (b || c) ≡ true → (b ≡ true) ⊎ (c ≡ true)
either true c h = inl refl
either false c h = inr h

pub not-true : (b : Bool) → not b ≡ true → b ≡ false
not-true true h = cc
not-true false h = refl

pub and-false : (b : Bool) → (b && false) ≡ false
and-false true = refl
and-false false = refl

pub or-true : (b : Bool) → (b || true) ≡ true
or-true true = refl
or-true false = refl

pub clash : {X : Type 0} {b : Bool} → b ≡ true → b ≡ false → X
clash is other = let no : true ≡ false = sym is ∙ other in cc

-- a rule on pairs joins
abbrev pub is_kept : Option Bool → Bool
is_kept (Some false) = true
is_kept _ = false

pub kept-from : (found : Option Bool) → is_kept found ≡ true → found ≡ Some false
kept-from (Some false) h = refl
kept-from _ h = cc
