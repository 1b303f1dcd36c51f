-- `Any` over lists.
use Rattle.std.proofs.Common.{◌≡◌, ℕ, suc, zero, ◌<◌, ◌⊎◌, List, [], ◌∷◌, length, map, get_or, Any, Contains, refl, sym, subst, inl, inr, arith}
use Rattle.std.proofs.lemmas.List.{get_or_default}

pub any-at : {X : Type 0} (P : X → Type 0) (xs : List X) (k : ℕ) (d : X) → k < length xs → P (get_or xs k d) → Any P xs
any-at P xs k d within p = (k, get_or xs k d, within, get_or_default xs k (get_or xs k d) d within, p)

pub any-head : {X : Type 0} (P : X → Type 0) (x : X) (xs : List X) → P x → Any P (x ∷ xs)
any-head P x xs p = (0, x, omega arith, refl, p)

pub any-tail : {X : Type 0} (P : X → Type 0) (x : X) (xs : List X) → Any P xs → Any P (x ∷ xs)
any-tail P x xs any = (suc any.0, any.1, omega arith, any.3, any.4)

any-split : {X : Type 0} (P : X → Type 0) (x : X) (xs : List X) (k : ℕ) (y : X) → k < length (x ∷ xs) → get_or (x ∷ xs) k y ≡ y → P y → P x ⊎ Any P xs
any-split P x xs zero y within here p = inl (subst P (sym here) p)
any-split P x xs (suc k) y within here p = inr (k, y, omega arith, here, p)

pub any-cases : {X : Type 0} (P : X → Type 0) (x : X) (xs : List X) → Any P (x ∷ xs) → P x ⊎ Any P xs
any-cases P x xs any = any-split P x xs any.0 any.1 any.2 any.3 any.4

pub any-none : {X : Type 0} (P : X → Type 0) → Any P [] → ⊥
any-none P any = omega arith

pub any-map : {X Y : Type 0} (f : X → Y) (P : Y → Type 0) (xs : List X) → Any (λ x. P (f x)) xs → Any P (map f xs)
any-map f P [] any = absurd (any-none (λ x. P (f x)) any)
any-map f P (x ∷ xs) any =
    elim (any-cases (λ x. P (f x)) x xs any) [
      | inl p ↦ any-head P (f x) (map f xs) p
      | inr later ↦ any-tail P (f x) (map f xs) (any-map f P xs later)
    ]

pub any-unmap : {X Y : Type 0} (f : X → Y) (P : Y → Type 0) (xs : List X) → Any P (map f xs) → Any (λ x. P (f x)) xs
any-unmap f P [] any = absurd (any-none P any)
any-unmap f P (x ∷ xs) any =
    elim (any-cases P (f x) (map f xs) any) [
      | inl p ↦ any-head (λ x. P (f x)) x xs p
      | inr later ↦ any-tail (λ x. P (f x)) x xs (any-unmap f P xs later)
    ]

pub any-contained : {X : Type 0} (P : X → Type 0) (xs : List X) (x : X) → Contains xs x → P x → Any P xs
any-contained P xs x there p = (there.0, x, there.1, there.2, p)

pub contained-same : {X : Type 0} (xs : List X) (x : X) → Any (λ y. y ≡ x) xs → Contains xs x
contained-same xs x any = subst (Contains xs) any.4 (any.0, any.2, any.3)
