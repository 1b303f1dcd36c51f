-- What stands before the first word that ends the options.
use Rattle.std.proofs.Common.{◌≡◌, Bool, true, false, cond, ℕ, Option, Some, None, List, length, take, sym, ◌∙◌, ap, arith}
use Rattle.std.proofs.lemmas.Grind.{common_steps}
use Rattle.std.specs.List.{position_or_len, before_first}
use lib.Dec.{ltb}

some-of : (b : Bool) (n i : ℕ) → Some i ≡ cond b (Some n) None → n ≡ i
some-of true n i h = cc
some-of false n i h = cc

none-of : (b : Bool) (n : ℕ) → None ≡ cond b (Some n) None → b ≡ false
none-of true n h = cc
none-of false n h = cc

module _ {X : Type 0} (p : X → Bool) (xs : List X) (r : Option ℕ) (found : r ≡ cond (ltb (position_or_len p xs) (length xs)) (Some (position_or_len p xs)) None) where
  pub first-of : (i : ℕ) → r ≡ Some i → take i xs ≡ before_first p xs
  first-of i h = ap (λ n. take n xs) (sym (some-of _ _ i (sym h ∙ found)))

  pub all-first : r ≡ None → xs ≡ before_first p xs
  all-first h = let e : ltb (position_or_len p xs) (length xs) ≡ false = none-of _ _ (sym h ∙ found) in grind (arith, common_steps)
