-- What an iterator owes that gives the first of a list each time.
use Rattle.std.proofs.Common.{◌≡◌, List, ◌∷◌, length, ap, arith}
use Rattle.std.specs.Prelude.{Some, ⊤}
use Rattle.std.specs.Iterator.{MakesProgress, item_count}

-- with each item fewer are left
pub fewer : {S A B : Type 0} (left : S → List B) (s t : S) (item : A) (first : B) → left s ≡ first ∷ left t
    → MakesProgress (λ _. ⊤) (item_count left) s (Some item) t
fewer left s t item first gave =
    record { on = λ _. (tt, tt, omega (arith, ap length gave)); keeps = tt; rests = λ _. tt }
