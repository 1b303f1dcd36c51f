-- What it is for symbols to fit a pattern, and what the flags of a pattern say after symbols. Lists of symbols are nearest first.
use Rattle.std.specs.Prelude.{◌≡◌, ℕ, Bool, true, false, List, [], ◌∷◌, ◌++◌, reverse, ◌⊎◌}
use Rattle.seg_rules.specs.declared.rules.Count.TheVariants.{One, Optional, Star, Pairs}
use Rattle.seg_rules.specs.declared.rules.Count.{Count}
use Rattle.seg_rules.specs.RowRules.{Pattern, has, flow, no_flags}

-- symbols of a class
abbrev pub Each : ℕ → List ℕ → Type 0
Each class [] = Unit {0}
Each class (x ∷ xs) = (has class x ≡ true) × Each class xs

-- an even number of them
abbrev pub EachPair : ℕ → List ℕ → Type 0
EachPair class [] = Unit {0}
EachPair class (x ∷ []) = ⊥
EachPair class (x ∷ (y ∷ xs)) = ((has class x ≡ true) × (has class y ≡ true)) × EachPair class xs

-- symbols that fit an item: one, at most one, any number, an even number
abbrev pub FitsItem : ℕ → Count → List ℕ → Type 0
FitsItem class One xs = (x : ℕ) × ((xs ≡ x ∷ []) × (has class x ≡ true))
FitsItem class Optional xs = (xs ≡ []) ⊎ ((x : ℕ) × ((xs ≡ x ∷ []) × (has class x ≡ true)))
FitsItem class Star xs = Each class xs
FitsItem class Pairs xs = EachPair class xs

-- symbols, nearest first, that fit a pattern: those of the first item are the farthest
abbrev pub Fits : Pattern → List ℕ → Type 0
Fits [] xs = xs ≡ []
Fits ((class, count) ∷ items) xs = (later own : List ℕ) × ((xs ≡ later ++ own) × (FitsItem class count own × Fits items later))

-- some of the nearest symbols before a place fit a pattern
abbrev pub EndsIn : Pattern → List ℕ → Type 0
EndsIn pattern before = (own past : List ℕ) × ((before ≡ own ++ past) × Fits pattern own)

-- some of the first symbols after a place fit a pattern
abbrev pub BeginsWith : Pattern → List ℕ → Type 0
BeginsWith pattern after = (own rest : List ℕ) × ((after ≡ own ++ rest) × Fits pattern (reverse own))

-- the flags of a pattern after symbols, where it may begin as `begins` says
unfoldable pub flags : (List ℕ → Bool) → Pattern → List ℕ → List Bool
flags begins pattern [] = flow (begins []) pattern (no_flags pattern) 0
flags begins pattern (x ∷ xs) = flow (begins (x ∷ xs)) pattern (flags begins pattern xs) x

-- the flags of a left side, which may begin anywhere
abbrev pub left_flags : Pattern → List ℕ → List Bool
left_flags pattern xs = flags (λ past. true) pattern xs

abbrev pub is_nothing : List ℕ → Bool
is_nothing [] = true
is_nothing (x ∷ xs) = false

-- the flags of a right side, which begins at the place
abbrev pub right_flags : Pattern → List ℕ → List Bool
right_flags pattern xs = flags is_nothing pattern xs
