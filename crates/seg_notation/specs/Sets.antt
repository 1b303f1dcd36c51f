-- Sets of code points by the places where they change, from the lowest on; before the first nothing is in them.
use Rattle.std.specs.Prelude.{◌≡◌, ℕ, Bool, true, false, not, ◌&&◌, ◌||◌, nat_le, List, [], ◌∷◌}
use Rattle.seg_notation.specs.declared.merge.Join.{Join}
use Rattle.seg_notation.specs.declared.merge.Join.TheVariants.{Either, Both, First}

abbrev pub turned : Bool → Bool → Bool
turned true b = not b
turned false b = b

-- whether a code point is in, where what lies before some changes is or isn't
unfoldable pub inside : Bool → List ℕ → ℕ → Bool
inside b [] c = b
inside b (p ∷ ps) c = inside (turned (nat_le p c) b) ps c

-- whether a code point is in the set of some changes
abbrev pub has : List ℕ → ℕ → Bool
has changes c = inside false changes c

-- changes from a code point on, in order
unfoldable pub rises : ℕ → List ℕ → Bool
rises n [] = true
rises n (p ∷ ps) = nat_le n p && rises p ps

-- what two sets make
abbrev pub join_of : Join → Bool → Bool → Bool
join_of Either a b = a || b
join_of Both a b = a && b
join_of First a b = a && not b

-- whether the first of some changes comes no later than the first of others
abbrev pub one_leads : List ℕ → List ℕ → Bool
one_leads [] [] = true
one_leads [] (y ∷ ys) = false
one_leads (x ∷ xs) [] = true
one_leads (x ∷ xs) (y ∷ ys) = nat_le x y

abbrev pub leads : ℕ → List ℕ → Bool
leads p [] = true
leads p (y ∷ ys) = nat_le p y

-- of two sets the first changes, no later than the second
pub record Takes (p : ℕ) (xs ys xs' ys' : List ℕ) (a b a' b' : Bool) : Type 0 where
  pub from : xs ≡ p ∷ xs'
  pub others : ys' ≡ ys
  pub turns : a' ≡ not a
  pub stays : b' ≡ b
  pub first : leads p ys ≡ true
