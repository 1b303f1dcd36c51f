-- Rows of rules as the standard writes them: of classes of symbols, by the properties that the symbols mean.
use Rattle.std.specs.Prelude.{ℕ, suc, ◌+◌, ◌^◌, Bool, true, false, not, ◌&&◌, ◌||◌, if◌then◌else◌, Option, Some, None, List, [], ◌∷◌}
use Rattle.seg_rules.specs.declared.rules.Count.{Count}
use Rattle.seg_rules.specs.declared.rules.Count.TheVariants.{One, Optional, Star, Pairs}
use Rattle.seg_rules.specs.RowRules.{Pattern, Row}

-- a class is of the symbols whose properties pass a test; the edge of a text, symbol 0, has none
abbrev pub Class : Type 0 → Type 0
Class P = Option P → Bool

abbrev pub those : {P : Type 0} → (P → Bool) → Class P
those test None = false
those test (Some p) = test p

-- the start of a text on the left, and its end on the right
abbrev pub sot : {P : Type 0} → Class P
sot None = true
sot (Some p) = false

abbrev pub eot : {P : Type 0} → Class P
eot = sot

-- the symbols of a text that aren't in a class
abbrev pub no : {P : Type 0} → Class P → Class P
no a None = false
no a (Some p) = not (a (Some p))

infixl 20 ◌or◌
abbrev pub ◌or◌ : {P : Type 0} → Class P → Class P → Class P
(a or b) p = a p || b p

-- the members of the first class that are in the second too, or that aren't
infixl 30 ◌also◌
abbrev pub ◌also◌ : {P : Type 0} → Class P → Class P → Class P
(a also b) p = a p && b p

infixl 30 ◌but◌
abbrev pub ◌but◌ : {P : Type 0} → Class P → Class P → Class P
(a but b) p = a p && not (b p)

-- one symbol of a class; at most one; any number of them; an even number of them
abbrev pub Item : Type 0 → Type 0
Item P = Class P × Count

abbrev pub one : {P : Type 0} → Class P → Item P
one is = (is, One)

abbrev pub maybe : {P : Type 0} → Class P → Item P
maybe is = (is, Optional)

abbrev pub many : {P : Type 0} → Class P → Item P
many is = (is, Star)

abbrev pub pairs : {P : Type 0} → Class P → Item P
pairs is = (is, Pairs)

-- what a row says of a place: no boundary, one, or one of status 1, as where lines must break
abbrev pub joins : ℕ
joins = 0

abbrev pub breaks : ℕ
breaks = 1

abbrev pub must_break : ℕ
must_break = 2

-- a row: what stands before a place, the verdict, and what comes after it
pub record ClassRow (P : Type 0) : Type 0 where
  pub left : List (Item P)
  pub verdict : ℕ
  pub right : List (Item P)

abbrev pub row : {P : Type 0} → List (Item P) → ℕ → List (Item P) → ClassRow P
row left verdict right = record { left = left; verdict = verdict; right = right }

-- Rows of numbers, of the properties that each symbol means, from symbol 1 on.

-- the number whose bits are the symbols of a class, from a symbol on
unfoldable pub bits_from : {P : Type 0} → ℕ → List P → Class P → ℕ
bits_from symbol [] is = 0
bits_from symbol (p ∷ ps) is = (if is (Some p) then 2 ^ symbol else 0) + bits_from (suc symbol) ps is

abbrev pub bits : {P : Type 0} → List P → Class P → ℕ
bits properties is = (if is None then 1 else 0) + bits_from 1 properties is

unfoldable pub pattern_of : {P : Type 0} → List P → List (Item P) → Pattern
pattern_of properties [] = []
pattern_of properties ((is, count) ∷ items) = (bits properties is, count) ∷ pattern_of properties items

unfoldable pub rows_of : {P : Type 0} → List P → List (ClassRow P) → List Row
rows_of properties [] = []
rows_of properties (row ∷ rows) =
    record { left = pattern_of properties row.left; right = pattern_of properties row.right; verdict = row.verdict }
    ∷ rows_of properties rows

-- all but the first
abbrev pub tail : {X : Type 0} → List X → List X
tail [] = []
tail (x ∷ xs) = xs
