-- Ranges that a test finds in order have no fault.
use Rattle.std.proofs.Common.{◌≡◌, ℕ, zero, suc, ◌+◌, ◌<◌, ◌≤◌, Bool, true, nat_le, List, [], ◌∷◌, slice_get, ap, arith, inl, inr}
use Rattle.std.specs.Prelude.{◌&&◌, Some, Any}
use Rattle.std.proofs.lemmas.Bool.{leb-true, and_parts}
use Rattle.std.proofs.lemmas.Option.{same_Some, none-some}
use Rattle.seg_data.specs.declared.provider.DataError.TheVariants.{RangeOrder, RangePast10FFFF}
use Rattle.seg_data.specs.Faults.{HasOverlap, HasRangeFault, IsFaultless}
use Rattle.seg_data.proofs.Anywhere.{any-cases, any-none}

-- whether the ranges are in order from a code point on, and end by U+10FFFF
abbrev pub are_ordered_from : ℕ → List (ℕ × ℕ × ℕ) → Bool
are_ordered_from low [] = true
are_ordered_from low (range ∷ ranges) =
    (nat_le low range.0 && nat_le range.0 range.1) && (nat_le range.1 0x10FFFF && are_ordered_from (range.1 + 1) ranges)

record AreOrdered (low : ℕ) (range : ℕ × ℕ × ℕ) (ranges : List (ℕ × ℕ × ℕ)) : Type 0 where
  above : low ≤ range.0
  forward : range.0 ≤ range.1
  within : range.1 ≤ 0x10FFFF
  rest : are_ordered_from (range.1 + 1) ranges ≡ true

split : (low : ℕ) (range : ℕ × ℕ × ℕ) (ranges : List (ℕ × ℕ × ℕ)) → are_ordered_from low (range ∷ ranges) ≡ true → AreOrdered low range ranges
split low range ranges ordered =
    let halves = and_parts (nat_le low range.0 && nat_le range.0 range.1) (nat_le range.1 0x10FFFF && are_ordered_from (range.1 + 1) ranges) ordered in
    let start = and_parts (nat_le low range.0) (nat_le range.0 range.1) halves.0 in
    let end = and_parts (nat_le range.1 0x10FFFF) (are_ordered_from (range.1 + 1) ranges) halves.1 in
    record { above = leb-true _ _ start.0; forward = leb-true _ _ start.1; within = leb-true _ _ end.0; rest = end.1 }

not-backward : (low : ℕ) (ranges : List (ℕ × ℕ × ℕ)) → are_ordered_from low ranges ≡ true → Any (λ range. range.1 < range.0) ranges → ⊥
not-backward low [] ordered any = any-none (λ range. range.1 < range.0) any
not-backward low (range ∷ ranges) ordered any =
    let parts = split low range ranges ordered in
    elim (any-cases (λ range. range.1 < range.0) range ranges any) [
      | inl here ↦ absurd (omega (arith, parts.forward))
      | inr later ↦ not-backward (range.1 + 1) ranges parts.rest later
    ]

not-past : (low : ℕ) (ranges : List (ℕ × ℕ × ℕ)) → are_ordered_from low ranges ≡ true → Any (λ range. 0x10FFFF < range.1) ranges → ⊥
not-past low [] ordered any = any-none (λ range. 0x10FFFF < range.1) any
not-past low (range ∷ ranges) ordered any =
    let parts = split low range ranges ordered in
    elim (any-cases (λ range. 0x10FFFF < range.1) range ranges any) [
      | inl here ↦ absurd (omega (arith, parts.within))
      | inr later ↦ not-past (range.1 + 1) ranges parts.rest later
    ]

first-above : (low : ℕ) (ranges : List (ℕ × ℕ × ℕ)) (range : ℕ × ℕ × ℕ) → are_ordered_from low ranges ≡ true → slice_get ranges 0 ≡ Some range → low ≤ range.0
first-above low [] range ordered is = absurd (none-some _ is)
first-above low (first ∷ ranges) range ordered is =
    omega (arith, (split low first ranges ordered).above, ap (λ (r : ℕ × ℕ × ℕ). r.0) (same_Some _ _ is))

apart : (low : ℕ) (ranges : List (ℕ × ℕ × ℕ)) (k : ℕ) (before after : ℕ × ℕ × ℕ) → are_ordered_from low ranges ≡ true
    → slice_get ranges k ≡ Some before → slice_get ranges (suc k) ≡ Some after → before.1 < after.0
apart low [] k before after ordered here next = absurd (none-some _ here)
apart low (range ∷ ranges) zero before after ordered here next =
    omega (arith, first-above (range.1 + 1) ranges after (split low range ranges ordered).rest next, ap (λ (r : ℕ × ℕ × ℕ). r.1) (same_Some _ _ here))
apart low (range ∷ ranges) (suc k) before after ordered here next = apart (range.1 + 1) ranges k before after (split low range ranges ordered).rest here next

not-overlap : (low : ℕ) (ranges : List (ℕ × ℕ × ℕ)) → are_ordered_from low ranges ≡ true → HasOverlap ranges → ⊥
not-overlap low ranges ordered (k, before, after, here, next, meets) =
    let one : k + 1 ≡ suc k = omega arith in
    omega (arith, apart low ranges k before after ordered here (rw one at next))

pub ordered-faultless : (ranges : List (ℕ × ℕ × ℕ)) → are_ordered_from 0 ranges ≡ true → IsFaultless (HasRangeFault ranges)
ordered-faultless ranges ordered RangeOrder (inl backward) = not-backward 0 ranges ordered backward
ordered-faultless ranges ordered RangeOrder (inr overlap) = not-overlap 0 ranges ordered overlap
ordered-faultless ranges ordered RangePast10FFFF past = not-past 0 ranges ordered past
ordered-faultless ranges ordered _ none = absurd none
