-- Parts that pass computed tests make a machine without a fault.
use Rattle.std.proofs.Common.{◌≡◌, ◌≢◌, ℕ, zero, suc, ◌+◌, ◌<◌, ◌≤◌, Bool, true, ◌&&◌, ◌||◌, ◌==◌, nat_lt, List, [], ◌∷◌, length, get_or, sym, ap, ◌∙◌, arith, inl, inr, eqb-true}
use Rattle.std.proofs.lemmas.Bool.{and_parts, ltb-true}
use Rattle.std.proofs.lemmas.Option.{slice_get_within, get_or_from_slice_get}
use Rattle.seg_data.specs.declared.provider.DataError.{DataError}
use Rattle.seg_data.specs.declared.provider.DataError.TheVariants.{RangeOrder, RangePast10FFFF}
use Rattle.seg_data.specs.Faults.{HasRangeFault, HasOverlap}
use Rattle.icu_segmenter_uax29.proofs.Lists.{every, any-passes}
use Rattle.icu_segmenter_uax29.proofs.Tests.{either}

abbrev Range : Type 0
Range = ℕ × ℕ × ℕ

abbrev pub is_range : Range → Bool
is_range range = nat_lt range.0 (suc range.1) && nat_lt range.1 0x110000

abbrev begins_after : Range → List Range → Bool
begins_after range [] = true
begins_after range (next ∷ ranges) = nat_lt range.1 next.0

abbrev pub rises : List Range → Bool
rises [] = true
rises (range ∷ ranges) = begins_after range ranges && rises ranges

-- a transition of so many states, and a symbol of so many
abbrev pub is_next : ℕ → ℕ → Bool
is_next count next = next == 255 || nat_lt next count

abbrev pub is_symbol : ℕ → ℕ → Bool
is_symbol count symbol = nat_lt 0 symbol && nat_lt symbol count

-- ---- ranges

abbrev none : Range
none = (0, 0, 0)

rising : (ranges : List Range) (k : ℕ) → suc k < length ranges → rises ranges ≡ true → (get_or ranges k none).1 < (get_or ranges (suc k) none).0
rising [] k below is = absurd (omega arith)
rising (one ∷ []) k below is = absurd (omega arith)
rising (one ∷ (two ∷ ranges)) zero below is = ltb-true _ _ (and_parts (nat_lt one.1 two.0) (rises (two ∷ ranges)) is).0
rising (one ∷ (two ∷ ranges)) (suc k) below is = rising (two ∷ ranges) k (omega arith) (and_parts (nat_lt one.1 two.0) (rises (two ∷ ranges)) is).1

no-overlap : (ranges : List Range) → rises ranges ≡ true → HasOverlap ranges → ⊥
no-overlap ranges is (k, before, after, at_before, at_after, reaches) =
    let next : k + 1 ≡ suc k = omega arith in
    let within = slice_get_within ranges (k + 1) after at_after in
    let rise = rising ranges k (omega arith) is in
    let one : (get_or ranges k none).1 ≡ before.1 = ap (λ (range : Range). range.1) (get_or_from_slice_get ranges k before none at_before) in
    let two : (get_or ranges (suc k) none).0 ≡ after.0 = ap (λ n. (get_or ranges n none).0) (sym next) ∙ ap (λ (range : Range). range.0) (get_or_from_slice_get ranges (k + 1) after none at_after) in
    omega arith

pub no-range-fault : (ranges : List Range) → every is_range ranges ≡ true → rises ranges ≡ true → (fault : DataError) → HasRangeFault ranges fault → ⊥
no-range-fault ranges are rise RangeOrder (inl any) =
    let (range, is, turned) = any-passes is_range ranges are any in
    let low = ltb-true _ _ (and_parts (nat_lt range.0 (suc range.1)) (nat_lt range.1 0x110000) is).0 in omega arith
no-range-fault ranges are rise RangeOrder (inr overlap) = no-overlap ranges rise overlap
no-range-fault ranges are rise RangePast10FFFF any =
    let (range, is, past) = any-passes is_range ranges are any in
    let high = ltb-true _ _ (and_parts (nat_lt range.0 (suc range.1)) (nat_lt range.1 0x110000) is).1 in omega arith
no-range-fault ranges are rise _ h = h

-- ---- the machine

pub next-state : (count next : ℕ) → is_next count next ≡ true → next ≢ 255 → count ≤ next → ⊥
next-state count next is other past = elim (either (next == 255) (nat_lt next count) is) [
  | inl same ↦ other (eqb-true next 255 same)
  | inr below ↦ let low = ltb-true next count below in omega arith
]
