-- Ranges in order, and the value of the range that holds a code point.
use Rattle.std.proofs.Common.{◌≡◌, ℕ, ◌+◌, ◌-◌, ◌<◌, ◌≤◌, ◌⊎◌, true, false, cond, leb, List, [], ◌∷◌, length, map, get_or, drop, Any, ap, ◌∙◌, inl, inr, arith}
use Rattle.std.specs.Prelude.{Some, slice_get, find}
use Rattle.std.specs.Option.{option_map_or}
use Rattle.std.proofs.lemmas.Bool.{cases_lt, le-leb, and_from}
use Rattle.std.proofs.lemmas.List.{drop_more}
use Rattle.std.proofs.lemmas.Option.{slice_get-get_or, slice_get_within, get_or_from_slice_get}
use Rattle.seg_data.specs.Faults.{HasOverlap}
use Rattle.seg_data.specs.Table.{Table, holds, value_of, named_values}
use Rattle.seg_data.proofs.Anywhere.{any-head, any-tail, any-map, any-unmap, any-cases}

pub overlaps-at : (ranges : List (ℕ × ℕ × ℕ)) (k : ℕ) → 1 ≤ k → k < length ranges
    → (get_or ranges k (0, 0, 0)).0 ≤ (get_or ranges (k - 1) (0, 0, 0)).1 → HasOverlap ranges
overlaps-at ranges k one within low =
    let before : k - 1 < length ranges = omega arith in
    let same : k - 1 + 1 ≡ k = omega arith in
    (k - 1, get_or ranges (k - 1) (0, 0, 0), get_or ranges k (0, 0, 0), slice_get-get_or ranges (k - 1) (0, 0, 0) before, rw same (slice_get-get_or ranges k (0, 0, 0) within), low)

-- what the loop keeps: the ranges up to k are apart
abbrev pub AreApart : List (ℕ × ℕ × ℕ) → ℕ → Type 0
AreApart ranges k =
    (j : ℕ) (before after : ℕ × ℕ × ℕ) → j + 1 < k → slice_get ranges j ≡ Some before
    → slice_get ranges (j + 1) ≡ Some after → before.1 < after.0

apart-at : (ranges : List (ℕ × ℕ × ℕ)) (k j : ℕ) (before after : ℕ × ℕ × ℕ)
    → (get_or ranges (k - 1) (0, 0, 0)).1 < (get_or ranges k (0, 0, 0)).0 → k ≡ j + 1
    → slice_get ranges j ≡ Some before → slice_get ranges (j + 1) ≡ Some after → before.1 < after.0
apart-at ranges k j before after apart same here next =
    let back : k - 1 ≡ j = omega arith in
    let first : (get_or ranges (k - 1) (0, 0, 0)).1 ≡ before.1 = ap (λ i. (get_or ranges i (0, 0, 0)).1) back ∙ ap (λ (r : ℕ × ℕ × ℕ). r.1) (get_or_from_slice_get ranges j before (0, 0, 0) here) in
    let second : (get_or ranges k (0, 0, 0)).0 ≡ after.0 = ap (λ i. (get_or ranges i (0, 0, 0)).0) same ∙ ap (λ (r : ℕ × ℕ × ℕ). r.0) (get_or_from_slice_get ranges (j + 1) after (0, 0, 0) next) in
    omega arith

pub apart-more : (ranges : List (ℕ × ℕ × ℕ)) (k : ℕ) → AreApart ranges k
    → (get_or ranges (k - 1) (0, 0, 0)).1 < (get_or ranges k (0, 0, 0)).0 → AreApart ranges (k + 1)
apart-more ranges k kept apart j before after below here next =
    elim (cases_lt (j + 1) k) [
      | inl less ↦ kept j before after less here next
      | inr least ↦ apart-at ranges k j before after apart (omega arith) here next
    ]

pub no-overlap : (ranges : List (ℕ × ℕ × ℕ)) (k : ℕ) → AreApart ranges k → length ranges ≤ k → HasOverlap ranges → ⊥
no-overlap ranges k kept end (j, before, after, here, next, low) =
    let within = slice_get_within ranges (j + 1) after next in
    let apart = kept j before after (omega arith) here next in
    omega arith

pub found-at : (ranges : List (ℕ × ℕ × ℕ)) (i code_point : ℕ) → i < length ranges
    → (get_or ranges i (0, 0, 0)).0 ≤ code_point → code_point ≤ (get_or ranges i (0, 0, 0)).1
    → find (holds code_point) (drop i ranges) ≡ Some (get_or ranges i (0, 0, 0))
found-at ranges i code_point within low high =
    rw (drop_more ranges i (0, 0, 0) within)
    (ap (λ b. cond b (Some (get_or ranges i (0, 0, 0))) (find (holds code_point) (drop (i + 1) ranges)))
    (and_from (leb (get_or ranges i (0, 0, 0)).0 code_point) (leb code_point (get_or ranges i (0, 0, 0)).1) (le-leb _ _ low) (le-leb _ _ high)))

-- a table's value is its default, or that of one of its ranges
value-cases : (P : ℕ → Type 0) (code_point default : ℕ) (ranges : List (ℕ × ℕ × ℕ))
    → P (option_map_or (λ (range : ℕ × ℕ × ℕ). range.2) (find (holds code_point) ranges) default)
    → P default ⊎ Any (λ range. P range.2) ranges
value-cases P code_point default [] p = inl p
value-cases P code_point default (range ∷ ranges) p =
    elim (holds code_point range) as (λ b. P (option_map_or (λ (range : ℕ × ℕ × ℕ). range.2) (cond b (Some range) (find (holds code_point) ranges)) default) → P default ⊎ Any (λ range. P range.2) (range ∷ ranges)) [
      | true ↦ λ here. inr (any-head (λ range. P range.2) range ranges here)
      | false ↦ λ later. elim (value-cases P code_point default ranges later) [
        | inl d ↦ inl d
        | inr any ↦ inr (any-tail (λ range. P range.2) range ranges any)
      ]
    ] p

-- what a table names: its default, or the values of its ranges
pub named-cases : (P : ℕ → Type 0) (t : Table) → Any P (named_values t) → P t.default ⊎ Any (λ range. P range.2) t.ranges
named-cases P t any =
    elim (any-cases P t.default (map (λ (range : ℕ × ℕ × ℕ). range.2) t.ranges) any) [
      | inl p ↦ inl p
      | inr later ↦ inr (any-unmap (λ (range : ℕ × ℕ × ℕ). range.2) P t.ranges later)
    ]

pub named-from : (P : ℕ → Type 0) (t : Table) → P t.default ⊎ Any (λ range. P range.2) t.ranges → Any P (named_values t)
named-from P t (inl p) = any-head P t.default (map (λ (range : ℕ × ℕ × ℕ). range.2) t.ranges) p
named-from P t (inr any) =
    any-tail P t.default (map (λ (range : ℕ × ℕ × ℕ). range.2) t.ranges) (any-map (λ (range : ℕ × ℕ × ℕ). range.2) P t.ranges any)

-- each value of a code point is named
pub value-named : (P : ℕ → Type 0) (t : Table) (code_point : ℕ) → P (value_of t code_point) → Any P (named_values t)
unfolding value_of
value-named P t code_point p = named-from P t (value-cases P code_point t.default t.ranges p)
