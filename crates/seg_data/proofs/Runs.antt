-- The first range that reaches a code point, and the value of a code point by it.
use Rattle.std.proofs.Common.{◌≡◌, ℕ, zero, suc, ◌+◌, ◌-◌, ◌<◌, ◌≤◌, cond, leb, List, length, get_or, drop, refl, ap, ◌∙◌, inl, inr, arith}
use Rattle.std.specs.Prelude.{None, Some, find}
use Rattle.std.proofs.lemmas.Bool.{cases_lt, lt-leb, and_left, and_right}
use Rattle.std.proofs.lemmas.List.{drop_more, drop_all}
use Rattle.seg_data.specs.declared.provider.DataError.TheVariants.{RangeOrder}
use Rattle.seg_data.specs.Faults.{HasRangeFault, IsFaultless}
use Rattle.seg_data.specs.Table.{IsFirstReaching, IsRun, table, holds, value_of}
use Rattle.seg_data.proofs.Anywhere.{any-at}
use Rattle.seg_data.proofs.Ranges.{found-at, overlaps-at}

-- a range begins by its end
forward : (ranges : List (ℕ × ℕ × ℕ)) (k : ℕ) → IsFaultless (HasRangeFault ranges) → k < length ranges
    → (get_or ranges k (0, 0, 0)).0 ≤ (get_or ranges k (0, 0, 0)).1
forward ranges k sound within =
    elim (cases_lt (get_or ranges k (0, 0, 0)).1 (get_or ranges k (0, 0, 0)).0) [
      | inl back ↦ absurd (sound RangeOrder (inl (any-at (λ range. range.1 < range.0) ranges k (0, 0, 0) within back)))
      | inr right ↦ right
    ]

-- the next range begins above it
next-above : (ranges : List (ℕ × ℕ × ℕ)) (k : ℕ) → IsFaultless (HasRangeFault ranges) → k + 1 < length ranges
    → (get_or ranges k (0, 0, 0)).1 < (get_or ranges (k + 1) (0, 0, 0)).0
next-above ranges k sound within =
    elim (cases_lt (get_or ranges k (0, 0, 0)).1 (get_or ranges (k + 1) (0, 0, 0)).0) [
      | inl above ↦ above
      | inr low ↦
          let back : k + 1 - 1 ≡ k = omega arith in
          absurd (sound RangeOrder (inr (overlaps-at ranges (k + 1) (omega arith) within (rw back low))))
    ]

later-above-by : (ranges : List (ℕ × ℕ × ℕ)) (steps i j : ℕ) → IsFaultless (HasRangeFault ranges) → j ≡ i + 1 + steps → j < length ranges
    → (get_or ranges i (0, 0, 0)).1 < (get_or ranges j (0, 0, 0)).0
later-above-by ranges zero i j sound apart within =
    let e : j ≡ i + 1 = omega arith in
    rw e (next-above ranges i sound (omega arith))
later-above-by ranges (suc steps) i j sound apart within =
    let e : j ≡ i + 1 + steps + 1 = omega arith in
    let before = later-above-by ranges steps i (i + 1 + steps) sound refl (omega arith) in
    let whole = forward ranges (i + 1 + steps) sound (omega arith) in
    let next = next-above ranges (i + 1 + steps) sound (omega arith) in
    rw e (omega arith)

-- each later range begins above it
later-above : (ranges : List (ℕ × ℕ × ℕ)) (i j : ℕ) → IsFaultless (HasRangeFault ranges) → i < j → j < length ranges
    → (get_or ranges i (0, 0, 0)).1 < (get_or ranges j (0, 0, 0)).0
later-above ranges i j sound less within = later-above-by ranges (j - i - 1) i j sound (omega arith) within

-- the ends are in order too
pub ends-rise : (ranges : List (ℕ × ℕ × ℕ)) (i j : ℕ) → IsFaultless (HasRangeFault ranges) → i ≤ j → j < length ranges
    → (get_or ranges i (0, 0, 0)).1 ≤ (get_or ranges j (0, 0, 0)).1
ends-rise ranges i j sound order within =
    elim (cases_lt i j) [
      | inl less ↦
          let above = later-above ranges i j sound less within in
          let whole = forward ranges j sound within in
          omega arith
      | inr least ↦
          let e : i ≡ j = omega arith in
          rw e (omega arith)
    ]

pub all-before : (ranges : List (ℕ × ℕ × ℕ)) (code_point middle : ℕ) → IsFaultless (HasRangeFault ranges) → middle < length ranges
    → (get_or ranges middle (0, 0, 0)).1 < code_point → (k : ℕ) → k < middle + 1 → (get_or ranges k (0, 0, 0)).1 < code_point
all-before ranges code_point middle sound within past k below =
    let rise = ends-rise ranges k middle sound (omega arith) within in
    omega arith

-- the ranges that end before the code point don't hold it
find-past : (ranges : List (ℕ × ℕ × ℕ)) (code_point n : ℕ) → n ≤ length ranges
    → ((k : ℕ) → k < n → (get_or ranges k (0, 0, 0)).1 < code_point)
    → find (holds code_point) ranges ≡ find (holds code_point) (drop n ranges)
find-past ranges code_point zero within before = refl
find-past ranges code_point (suc n) within before =
    let e : suc n ≡ n + 1 = omega arith in
    let here = before n (omega arith) in
    find-past ranges code_point n (omega arith) (λ k below. before k (omega arith))
    ∙ rw e (rw (drop_more ranges n (0, 0, 0) (omega arith))
    (ap (λ b. cond b (Some (get_or ranges n (0, 0, 0))) (find (holds code_point) (drop (n + 1) ranges)))
    (and_right (leb (get_or ranges n (0, 0, 0)).0 code_point) (leb code_point (get_or ranges n (0, 0, 0)).1) (lt-leb _ _ here))))

-- nor do those that begin after it
find-none : (ranges : List (ℕ × ℕ × ℕ)) (code_point steps n : ℕ) → length ranges ≤ n + steps
    → ((k : ℕ) → n ≤ k → k < length ranges → code_point < (get_or ranges k (0, 0, 0)).0)
    → find (holds code_point) (drop n ranges) ≡ None
find-none ranges code_point zero n past after = ap (find (holds code_point)) (drop_all n ranges (omega arith))
find-none ranges code_point (suc steps) n past after =
    elim (cases_lt n (length ranges)) [
      | inl within ↦
          let here = after n (omega arith) within in
          rw (drop_more ranges n (0, 0, 0) within)
          (ap (λ b. cond b (Some (get_or ranges n (0, 0, 0))) (find (holds code_point) (drop (n + 1) ranges)))
          (and_left (leb (get_or ranges n (0, 0, 0)).0 code_point) (leb code_point (get_or ranges n (0, 0, 0)).1) (lt-leb _ _ here))
          ∙ find-none ranges code_point steps (n + 1) (omega arith) (λ k low below. after k (omega arith) below))
      | inr end ↦ ap (find (holds code_point)) (drop_all n ranges end)
    ]

-- the range that is reached first holds the code points from there to its end
pub run-in : (ranges : List (ℕ × ℕ × ℕ)) (default code_point place : ℕ) → IsFirstReaching ranges code_point place
    → place < length ranges → (get_or ranges place (0, 0, 0)).0 ≤ code_point
    → IsRun (table ranges default) code_point (get_or ranges place (0, 0, 0)).2 (get_or ranges place (0, 0, 0)).1
unfolding value_of
run-in ranges default code_point place first within low other from to =
    rw (find-past ranges other place first.within (λ k below. let past = first.before k below in omega arith)
    ∙ found-at ranges place other within (omega arith) to) refl

-- no range holds those before it
pub run-before : (ranges : List (ℕ × ℕ × ℕ)) (default code_point place last : ℕ) → IsFaultless (HasRangeFault ranges)
    → IsFirstReaching ranges code_point place
    → (place < length ranges → last < (get_or ranges place (0, 0, 0)).0)
    → IsRun (table ranges default) code_point default last
unfolding value_of
run-before ranges default code_point place last sound first high other from to =
    rw (find-past ranges other place first.within (λ k below. let past = first.before k below in omega arith)
    ∙ find-none ranges other (length ranges) place (omega arith) above) refl
  where
    above : (k : ℕ) → place ≤ k → k < length ranges → other < (get_or ranges k (0, 0, 0)).0
    above k order within = elim (cases_lt place k) [
      | inl less ↦
          let here = high (omega arith) in
          let whole = forward ranges place sound (omega arith) in
          let later = later-above ranges place k sound less within in
          omega arith
      | inr least ↦
          let e : k ≡ place = omega arith in
          let here = high (omega arith) in
          rw e (omega arith)
    ]
