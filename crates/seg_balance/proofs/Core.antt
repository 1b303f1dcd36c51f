-- Optimal substructure: a first line of the least cost together with the balanced lines of the rest are the balanced lines; and how such a line is chosen.
use Rattle.std.proofs.Common.{◌≡◌, ℕ, ◌<◌, ◌≤◌, ◌+◌, ◌-◌, Bool, true, false, nat_lt, List, [], ◌∷◌, ◌++◌, length, drop, take, get_or, zero, suc, take-suc, refl, sym, ap, ◌∙◌, arith, ◌≢◌, ◌⊎◌, inl, inr}
use Rattle.std.specs.List.{list_all}
use Rattle.std.specs.Prelude.{nat_le, not, if◌then◌else◌, ◌&&◌}
use Rattle.std.proofs.Math.Numerals.{lt_of_le_of_ne}
use Rattle.std.proofs.lemmas.Bool.{and_cases, and_parts, cases_lt, leb-false, lt-ltb, le-leb, le-ltb, ltb-false, ltb-true, not-false, not-true, true≢false}
use Rattle.std.proofs.lemmas.List.{length-take-le, take_all}
use Rattle.std.proofs.lemmas.List.Folds.{list_all-append}
use Rattle.seg_balance.specs.declared.balance.Limits.{Limits}
use Rattle.seg_balance.specs.declared.balance.MeasuredSegment.{MeasuredSegment}
use Rattle.seg_balance.specs.Balanced.{AreLines, IsFilledFirst, IsFirstLine, IsFullLine, cost, ends, ends_hyphenated, ends_mandatory, inner_columns, limit_of, line_columns, line_cost, shown_columns, square_free, total_columns, with_hyphen}
use Rattle.seg_balance.specs.Choice.{HasBest, IsLeast, goes_on, total_with}

pub best-nothing : (limits : Limits) (is_first : Bool) (first : ℕ) → HasBest limits is_first [] 0 first
unfolding AreLines cost IsFilledFirst
best-nothing limits is_first first = record {
  counts = [];
  is = record { are = refl; least = λ others are. omega (arith); filled = λ others are same. tt };
  costs = refl;
  begins = λ count later same. absurd (omega (arith, ap length same));
}

pub best-step : (limits : Limits) (is_first : Bool) (segment : MeasuredSegment) (segments : List MeasuredSegment) (bests firsts : List ℕ) (least first : ℕ)
    → IsLeast (limit_of limits is_first) (segment ∷ segments) bests least first
    → ((count : ℕ) → IsFirstLine (limit_of limits is_first) (segment ∷ segments) count
    → HasBest limits (ends_mandatory (take count (segment ∷ segments))) (drop count (segment ∷ segments)) (get_or bests count 0) (get_or firsts count 0))
    → HasBest limits is_first (segment ∷ segments) least first
unfolding AreLines cost IsFilledFirst
best-step limits is_first segment segments bests firsts least first chosen rests = record {
  counts = first ∷ rest.counts;
  is = record { are = (chosen.is, rest.is.are); least = is-least; filled = is-filled };
  costs = costs;
  begins = λ count later same. sym (head same);
}
  where
    columns : ℕ
    columns = limit_of limits is_first

    after : ℕ → Bool
    after count = ends_mandatory (take count (segment ∷ segments))

    rest : HasBest limits (after first) (drop first (segment ∷ segments)) (get_or bests first 0) (get_or firsts first 0)
    rest = rests first chosen.is

    costs : cost limits is_first (segment ∷ segments) (first ∷ rest.counts) ≡ least
    costs = ap (λ n. line_cost columns (segment ∷ segments) first + n) rest.costs ∙ chosen.sum

    head_or : ℕ → List ℕ → ℕ
    head_or default [] = default
    head_or default (one ∷ others) = one

    head : {a b : ℕ} {xs ys : List ℕ} → a ∷ xs ≡ b ∷ ys → a ≡ b
    head {a} same = ap (head_or a) same

    over : (other : ℕ) (others : List ℕ) → (is : IsFirstLine columns (segment ∷ segments) other) → AreLines limits (after other) (drop other (segment ∷ segments)) others
        → get_or bests other 0 ≤ cost limits (after other) (drop other (segment ∷ segments)) others
    over other others is are = omega (arith, (rests other is).costs, (rests other is).is.least others are)

    is-least : (others : List ℕ) → AreLines limits is_first (segment ∷ segments) others
        → cost limits is_first (segment ∷ segments) (first ∷ rest.counts) ≤ cost limits is_first (segment ∷ segments) others
    is-least [] are = absurd (omega (arith, ap length are))
    is-least (other ∷ others) (is, are) = omega (arith, costs, chosen.below other is, over other others is are)

    is-filled : (others : List ℕ) → AreLines limits is_first (segment ∷ segments) others
        → cost limits is_first (segment ∷ segments) others ≡ cost limits is_first (segment ∷ segments) (first ∷ rest.counts)
        → IsFilledFirst (first ∷ rest.counts) others
    is-filled [] are same = tt
    is-filled (other ∷ others) (is, are) same = (
      chosen.longest other is (omega (arith, same, costs, chosen.below other is, over other others is are)),
      λ equal. rest.is.filled others (rw equal are)
          (omega (
            arith,
            same,
            ap (λ n. line_cost columns (segment ∷ segments) n) equal,
            ap (λ n. cost limits (after n) (drop n (segment ∷ segments)) others) equal,
          )),
    )

-- ---- columns

abbrev are_blank : List MeasuredSegment → Bool
are_blank segments = list_all (λ (later : MeasuredSegment). later.is_blank) segments

line-append : (segments : List MeasuredSegment) (segment : MeasuredSegment) → 0 < length segments
    → line_columns (segments ++ segment ∷ []) ≡ (if segment.is_blank then line_columns segments else total_columns segments + segment.columns)
unfolding line_columns total_columns
line-append [] segment some = absurd (omega (arith, some))
line-append (first ∷ []) segment some = by segment.is_blank
  where
    by : (b : Bool) → (if b && true then first.columns else inner_columns first + segment.columns) ≡ (if b then first.columns else inner_columns first + 0 + segment.columns)
    by true = refl
    by false = omega (arith)
line-append (first ∷ next ∷ segments) segment some =
    rw (line-append (next ∷ segments) segment (omega (arith)), list_all-append (λ (later : MeasuredSegment). later.is_blank) (next ∷ segments) (segment ∷ []))
    (by (are_blank (next ∷ segments)) segment.is_blank (line_columns (next ∷ segments)) (total_columns (next ∷ segments)))
  where
    by : (b c : Bool) (line total : ℕ)
        → (if b && (c && true) then first.columns else inner_columns first + (if c then line else total + segment.columns))
        ≡ (if c then (if b then first.columns else inner_columns first + line) else inner_columns first + total + segment.columns)
    by true true line total = refl
    by true false line total = omega (arith)
    by false true line total = refl
    by false false line total = omega (arith)

total-append : (segments : List MeasuredSegment) (segment : MeasuredSegment) → total_columns (segments ++ segment ∷ []) ≡ total_columns segments + inner_columns segment
unfolding total_columns
total-append [] segment = omega (arith)
total-append (first ∷ segments) segment = rw (total-append segments segment) (omega (arith))

ends-append : (is : MeasuredSegment → Bool) (segments : List MeasuredSegment) (segment : MeasuredSegment) → ends is (segments ++ segment ∷ []) ≡ is segment
unfolding ends
ends-append is [] segment = refl
ends-append is (first ∷ []) segment = refl
ends-append is (first ∷ next ∷ segments) segment = ends-append is (next ∷ segments) segment

line-next : (segments : List MeasuredSegment) (count : ℕ) (default : MeasuredSegment) → 0 < count → count < length segments
    → line_columns (take (suc count) segments)
    ≡ (if (get_or segments count default).is_blank then line_columns (take count segments) else total_columns (take count segments) + (get_or segments count default).columns)
line-next segments count default some under =
    ap line_columns (take-suc segments count default under)
    ∙ line-append (take count segments) (get_or segments count default) (omega (arith, some, under, length-take-le count segments (omega (arith, under))))

total-next : (segments : List MeasuredSegment) (count : ℕ) (default : MeasuredSegment) → count < length segments
    → total_columns (take (suc count) segments) ≡ total_columns (take count segments) + inner_columns (get_or segments count default)
total-next segments count default under = ap total_columns (take-suc segments count default under) ∙ total-append (take count segments) (get_or segments count default)

ends-next : (is : MeasuredSegment → Bool) (segments : List MeasuredSegment) (count : ℕ) (default : MeasuredSegment) → count < length segments
    → ends is (take (suc count) segments) ≡ is (get_or segments count default)
ends-next is segments count default under =
    ap (λ (taken : List MeasuredSegment). ends is taken) (take-suc segments count default under) ∙ ends-append is (take count segments) (get_or segments count default)

line-most : (segments : List MeasuredSegment) → line_columns segments ≤ total_columns segments
unfolding line_columns total_columns
line-most [] = omega (arith)
line-most (segment ∷ segments) = by (are_blank segments) (line-most segments)
  where
    by : (b : Bool) → line_columns segments ≤ total_columns segments
        → (if b then segment.columns else inner_columns segment + line_columns segments) ≤ inner_columns segment + total_columns segments
    by true most = omega (arith)
    by false most = omega (arith, most)

pub total-take : (count : ℕ) (segments : List MeasuredSegment) → total_columns (take count segments) ≤ total_columns segments
unfolding total_columns
total-take zero segments = omega (arith)
total-take (suc count) [] = omega (arith)
total-take (suc count) (segment ∷ segments) = omega (arith, total-take count segments)

pub total-drop : (count : ℕ) (segments : List MeasuredSegment) → total_columns (drop count segments) ≤ total_columns segments
unfolding total_columns
total-drop zero segments = omega (arith)
total-drop (suc count) [] = omega (arith)
total-drop (suc count) (segment ∷ segments) = omega (arith, total-drop count segments)

-- with one segment more there are no fewer columns
line-grows : (segments : List MeasuredSegment) (count : ℕ) (default : MeasuredSegment) → 0 < count → count < length segments
    → line_columns (take count segments) ≤ line_columns (take (suc count) segments)
line-grows segments count default some under = rw (line-next segments count default some under) (by (get_or segments count default).is_blank)
  where
    by : (b : Bool) → line_columns (take count segments)
        ≤ (if b then line_columns (take count segments) else total_columns (take count segments) + (get_or segments count default).columns)
    by true = omega (arith)
    by false = omega (arith, line-most (take count segments))

line-grow : (segments : List MeasuredSegment) (count more : ℕ) (default : MeasuredSegment) → 0 < count → count ≤ more → more ≤ length segments
    → line_columns (take count segments) ≤ line_columns (take more segments)
line-grow segments count zero default some under within = absurd (omega (arith, some, under))
line-grow segments count (suc more) default some under within =
    on (cases_lt more count) (λ after. line-grow segments count more default some after (omega (arith, within)))
  where
    same : more < count → count ≡ suc more
    same before = omega (arith, before, under)

    on : (more < count) ⊎ (count ≤ more) → (count ≤ more → line_columns (take count segments) ≤ line_columns (take more segments))
        → line_columns (take count segments) ≤ line_columns (take (suc more) segments)
    on (inl before) fewer = omega (arith, ap (λ (n : ℕ). line_columns (take n segments)) (same before))
    on (inr after) fewer = omega (arith, fewer after, line-grows segments more default (omega (arith, some, after)) (omega (arith, within)))

-- ---- what a line costs

pub cost-at-end : (columns : ℕ) (segments : List MeasuredSegment) (count : ℕ) → length segments ≤ count → line_cost columns segments count ≡ 0
cost-at-end columns segments count past = rw (le-ltb count (length segments) past) refl

pub mandatory-last : (segments : List MeasuredSegment) (count : ℕ) (default : MeasuredSegment) → 0 < count → count ≤ length segments
    → ends_mandatory (take count segments) ≡ (get_or segments (count - 1) default).is_mandatory
mandatory-last segments zero default some within = absurd (omega (arith, some))
mandatory-last segments (suc count) default some within =
    rw minus (ends-next (λ (segment : MeasuredSegment). segment.is_mandatory) segments count default (omega (arith, within)))
  where
    minus : suc count - 1 ≡ count
    minus = omega (arith)

pub cost-mandatory : (columns : ℕ) (segments : List MeasuredSegment) (count : ℕ) → ends_mandatory (take count segments) ≡ true → line_cost columns segments count ≡ 0
cost-mandatory columns segments count must =
    rw must (by (nat_lt count (length segments)) (square_free columns (shown_columns (take count segments))))
  where
    by : (b : Bool) (free : ℕ) → (if b then (if true then 0 else free) else 0) ≡ 0
    by true free = refl
    by false free = refl

pub cost-free : (columns : ℕ) (segments : List MeasuredSegment) (count : ℕ) → count < length segments → ends_mandatory (take count segments) ≡ false
    → line_cost columns segments count ≡ square_free columns (shown_columns (take count segments))
cost-free columns segments count under may = rw (lt-ltb count (length segments) under, may) refl

pub cost-must : (columns : ℕ) (segments : List MeasuredSegment) (count : ℕ) (default : MeasuredSegment) → 0 < count → count ≤ length segments
    → (get_or segments (count - 1) default).is_mandatory ≡ true → line_cost columns segments count ≡ 0
cost-must columns segments count default some within must = cost-mandatory columns segments count (mandatory-last segments count default some within ∙ must)

pub cost-by : (columns : ℕ) (segments : List MeasuredSegment) (count width result : ℕ) (default : MeasuredSegment) → 0 < count → count ≤ length segments
    → width ≡ shown_columns (take count segments) → result ≡ square_free columns width → count ≢ length segments
    → (get_or segments (count - 1) default).is_mandatory ≡ false → result ≡ line_cost columns segments count
cost-by columns segments count width result default some within width-is is differ may =
    is ∙ ap (λ (n : ℕ). square_free columns n) width-is
    ∙ sym (cost-free columns segments count (lt_of_le_of_ne within differ) (mandatory-last segments count default some within ∙ may))

-- ---- a line is gathered

first-line : (segments : List MeasuredSegment) (default : MeasuredSegment) → 0 < length segments → (get_or segments 0 default).columns ≡ line_columns (take 1 segments)
unfolding line_columns
first-line [] default some = absurd (omega (arith, some))
first-line (segment ∷ segments) default some = refl

first-total : (segments : List MeasuredSegment) (default : MeasuredSegment) → 0 < length segments → inner_columns (get_or segments 0 default) ≡ total_columns (take 1 segments)
unfolding total_columns
first-total [] default some = absurd (omega (arith, some))
first-total (segment ∷ segments) default some = omega (arith)

-- a line of so many of these segments, and its columns
pub record IsLine (segments : List MeasuredSegment) (count width inner : ℕ) (hyphen : Bool) : Type 0 where
  pub some : 0 < count
  pub within : count ≤ length segments
  pub width_is : width ≡ line_columns (take count segments)
  pub inner_is : inner ≡ total_columns (take count segments)
  pub hyphen_is : hyphen ≡ ends_hyphenated (take count segments)

-- its columns as it is shown
pub shown-is : (segments : List MeasuredSegment) (count width inner : ℕ) (hyphen : Bool) (shown : ℕ) → IsLine segments count width inner hyphen
    → shown ≡ with_hyphen width hyphen → shown ≡ shown_columns (take count segments)
shown-is segments count width inner hyphen shown line is =
    is ∙ ap (λ (n : ℕ). with_hyphen n hyphen) line.width_is ∙ ap (λ (h : Bool). with_hyphen (line_columns (take count segments)) h) line.hyphen_is

-- with a hyphen it has room in a number
pub shown-fits : (segments : List MeasuredSegment) (count width inner : ℕ) (hyphen : Bool) (most : ℕ) → IsLine segments count width inner hyphen
    → total_columns segments + 1 < most → width + 1 < most
shown-fits segments count width inner hyphen most line room =
    omega (arith, line.width_is, line-most (take count segments), total-take count segments, room)

first-hyphen : (segments : List MeasuredSegment) (default : MeasuredSegment) → 0 < length segments
    → (get_or segments 0 default).is_hyphenated ≡ ends_hyphenated (take 1 segments)
unfolding ends
first-hyphen [] default some = absurd (omega (arith, some))
first-hyphen (segment ∷ segments) default some = refl

pub line-start : (segments : List MeasuredSegment) (default : MeasuredSegment) (width inner : ℕ) (hyphen : Bool) → 0 < length segments
    → width ≡ (get_or segments 0 default).columns → inner ≡ inner_columns (get_or segments 0 default)
    → hyphen ≡ (get_or segments 0 default).is_hyphenated → IsLine segments 1 width inner hyphen
line-start segments default width inner hyphen some width-is inner-is hyphen-is = record {
  some = omega (arith);
  within = omega (arith, some);
  width_is = width-is ∙ first-line segments default some;
  inner_is = inner-is ∙ first-total segments default some;
  hyphen_is = hyphen-is ∙ first-hyphen segments default some;
}

line-more : (segments : List MeasuredSegment) (count width inner : ℕ) (hyphen : Bool) (default : MeasuredSegment) (width2 inner2 : ℕ) (hyphen2 : Bool)
    → IsLine segments count width inner hyphen → count < length segments
    → width2 ≡ (if (get_or segments count default).is_blank then width else inner + (get_or segments count default).columns)
    → inner2 ≡ inner + inner_columns (get_or segments count default) → hyphen2 ≡ (get_or segments count default).is_hyphenated
    → IsLine segments (suc count) width2 inner2 hyphen2
line-more segments count width inner hyphen default width2 inner2 hyphen2 line under width-is inner-is hyphen-is = record {
  some = omega (arith);
  within = omega (arith, under);
  width_is =
      width-is
      ∙ ap (λ (n : ℕ). if (get_or segments count default).is_blank then n else inner + (get_or segments count default).columns) line.width_is
      ∙ ap (λ (n : ℕ). if (get_or segments count default).is_blank then line_columns (take count segments) else n + (get_or segments count default).columns) line.inner_is
      ∙ sym (line-next segments count default line.some under);
  inner_is = inner-is ∙ ap (λ (n : ℕ). n + inner_columns (get_or segments count default)) line.inner_is ∙ sym (total-next segments count default under);
  hyphen_is = hyphen-is ∙ sym (ends-next (λ (segment : MeasuredSegment). segment.is_hyphenated) segments count default under);
}

pub line-fits : (segments : List MeasuredSegment) (count width inner : ℕ) (hyphen : Bool) (default : MeasuredSegment) (most : ℕ)
    → IsLine segments count width inner hyphen → count < length segments → total_columns segments + 1 < most
    → inner + inner_columns (get_or segments count default) < most
line-fits segments count width inner hyphen default most line under room =
    omega (arith, line.inner_is, total-next segments count default under, total-take (suc count) segments, room)

pub line-whole : (segments : List MeasuredSegment) (count width inner : ℕ) (hyphen : Bool) → IsLine segments count width inner hyphen → length segments ≤ count
    → with_hyphen width hyphen ≡ shown_columns segments
line-whole segments count width inner hyphen line past =
    shown-is segments count width inner hyphen _ line refl ∙ ap (λ (taken : List MeasuredSegment). shown_columns taken) (take_all count segments past)

-- ---- a line that is looked at

-- a line of so many segments, none of which must end a line before its last
pub record IsSeen (segments : List MeasuredSegment) (count width inner : ℕ) (hyphen : Bool) : Type 0 where
  pub line : IsLine segments count width inner hyphen
  pub unbroken : (fewer : ℕ) → fewer < count → ends_mandatory (take fewer segments) ≡ false

none-before : (segments : List MeasuredSegment) (fewer : ℕ) → fewer < 1 → ends_mandatory (take fewer segments) ≡ false
unfolding ends
none-before segments zero under = refl
none-before segments (suc fewer) under = absurd (omega (arith, under))

pub seen-start : (segments : List MeasuredSegment) (width inner : ℕ) (hyphen : Bool) → IsLine segments 1 width inner hyphen → IsSeen segments 1 width inner hyphen
seen-start segments width inner hyphen line = record { line = line; unbroken = none-before segments }

unbroken-next : (segments : List MeasuredSegment) (count : ℕ) → ((fewer : ℕ) → fewer < count → ends_mandatory (take fewer segments) ≡ false)
    → ends_mandatory (take count segments) ≡ false → (fewer : ℕ) → fewer < count + 1 → ends_mandatory (take fewer segments) ≡ false
unbroken-next segments count unbroken may fewer under = on (cases_lt fewer count)
  where
    same : count ≤ fewer → count ≡ fewer
    same after = omega (arith, after, under)

    on : (fewer < count) ⊎ (count ≤ fewer) → ends_mandatory (take fewer segments) ≡ false
    on (inl before) = unbroken fewer before
    on (inr after) = rw (← same after) may

-- it goes on where it need not end
pub seen-next : (columns : ℕ) (segments : List MeasuredSegment) (count width inner : ℕ) (hyphen : Bool) (width2 inner2 : ℕ) (hyphen2 : Bool)
    → IsSeen segments count width inner hyphen → IsLine segments (count + 1) width2 inner2 hyphen2
    → goes_on columns segments count width ≡ true → IsSeen segments (count + 1) width2 inner2 hyphen2
seen-next columns segments count width inner hyphen width2 inner2 hyphen2 seen line goes = record {
  line = line;
  unbroken = unbroken-next segments count seen.unbroken (not-true (ends_mandatory (take count segments)) (and_parts _ _ goes).1);
}

-- where it goes on there is one more
pub more-left : (columns : ℕ) (segments : List MeasuredSegment) (count width : ℕ) → goes_on columns segments count width ≡ true → count < length segments
more-left columns segments count width goes = ltb-true count (length segments) (and_parts _ _ (and_parts _ _ goes).0).0

-- one segment is a line, however wide
pub seen-one : (columns : ℕ) (segments : List MeasuredSegment) (width inner : ℕ) (hyphen : Bool) → IsSeen segments 1 width inner hyphen → IsFirstLine columns segments 1
seen-one columns segments width inner hyphen seen = record {
  some = omega (arith);
  within = seen.line.within;
  unbroken = seen.unbroken;
  fits = λ more. absurd (omega (arith, more));
}

-- what has room is a line
pub seen-first : (columns : ℕ) (segments : List MeasuredSegment) (count width inner : ℕ) (hyphen : Bool) (shown : ℕ) → IsSeen segments count width inner hyphen
    → shown ≡ with_hyphen width hyphen → shown ≤ columns → IsFirstLine columns segments count
seen-first columns segments count width inner hyphen shown seen is fits = record {
  some = seen.line.some;
  within = seen.line.within;
  unbroken = seen.unbroken;
  fits = λ more. omega (arith, fits, shown-is segments count width inner hyphen shown seen.line is);
}

-- what has no room is none
pub seen-wide : (columns : ℕ) (segments : List MeasuredSegment) (count width inner : ℕ) (hyphen : Bool) (shown : ℕ) → IsSeen segments count width inner hyphen
    → 1 < count → shown ≡ with_hyphen width hyphen → columns < shown → IsFirstLine columns segments count → ⊥
seen-wide columns segments count width inner hyphen shown seen several is wide line =
    omega (arith, wide, line.fits several, shown-is segments count width inner hyphen shown seen.line is)

-- no line has more segments than so many
abbrev pub NoneIsLonger : ℕ → List MeasuredSegment → ℕ → Type 0
NoneIsLonger columns segments count = (other : ℕ) → IsFirstLine columns segments other → other ≤ count

with-hyphen-least : (columns : ℕ) (hyphen : Bool) → columns ≤ with_hyphen columns hyphen
with-hyphen-least columns true = omega (arith)
with-hyphen-least columns false = omega (arith)

-- without its hyphen this one is too wide already
none-wide : (columns : ℕ) (segments : List MeasuredSegment) (count width inner : ℕ) (hyphen : Bool) → IsSeen segments count width inner hyphen
    → columns < width → NoneIsLonger columns segments count
none-wide columns segments count width inner hyphen seen wide other is = on (cases_lt count other)
  where
    default : MeasuredSegment
    default = record { columns = 0; trailing_columns = 0; is_blank = false; is_hyphenated = false; is_mandatory = false }

    on : (count < other) ⊎ (other ≤ count) → other ≤ count
    on (inr before) = before
    on (inl after) =
        absurd
        (omega (
          arith,
          line-grow segments count other default seen.line.some (omega (arith, after)) is.within,
          is.fits (omega (arith, after, seen.line.some)),
          with-hyphen-least (line_columns (take other segments)) (ends_hyphenated (take other segments)),
          seen.line.width_is,
          wide,
        ))

-- it must end
none-mandatory : (columns : ℕ) (segments : List MeasuredSegment) (count : ℕ) → ends_mandatory (take count segments) ≡ true → NoneIsLonger columns segments count
none-mandatory columns segments count must other is = on (cases_lt count other)
  where
    on : (count < other) ⊎ (other ≤ count) → other ≤ count
    on (inr before) = before
    on (inl after) = absurd (true≢false (sym must ∙ is.unbroken count after))

-- none follows
none-left : (columns : ℕ) (segments : List MeasuredSegment) (count : ℕ) → length segments ≤ count → NoneIsLonger columns segments count
none-left columns segments count past other is = omega (arith, is.within, past)

-- no line is longer where this one doesn't go on
pub none-on : (columns : ℕ) (segments : List MeasuredSegment) (count width inner : ℕ) (hyphen : Bool) → IsSeen segments count width inner hyphen
    → goes_on columns segments count width ≡ false → NoneIsLonger columns segments count
none-on columns segments count width inner hyphen seen stops = on (and_cases _ _ stops)
  where
    by : (nat_lt count (length segments) ≡ false) ⊎ (nat_le width columns ≡ false) → NoneIsLonger columns segments count
    by (inl past) = none-left columns segments count (ltb-false count (length segments) past)
    by (inr wide) = none-wide columns segments count width inner hyphen seen (leb-false width columns wide)

    on : (nat_lt count (length segments) && nat_le width columns ≡ false) ⊎ (not (ends_mandatory (take count segments)) ≡ false) → NoneIsLonger columns segments count
    on (inl either) = by (and_cases _ _ either)
    on (inr must) = none-mandatory columns segments count (not-false (ends_mandatory (take count segments)) must)

-- ---- choosing a first line

next : {other count : ℕ} → other ≤ count + 1 → count < other → other ≡ count + 1
next at-most after = omega (arith, at-most, after)

-- of the first lines with at most so many segments, this is the least
pub record IsChosen (columns : ℕ) (segments : List MeasuredSegment) (costs : List ℕ) (count least first : ℕ) : Type 0 where
  pub is : IsFirstLine columns segments first
  pub sum : total_with columns segments costs first ≡ least
  pub below : (other : ℕ) → other ≤ count → IsFirstLine columns segments other → least ≤ total_with columns segments costs other
  pub longest : (other : ℕ) → other ≤ count → IsFirstLine columns segments other → total_with columns segments costs other ≡ least → other ≤ first

one-or-none : (other : ℕ) → other ≤ 1 → 0 < other → other ≡ 1
one-or-none other at-most some = omega (arith, at-most, some)

pub chosen-start : (columns : ℕ) (segments : List MeasuredSegment) (costs : List ℕ) (least : ℕ) → IsFirstLine columns segments 1
    → total_with columns segments costs 1 ≡ least → IsChosen columns segments costs 1 least 1
chosen-start columns segments costs least line sum = record {
  is = line;
  sum = sum;
  below = λ other at-most is. rw (one-or-none other at-most is.some) (omega (arith, sum));
  longest = λ other at-most is same. at-most;
}

-- a further one that is no dearer
pub chosen-better : (columns : ℕ) (segments : List MeasuredSegment) (costs : List ℕ) (count least first cost : ℕ) → IsChosen columns segments costs count least first
    → IsFirstLine columns segments (count + 1) → cost ≡ line_cost columns segments (count + 1) → cost + get_or costs (count + 1) 0 ≤ least
    → IsChosen columns segments costs (count + 1) (cost + get_or costs (count + 1) 0) (count + 1)
chosen-better columns segments costs count least first cost chosen line is cheap = record {
  is = line;
  sum = ap (λ (n : ℕ). n + get_or costs (count + 1) 0) (sym is);
  below = below;
  longest = λ other at-most is same. at-most;
}
  where
    below : (other : ℕ) → other ≤ count + 1 → IsFirstLine columns segments other → cost + get_or costs (count + 1) 0 ≤ total_with columns segments costs other
    below other at-most line = on (cases_lt count other)
      where
        on : (count < other) ⊎ (other ≤ count) → cost + get_or costs (count + 1) 0 ≤ total_with columns segments costs other
        on (inl after) = rw (next at-most after) (omega (arith, is))
        on (inr before) = omega (arith, chosen.below other before line, cheap)

-- a further one that is dearer, or too wide
pub chosen-worse : (columns : ℕ) (segments : List MeasuredSegment) (costs : List ℕ) (count least first : ℕ) → IsChosen columns segments costs count least first
    → (IsFirstLine columns segments (count + 1) → least < total_with columns segments costs (count + 1))
    → IsChosen columns segments costs (count + 1) least first
chosen-worse columns segments costs count least first chosen dear = record { is = chosen.is; sum = chosen.sum; below = below; longest = longest }
  where
    dearer : (other : ℕ) → IsFirstLine columns segments other → other ≡ count + 1 → least < total_with columns segments costs other
    dearer other is here = rw here (dear (rw (← here) is))

    below : (other : ℕ) → other ≤ count + 1 → IsFirstLine columns segments other → least ≤ total_with columns segments costs other
    below other at-most is = on (cases_lt count other)
      where
        on : (count < other) ⊎ (other ≤ count) → least ≤ total_with columns segments costs other
        on (inr before) = chosen.below other before is
        on (inl after) = omega (arith, dearer other is (next at-most after))

    longest : (other : ℕ) → other ≤ count + 1 → IsFirstLine columns segments other → total_with columns segments costs other ≡ least → other ≤ first
    longest other at-most is same = on (cases_lt count other)
      where
        on : (count < other) ⊎ (other ≤ count) → other ≤ first
        on (inr before) = chosen.longest other before is same
        on (inl after) = absurd (omega (arith, dearer other is (next at-most after), same))

pub chosen-all : (columns : ℕ) (segments : List MeasuredSegment) (costs : List ℕ) (count least first : ℕ) → IsChosen columns segments costs count least first
    → NoneIsLonger columns segments count → IsLeast columns segments costs least first
chosen-all columns segments costs count least first chosen none = record {
  is = chosen.is;
  sum = chosen.sum;
  below = λ other is. chosen.below other (none other is) is;
  longest = λ other is same. chosen.longest other (none other is) is same;
}

-- ---- filling a first line

-- of the first lines with at most so many segments, this is the longest, and it has these columns
pub record IsFull (columns : ℕ) (segments : List MeasuredSegment) (count full shown : ℕ) : Type 0 where
  pub is : IsFirstLine columns segments full
  pub longest : (other : ℕ) → other ≤ count → IsFirstLine columns segments other → other ≤ full
  pub shown_is : shown ≡ shown_columns (take full segments)

-- the longest that was looked at
pub full-here : (columns : ℕ) (segments : List MeasuredSegment) (count width inner : ℕ) (hyphen : Bool) (shown : ℕ) → IsFirstLine columns segments count
    → IsLine segments count width inner hyphen → shown ≡ with_hyphen width hyphen → IsFull columns segments count count shown
full-here columns segments count width inner hyphen shown is line shown-by = record {
  is = is;
  longest = λ other at-most is. at-most;
  shown_is = shown-is segments count width inner hyphen shown line shown-by;
}

-- one that has no room
pub full-before : (columns : ℕ) (segments : List MeasuredSegment) (count full shown : ℕ) → IsFull columns segments count full shown
    → (IsFirstLine columns segments (count + 1) → ⊥) → IsFull columns segments (count + 1) full shown
full-before columns segments count full shown filled wide = record { is = filled.is; longest = longest; shown_is = filled.shown_is }
  where
    longest : (other : ℕ) → other ≤ count + 1 → IsFirstLine columns segments other → other ≤ full
    longest other at-most is = on (cases_lt count other)
      where
        on : (count < other) ⊎ (other ≤ count) → other ≤ full
        on (inr before) = filled.longest other before is
        on (inl after) = absurd (wide (rw (← next at-most after) is))

pub full-all : (columns : ℕ) (segments : List MeasuredSegment) (count full shown : ℕ) → IsFull columns segments count full shown → NoneIsLonger columns segments count
    → IsFullLine columns segments full
full-all columns segments count full shown filled none = record { is = filled.is; longest = λ other is. filled.longest other (none other is) is }

-- ---- as the code has it

add-one : (count : ℕ) → suc count ≡ count + 1
add-one count = omega (arith)

pub first-fits : (segments : List MeasuredSegment) (default : MeasuredSegment) (most : ℕ) → 0 < length segments → total_columns segments + 1 < most
    → inner_columns (get_or segments 0 default) < most
first-fits segments default most some room = omega (arith, first-total segments default some, total-take 1 segments, room)

pub line-by : (segments : List MeasuredSegment) (count width inner : ℕ) (hyphen : Bool) (default : MeasuredSegment) (width2 inner2 : ℕ) (hyphen2 : Bool)
    → IsLine segments count width inner hyphen → count < length segments
    → width2 ≡ (if (get_or segments count default).is_blank then width else inner + (get_or segments count default).columns)
    → inner2 ≡ inner + inner_columns (get_or segments count default) → hyphen2 ≡ (get_or segments count default).is_hyphenated
    → IsLine segments (count + 1) width2 inner2 hyphen2
line-by segments count width inner hyphen default width2 inner2 hyphen2 line under width-is inner-is hyphen-is =
    rw (← add-one count) (line-more segments count width inner hyphen default width2 inner2 hyphen2 line under width-is inner-is hyphen-is)

-- behind one there are several
pub several : (count : ℕ) → 0 < count → 1 < count + 1
several count some = omega (arith, some)

pub dearer-by : (columns : ℕ) (segments : List MeasuredSegment) (costs : List ℕ) (count least cost : ℕ) → cost ≡ line_cost columns segments count
    → least < cost + get_or costs count 0 → least < total_with columns segments costs count
dearer-by columns segments costs count least cost is dear = omega (arith, is, dear)

pub goes-on-by : (columns : ℕ) (segments : List MeasuredSegment) (count width : ℕ) (default : MeasuredSegment) → 0 < count → count ≤ length segments
    → count < length segments → width ≤ columns → not (get_or segments (count - 1) default).is_mandatory ≡ goes_on columns segments count width
goes-on-by columns segments count width default some within under narrow =
    rw (lt-ltb count (length segments) under, le-leb width columns narrow) (ap not (sym (mandatory-last segments count default some within)))
