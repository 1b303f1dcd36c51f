-- The best costs and first lines of what begins at each segment, from the last on; and the lines that they give.
use Rattle.std.proofs.Common.{◌≡◌, ℕ, ◌<◌, ◌≤◌, ◌+◌, ◌-◌, ◌*◌, Bool, true, false, nat_lt, List, [], ◌∷◌, ◌++◌, length, drop, take, get_or, set, ◌≢◌, ◌⊎◌, inl, inr, zero, suc, refl, sym, ap, ◌∙◌, arith}
use Rattle.std.specs.Prelude.{if◌then◌else◌}
use Rattle.std.proofs.Math.Nat.{mul-le-mul}
use Rattle.std.proofs.lemmas.Bool.{cases_lt}
use Rattle.std.proofs.lemmas.List.{append-nil, append_assoc, drop_all, get_or-drop, get_or-set_other, get_or-set_same, length-drop, length-set, length-take-le, take_rest}
use Rattle.seg_balance.specs.declared.balance.Limits.{Limits}
use Rattle.seg_balance.specs.declared.balance.MeasuredLine.{MeasuredLine}
use Rattle.seg_balance.specs.declared.balance.MeasuredSegment.{MeasuredSegment}
use Rattle.seg_balance.specs.Balanced.{AreBalancedLines, AreFilled, AreFilledLines, AreLines, AreBalanced, IsFilledFirst, IsFirstLine, IsFullLine, cost, lines_after, ends_mandatory, limit_of, line_cost, shown_columns, square_free, total_columns}
use Rattle.seg_balance.specs.Choice.{AreFirsts, AreSmall, HasBest, IsLeast, begins_paragraph, bound}
use Rattle.seg_balance.proofs.Core.{best-nothing, best-step, mandatory-last, total-drop, total-take}

drop-more : {A : Type 0} → (n m k : ℕ) (xs : List A) → n + m ≡ k → drop m (drop n xs) ≡ drop k xs
drop-more zero m k xs is = ap (λ (k : ℕ). drop k xs) (m-is-k is)
  where
    m-is-k : 0 + m ≡ k → m ≡ k
    m-is-k is = omega (arith, is)
drop-more (suc n) m k [] is = drop_all m [] (omega (arith)) ∙ sym (drop_all k [] (omega (arith)))
drop-more (suc n) m zero (x ∷ xs) is = absurd (omega (arith, is))
drop-more (suc n) m (suc k) (x ∷ xs) is = drop-more n m k xs (omega (arith, is))

drop-on : {A : Type 0} → (n m : ℕ) (xs : List A) → drop m (drop n xs) ≡ drop (n + m) xs
drop-on n m xs = drop-more n m (n + m) xs refl

pub record IsTable (limits : Limits) (segments : List MeasuredSegment) (start : ℕ) (costs firsts : List ℕ) : Type 0 where
  pub within : start ≤ length segments
  pub costs_long : length costs ≡ length segments + 1
  pub firsts_long : length firsts ≡ length segments + 1
  pub stand : (at : ℕ) → start ≤ at → at ≤ length segments → HasBest limits (begins_paragraph segments at) (drop at segments) (get_or costs at 0) (get_or firsts at 0)
  pub small : (at : ℕ) → start ≤ at → at ≤ length segments → get_or costs at 0 ≤ bound (length segments - at)

pub table-start : (limits : Limits) (segments : List MeasuredSegment) (costs firsts : List ℕ) → length costs ≡ length segments + 1 → length firsts ≡ length segments + 1
    → get_or costs (length segments) 0 ≡ 0 → IsTable limits segments (length segments) costs firsts
table-start limits segments costs firsts costs-long firsts-long last = record {
  within = omega (arith);
  costs_long = costs-long;
  firsts_long = firsts-long;
  stand = λ at from to. rw (here at from to) (rw (last, drop_all (length segments) segments (omega (arith))) (best-nothing limits (begins_paragraph segments (length segments)) (get_or firsts (length segments) 0)));
  small = λ at from to. rw (here at from to) (omega (arith, last));
}
  where
    here : (at : ℕ) → length segments ≤ at → at ≤ length segments → at ≡ length segments
    here at from to = omega (arith, from, to)

-- what is asked of the costs after a segment
pub table-small : (limits : Limits) (segments : List MeasuredSegment) (start : ℕ) (costs firsts : List ℕ) → IsTable limits segments (suc start) costs firsts
    → AreSmall (drop start segments) (drop start costs)
table-small limits segments start costs firsts table count some within =
    rw (get_or-drop start costs count 0)
    (omega (
      arith,
      table.small (start + count) (omega (arith, some)) (omega (arith, within, length-drop start segments, table.within)),
      length-drop start segments,
    ))

square : (free : ℕ) → free ≤ 4294967296 → free * free ≤ 4294967296 * 4294967296
square free narrow = mul-le-mul narrow narrow

line-small : (columns : ℕ) (segments : List MeasuredSegment) (count : ℕ) → columns ≤ 4294967295 → line_cost columns segments count ≤ 18446744073709551616
line-small columns segments count narrow = on (nat_lt count (length segments)) (ends_mandatory (take count segments))
  where
    free : ℕ
    free = columns - shown_columns (take count segments)

    on : (b c : Bool) → (if b then (if c then 0 else square_free columns (shown_columns (take count segments))) else 0) ≤ 18446744073709551616
    on true false = omega (arith, square free (omega (arith, narrow)))
    on true true = omega (arith)
    on false c = omega (arith)

best-of : (limits : Limits) (is_first : Bool) (segments : List MeasuredSegment) (bests firsts : List ℕ) (least first : ℕ) → 0 < length segments
    → IsLeast (limit_of limits is_first) segments bests least first
    → ((count : ℕ) → IsFirstLine (limit_of limits is_first) segments count
    → HasBest limits (ends_mandatory (take count segments)) (drop count segments) (get_or bests count 0) (get_or firsts count 0))
    → HasBest limits is_first segments least first
best-of limits is_first [] bests firsts least first some chosen rests = absurd (omega (arith, some))
best-of limits is_first (segment ∷ segments) bests firsts least first some chosen rests = best-step limits is_first segment segments bests firsts least first chosen rests

-- ---- where paragraphs begin

begins-behind : (segments : List MeasuredSegment) (place : ℕ) → 0 < place → begins_paragraph segments place ≡ ends_mandatory (take place segments)
begins-behind segments zero some = absurd (omega (arith, some))
begins-behind segments (suc place) some = refl

-- behind some of the segments from a place on
begins-after : (segments : List MeasuredSegment) (start count : ℕ) → 0 < count → count ≤ length (drop start segments) → start ≤ length segments
    → begins_paragraph segments (start + count) ≡ ends_mandatory (take count (drop start segments))
begins-after segments start count some within from =
    begins-behind segments (start + count) (omega (arith, some))
    ∙ mandatory-last segments (start + count) default (omega (arith, some)) (omega (arith, within, length-drop start segments, from))
    ∙ ap (λ (n : ℕ). (get_or segments n default).is_mandatory) place
    ∙ ap (λ (one : MeasuredSegment). one.is_mandatory) (sym (get_or-drop start segments (count - 1) default))
    ∙ sym (mandatory-last (drop start segments) count default some within)
  where
    default : MeasuredSegment
    default = record { columns = 0; trailing_columns = 0; is_blank = false; is_hyphenated = false; is_mandatory = false }

    place : start + count - 1 ≡ start + (count - 1)
    place = omega (arith, some)

pub begins-here : (segments : List MeasuredSegment) (start : ℕ) (default : MeasuredSegment) → start ≢ 0 → start ≤ length segments
    → (get_or segments (start - 1) default).is_mandatory ≡ begins_paragraph segments start
begins-here segments zero default some within = absurd (some refl)
begins-here segments (suc start) default some within = sym (mandatory-last segments (suc start) default (omega (arith)) within)

pub begins-at-start : (segments : List MeasuredSegment) (start : ℕ) → start ≡ 0 → true ≡ begins_paragraph segments start
begins-at-start segments start is = rw is refl

pub table-step : (limits : Limits) (segments : List MeasuredSegment) (start : ℕ) (costs firsts costs2 firsts2 : List ℕ) (least first : ℕ)
    → IsTable limits segments (suc start) costs firsts → limit_of limits (begins_paragraph segments start) ≤ 4294967295
    → IsLeast (limit_of limits (begins_paragraph segments start)) (drop start segments) (drop start costs) least first → costs2 ≡ set costs start least → firsts2 ≡ set firsts start first
    → length costs2 ≡ length costs → length firsts2 ≡ length firsts
    → IsTable limits segments start costs2 firsts2
table-step limits segments start costs firsts costs2 firsts2 least first table narrow chosen costs-set firsts-set costs-long firsts-long = record {
  within = omega (arith, table.within);
  costs_long = costs-long ∙ table.costs_long;
  firsts_long = firsts-long ∙ table.firsts_long;
  stand = stand;
  small = small;
}
  where
    rests : (count : ℕ) → IsFirstLine (limit_of limits (begins_paragraph segments start)) (drop start segments) count
        → HasBest limits (ends_mandatory (take count (drop start segments))) (drop count (drop start segments)) (get_or (drop start costs) count 0) (get_or (drop start firsts) count 0)
    rests count is =
        rw (
          ← begins-after segments start count is.some is.within (omega (arith, table.within)),
          drop-on start count segments,
          get_or-drop start costs count 0,
          get_or-drop start firsts count 0,
        )
        (table.stand (start + count) (omega (arith, is.some)) (omega (arith, is.within, length-drop start segments, table.within)))

    best : HasBest limits (begins_paragraph segments start) (drop start segments) least first
    best = best-of limits (begins_paragraph segments start) (drop start segments) (drop start costs) (drop start firsts) least first (omega (arith, length-drop start segments, table.within)) chosen rests

    cost-here : get_or costs2 start 0 ≡ least
    cost-here = rw costs-set (get_or-set_same costs start least 0 (omega (arith, table.costs_long, table.within)))

    first-here : get_or firsts2 start 0 ≡ first
    first-here = rw firsts-set (get_or-set_same firsts start first 0 (omega (arith, table.firsts_long, table.within)))

    cost-there : (at : ℕ) → start < at → get_or costs2 at 0 ≡ get_or costs at 0
    cost-there at after = rw costs-set (get_or-set_other costs start at least 0 (λ same. omega (arith, same, after)))

    first-there : (at : ℕ) → start < at → get_or firsts2 at 0 ≡ get_or firsts at 0
    first-there at after = rw firsts-set (get_or-set_other firsts start at first 0 (λ same. omega (arith, same, after)))

    least-small : least ≤ bound (length segments - start)
    least-small =
        omega (
          arith,
          chosen.sum,
          line-small (limit_of limits (begins_paragraph segments start)) (drop start segments) first narrow,
          table-small limits segments start costs firsts table first chosen.is.some chosen.is.within,
          length-drop start segments,
          chosen.is.some,
          chosen.is.within,
          table.within,
        )

    here : (at : ℕ) → start ≤ at → at ≤ start → at ≡ start
    here at from to = omega (arith, from, to)

    stand : (at : ℕ) → start ≤ at → at ≤ length segments → HasBest limits (begins_paragraph segments at) (drop at segments) (get_or costs2 at 0) (get_or firsts2 at 0)
    stand at from to = on (cases_lt start at)
      where
        on : (start < at) ⊎ (at ≤ start) → HasBest limits (begins_paragraph segments at) (drop at segments) (get_or costs2 at 0) (get_or firsts2 at 0)
        on (inl after) = rw (cost-there at after, first-there at after) (table.stand at (omega (arith, after)) to)
        on (inr before) = rw (here at from before) (rw (cost-here, first-here) best)

    small : (at : ℕ) → start ≤ at → at ≤ length segments → get_or costs2 at 0 ≤ bound (length segments - at)
    small at from to = on (cases_lt start at)
      where
        on : (start < at) ⊎ (at ≤ start) → get_or costs2 at 0 ≤ bound (length segments - at)
        on (inl after) = rw (cost-there at after) (table.small at (omega (arith, after)) to)
        on (inr before) = rw (here at from before) (rw cost-here least-small)

pub table-firsts : (limits : Limits) (segments : List MeasuredSegment) (costs firsts : List ℕ) → IsTable limits segments 0 costs firsts → AreFirsts limits segments firsts
table-firsts limits segments costs firsts table start within = (get_or costs start 0, table.stand start (omega (arith)) within)

-- ---- the lines

filled-both : (limits : Limits) (is_first : Bool) (segments : List MeasuredSegment) (counts others : List ℕ) → AreLines limits is_first segments counts → AreLines limits is_first segments others
    → IsFilledFirst counts others → IsFilledFirst others counts → counts ≡ others
unfolding AreLines IsFilledFirst
filled-both limits is_first segments [] [] are these filled back = refl
filled-both limits is_first segments [] (other ∷ others) are these filled back = absurd (omega (arith, ap length are, these.0.some, these.0.within))
filled-both limits is_first segments (count ∷ counts) [] are these filled back = absurd (omega (arith, ap length these, are.0.some, are.0.within))
filled-both limits is_first segments (count ∷ counts) (other ∷ others) are these filled back =
    ap (λ n. n ∷ counts) same
    ∙ ap (λ ns. other ∷ ns) (filled-both limits (ends_mandatory (take other segments)) (drop other segments) counts others (rw (← same) (are.1)) these.1 (filled.1 same) (back.1 (sym same)))
  where
    same : count ≡ other
    same = omega (arith, filled.0, back.0)

-- there is one best list of lines
pub one-best : (limits : Limits) (is_first : Bool) (segments : List MeasuredSegment) (counts others : List ℕ) → AreBalanced limits is_first segments counts → AreBalanced limits is_first segments others → counts ≡ others
one-best limits is_first segments counts others best other =
    filled-both limits is_first segments counts others best.are other.are (best.filled others other.are (sym same)) (other.filled counts best.are same)
  where
    same : cost limits is_first segments counts ≡ cost limits is_first segments others
    same = omega (arith, best.least others other.are, other.least counts best.are)

-- what follows the first of the best lines is the best of the rest
pub tail-best : (limits : Limits) (is_first : Bool) (segments : List MeasuredSegment) (count : ℕ) (counts : List ℕ) → AreBalanced limits is_first segments (count ∷ counts)
    → AreBalanced limits (ends_mandatory (take count segments)) (drop count segments) counts
unfolding AreLines cost IsFilledFirst
tail-best limits is_first segments count counts best = record {
  are = best.are.1;
  least = λ others are. omega (arith, best.least (count ∷ others) (best.are.0, are));
  filled = λ others are same. (best.filled (count ∷ others) (best.are.0, are) (ap (λ n. line_cost (limit_of limits is_first) segments count + n) same)).1 refl;
}

-- these lines, up to here, are the first of the balanced ones
pub record IsCut (limits : Limits) (segments : List MeasuredSegment) (start : ℕ) (lines : List MeasuredLine) : Type 0 where
  pub within : start ≤ length segments
  pub counts : List ℕ
  pub best : AreBalanced limits true segments counts
  pub rest : List ℕ
  pub rest_best : AreBalanced limits (begins_paragraph segments start) (drop start segments) rest
  pub same : lines ++ lines_after start (drop start segments) rest ≡ lines_after 0 segments counts

pub cut-start : (limits : Limits) (segments : List MeasuredSegment) (firsts : List ℕ) → AreFirsts limits segments firsts → IsCut limits segments 0 []
cut-start limits segments firsts are = record {
  within = omega (arith);
  counts = (are 0 (omega (arith))).1.counts;
  best = (are 0 (omega (arith))).1.is;
  rest = (are 0 (omega (arith))).1.counts;
  rest_best = (are 0 (omega (arith))).1.is;
  same = refl;
}

-- the first line of what is left
pub cut-first : (limits : Limits) (segments : List MeasuredSegment) (firsts : List ℕ) (start : ℕ) → AreFirsts limits segments firsts → start < length segments
    → IsFirstLine (limit_of limits (begins_paragraph segments start)) (drop start segments) (get_or firsts start 0)
unfolding AreLines
cut-first limits segments firsts start are under = on has.counts has.is.are has.begins
  where
    has : HasBest limits (begins_paragraph segments start) (drop start segments) (are start (omega (arith, under))).0 (get_or firsts start 0)
    has = (are start (omega (arith, under))).1

    on : (counts : List ℕ) → AreLines limits (begins_paragraph segments start) (drop start segments) counts
        → ((count : ℕ) (later : List ℕ) → counts ≡ count ∷ later → count ≡ get_or firsts start 0)
        → IsFirstLine (limit_of limits (begins_paragraph segments start)) (drop start segments) (get_or firsts start 0)
    on [] lines begins = absurd (omega (arith, ap length lines, length-drop start segments, under))
    on (count ∷ counts) lines begins = rw (← begins count counts refl) (lines.0)

pub cut-grows : (limits : Limits) (segments : List MeasuredSegment) (firsts : List ℕ) (start : ℕ) → AreFirsts limits segments firsts → start < length segments
    → (0 < get_or firsts start 0) × (start + get_or firsts start 0 ≤ length segments)
cut-grows limits segments firsts start are under =
    ((cut-first limits segments firsts start are under).some, omega (arith, (cut-first limits segments firsts start are under).within, length-drop start segments, under))

-- the line of so many segments from here on
abbrev line_from : List MeasuredSegment → ℕ → ℕ → MeasuredLine
line_from segments start count = record { end = start + count; columns = shown_columns (take count (drop start segments)) }

pub cut-step : (limits : Limits) (segments : List MeasuredSegment) (firsts : List ℕ) (start : ℕ) (lines : List MeasuredLine) → AreFirsts limits segments firsts
    → start < length segments → IsCut limits segments start lines
    → IsCut limits segments (start + get_or firsts start 0) (lines ++ line_from segments start (get_or firsts start 0) ∷ [])
unfolding AreLines lines_after
cut-step limits segments firsts start lines are under cut = on has.counts has.is has.begins
  where
    has : HasBest limits (begins_paragraph segments start) (drop start segments) (are start (omega (arith, under))).0 (get_or firsts start 0)
    has = (are start (omega (arith, under))).1

    from-here : (count : ℕ) (later : List ℕ) → count ≡ get_or firsts start 0 → AreBalanced limits (begins_paragraph segments start) (drop start segments) (count ∷ later)
        → lines ++ lines_after start (drop start segments) (count ∷ later) ≡ lines_after 0 segments cut.counts
        → IsCut limits segments (start + get_or firsts start 0) (lines ++ line_from segments start (get_or firsts start 0) ∷ [])
    from-here count later is best same = rw (← is) (record {
      within = omega (arith, best.are.0.within, length-drop start segments, under);
      counts = cut.counts;
      best = cut.best;
      rest = later;
      rest_best =
          rw (begins-after segments start count best.are.0.some best.are.0.within (omega (arith, under)), ← drop-on start count segments)
          (tail-best limits (begins_paragraph segments start) (drop start segments) count later best);
      same =
          rw (← drop-on start count segments)
          (append_assoc lines (line_from segments start count ∷ []) (lines_after (start + count) (drop count (drop start segments)) later) ∙ same);
    })

    on : (counts : List ℕ) → AreBalanced limits (begins_paragraph segments start) (drop start segments) counts
        → ((count : ℕ) (later : List ℕ) → counts ≡ count ∷ later → count ≡ get_or firsts start 0)
        → IsCut limits segments (start + get_or firsts start 0) (lines ++ line_from segments start (get_or firsts start 0) ∷ [])
    on [] best begins = absurd (omega (arith, ap length best.are, length-drop start segments, under))
    on (count ∷ later) best begins =
        from-here count later (begins count later refl) best
        (ap (λ (counts : List ℕ). lines ++ lines_after start (drop start segments) counts) (one-best limits (begins_paragraph segments start) (drop start segments) (count ∷ later) cut.rest best cut.rest_best)
        ∙ cut.same)

pub cut-end : (limits : Limits) (segments : List MeasuredSegment) (start : ℕ) (lines : List MeasuredLine) → IsCut limits segments start lines → length segments ≤ start
    → AreBalancedLines limits segments lines
unfolding AreLines lines_after
cut-end limits segments start lines cut past = (cut.counts, (cut.best, on cut.rest cut.rest_best.are cut.same))
  where
    on : (rest : List ℕ) → AreLines limits (begins_paragraph segments start) (drop start segments) rest → lines ++ lines_after start (drop start segments) rest ≡ lines_after 0 segments cut.counts
        → lines ≡ lines_after 0 segments cut.counts
    on [] are same = sym (append-nil lines) ∙ same
    on (count ∷ later) are same = absurd (omega (arith, are.0.some, are.0.within, length-drop start segments, past))

-- ---- as the code has it

-- the columns of the line that begins at a place
pub limit-by : (limits : Limits) (segments : List MeasuredSegment) (start columns : ℕ) (is_first : Bool) → is_first ≡ begins_paragraph segments start
    → columns ≡ limit_of limits is_first → columns ≡ limit_of limits (begins_paragraph segments start)
limit-by limits segments start columns is_first begins is = is ∙ ap (λ (b : Bool). limit_of limits b) begins

pub step-by : (limits : Limits) (segments : List MeasuredSegment) (start : ℕ) (costs firsts slice : List ℕ) (least first columns : ℕ)
    → IsTable limits segments start costs firsts → 0 < start → columns ≡ limit_of limits (begins_paragraph segments (start - 1)) → columns ≤ 4294967295 → slice ≡ costs
    → IsLeast columns (take (length segments - (start - 1)) (drop (start - 1) segments)) (take (length slice - (start - 1)) (drop (start - 1) slice)) least first
    → IsTable limits segments (start - 1) (set costs (start - 1) least) (set firsts (start - 1) first)
step-by limits segments start costs firsts slice least first columns table some limit narrow same chosen =
    table-step limits segments (start - 1) costs firsts (set costs (start - 1) least) (set firsts (start - 1) first) least first
    (rw (← same-start) table) (rw (← limit) narrow)
    (rw (← limit, ← take_rest segments (start - 1), ← take_rest costs (start - 1)) (rw (← same) chosen))
    refl refl (length-set costs (start - 1) least) (length-set firsts (start - 1) first)
  where
    same-start : start ≡ suc (start - 1)
    same-start = omega (arith, some)

pub small-by : (limits : Limits) (segments : List MeasuredSegment) (start : ℕ) (costs firsts slice : List ℕ) → IsTable limits segments start costs firsts → 0 < start
    → slice ≡ costs → AreSmall (take (length segments - (start - 1)) (drop (start - 1) segments)) (take (length slice - (start - 1)) (drop (start - 1) slice))
small-by limits segments start costs firsts slice table some same =
    rw same
    (rw (take_rest segments (start - 1), take_rest costs (start - 1))
    (table-small limits segments (start - 1) costs firsts (rw (← same-start) table)))
  where
    same-start : start ≡ suc (start - 1)
    same-start = omega (arith, some)

pub cut-by : (limits : Limits) (segments : List MeasuredSegment) (firsts : List ℕ) (start x width : ℕ) (lines more : List MeasuredLine) → AreFirsts limits segments firsts
    → start < length segments → IsCut limits segments start lines → x ≡ get_or firsts start 0
    → width ≡ shown_columns (take (start + x - start) (drop start segments)) → more ≡ lines ++ record { end = start + x; columns = width } ∷ []
    → IsCut limits segments (start + x) more
cut-by limits segments firsts start x width lines more are under cut is width-is pushed =
    rw pushed (rw (width-is ∙ ap (λ (n : ℕ). shown_columns (take n (drop start segments))) count) (rw is (cut-step limits segments firsts start lines are under cut)))
  where
    count : start + x - start ≡ x
    count = omega (arith)

pub line-some : (segments : List MeasuredSegment) (start x : ℕ) → 0 < x → start + x ≤ length segments → 0 < length (take (start + x - start) (drop start segments))
line-some segments start x some within =
    omega (arith, some, within, length-drop start segments, length-take-le (start + x - start) (drop start segments) (omega (arith, within, length-drop start segments)))

pub line-room : (segments : List MeasuredSegment) (start count most : ℕ) → total_columns segments + 1 < most → total_columns (take count (drop start segments)) + 1 < most
line-room segments start count most room = omega (arith, total-take count (drop start segments), total-drop start segments, room)

pub at-zero : (limits : Limits) (segments : List MeasuredSegment) (start : ℕ) (costs firsts : List ℕ) → start ≤ 0 → IsTable limits segments start costs firsts
    → IsTable limits segments 0 costs firsts
at-zero limits segments start costs firsts past table = rw (← none) table
  where
    none : start ≡ 0
    none = omega (arith, past)

pub room-by : (segments : List MeasuredSegment) (start most : ℕ) → total_columns segments + 1 < most
    → total_columns (take (length segments - start) (drop start segments)) + 1 < most
room-by segments start most room = rw (take_rest segments start) (omega (arith, total-drop start segments, room))

-- ---- filled lines

-- these lines, up to here, are the first of the filled ones: with those of the rest they are the filled ones
pub record IsFilledTo (limits : Limits) (segments : List MeasuredSegment) (start : ℕ) (lines : List MeasuredLine) : Type 0 where
  pub within : start ≤ length segments
  pub on : (rest : List ℕ) → AreFilled limits (begins_paragraph segments start) (drop start segments) rest
      → (counts : List ℕ) × (AreFilled limits true segments counts × (lines ++ lines_after start (drop start segments) rest ≡ lines_after 0 segments counts))

pub filled-start : (limits : Limits) (segments : List MeasuredSegment) → IsFilledTo limits segments 0 []
filled-start limits segments = record { within = omega (arith); on = λ rest are. (rest, (are, refl)) }

pub filled-step : (limits : Limits) (segments : List MeasuredSegment) (start count shown : ℕ) (lines more : List MeasuredLine) → start < length segments
    → IsFilledTo limits segments start lines → IsFullLine (limit_of limits (begins_paragraph segments start)) (drop start segments) count
    → shown ≡ shown_columns (take count (drop start segments)) → more ≡ lines ++ record { end = start + count; columns = shown } ∷ []
    → IsFilledTo limits segments (start + count) more
unfolding AreFilled lines_after
filled-step limits segments start count shown lines more under filled full shown-is pushed = record {
  within = omega (arith, full.is.within, length-drop start segments, under);
  on = λ rest are.
      let all = filled.on (count ∷ rest)
      (full, rw (← begins-after segments start count full.is.some full.is.within (omega (arith, under)), drop-on start count segments) are) in (
        all.0,
        (
          all.1.0,
          rw (pushed, shown-is, ← drop-on start count segments)
              (append_assoc lines (line_from segments start count ∷ []) (lines_after (start + count) (drop count (drop start segments)) rest) ∙ all.1.1),
        ),
      );
}

pub filled-end : (limits : Limits) (segments : List MeasuredSegment) (start : ℕ) (lines : List MeasuredLine) → IsFilledTo limits segments start lines
    → length segments ≤ start → AreFilledLines limits segments lines
unfolding AreFilled lines_after
filled-end limits segments start lines filled past =
    let all = filled.on [] (drop_all start segments past) in
    (all.0, (all.1.0, sym (append-nil lines) ∙ all.1.1))

-- a line begins where some segments are left
pub rest-some : (segments : List MeasuredSegment) (start : ℕ) → start < length segments → 0 < length (take (length segments - start) (drop start segments))
rest-some segments start under = rw (take_rest segments start) (omega (arith, under, length-drop start segments))

pub filled-by : (limits : Limits) (segments : List MeasuredSegment) (start count shown columns : ℕ) (lines more : List MeasuredLine) → start < length segments
    → IsFilledTo limits segments start lines → columns ≡ limit_of limits (begins_paragraph segments start)
    → IsFullLine columns (take (length segments - start) (drop start segments)) count
    → shown ≡ shown_columns (take count (take (length segments - start) (drop start segments)))
    → more ≡ lines ++ record { end = start + count; columns = shown } ∷ [] → IsFilledTo limits segments (start + count) more
filled-by limits segments start count shown columns lines more under filled limit full shown-is pushed =
    filled-step limits segments start count shown lines more under filled (rw (← limit, ← take_rest segments start) full)
    (rw (← take_rest segments start) shown-is) pushed

pub full-grows : (columns : ℕ) (segments : List MeasuredSegment) (start count : ℕ) → start < length segments
    → IsFullLine columns (take (length segments - start) (drop start segments)) count → (0 < count) × (start + count ≤ length segments)
full-grows columns segments start count under full =
    (full.is.some, omega (arith, full.is.within, ap length (take_rest segments start), length-drop start segments, under))
