-- Lines that take segments as long as they may are the only lines that keep the rules.
use Rattle.std.proofs.Common.{◌≡◌, ℕ, ◌<◌, ◌≤◌, Bool, true, false, nat_lt, List, [], ◌∷◌, ◌++◌, length, length-append, drop, refl, sym, ap, ◌∙◌, arith}
use Rattle.std.specs.Prelude.{if◌then◌else◌, ◌||◌}
use Rattle.std.proofs.lemmas.Bool.{ltb-false, lt-ltb, ltb-true, le-ltb, true≢false}
use Rattle.std.proofs.lemmas.List.{append_assoc, append-nil}
use Rattle.seg_wrap.specs.declared.wrap.wrapping.Room.{Room}
use Rattle.seg_wrap.specs.Wrapping.{Segment, as_one, columns_in, columns_of, line_of, lines_from, ends_before, AreLines, HasOneWrapping, IsLine, IsUnbroken, Parts, lines_of, parts_of, whole, whole_of}
use Rattle.seg_wrap.proofs.Extents.{columns-grow}

-- equal lists begin alike, and go on alike
abbrev head_or : Segment → List Segment → Segment
head_or default [] = default
head_or default (one ∷ segments) = one

cons_head : {a b : Segment} {xs ys : List Segment} → a ∷ xs ≡ b ∷ ys → a ≡ b
cons_head {a} same = ap (head_or a) same

cons_tail : {a b : Segment} {xs ys : List Segment} → a ∷ xs ≡ b ∷ ys → xs ≡ ys
cons_tail same = ap (drop 1) same

-- a line with one segment more
abbrev pub with_next : Parts → Segment → Parts
with_next line next = record { first = line.first; others = line.others ++ next ∷ [] }

abbrev pub alone : Segment → Parts
alone first = record { first = first; others = [] }

unfoldable pub parts_from : Room → Bool → Parts → List Segment → List Parts
parts_from room is_first line [] = line ∷ []
parts_from room is_first line (next ∷ segments) =
    if ends_before (columns_in room is_first) (whole_of line) next then line ∷ parts_from room (whole_of line).is_mandatory (alone next) segments
    else parts_from room is_first (with_next line next) segments

whole-next : (first : Segment) (others : List Segment) (next : Segment) → whole first (others ++ next ∷ []) ≡ as_one (whole first others) next
unfolding whole
whole-next first [] next = refl
whole-next first (one ∷ others) next = whole-next (as_one first one) others next

whole-mark : (first next : Segment) (others : List Segment) → (whole (as_one first next) others).is_mandatory ≡ (whole next others).is_mandatory
unfolding whole
whole-mark first next [] = refl
whole-mark first next (one ∷ others) = whole-mark (as_one first next) one others ∙ sym (whole-mark next one others)

-- a line that may go on, with one segment more
unbroken-next : (first : Segment) (others : List Segment) (next : Segment) → IsUnbroken first others → (whole first others).is_mandatory ≡ false
    → IsUnbroken first (others ++ next ∷ [])
unfolding IsUnbroken whole
unbroken-next first [] next is goes = (goes, tt)
unbroken-next first (one ∷ others) next is goes = (is.0, unbroken-next one others next is.1 (sym (whole-mark first one others) ∙ goes))

-- where a line goes on, its beginning isn't mandatory
unbroken-goes : (first : Segment) (others : List Segment) (next : Segment) (later : List Segment) → IsUnbroken first (others ++ next ∷ later)
    → (whole first others).is_mandatory ≡ false
unfolding IsUnbroken whole
unbroken-goes first [] next later is = is.0
unbroken-goes first (one ∷ others) next later is = whole-mark first one others ∙ unbroken-goes one others next later is.1

-- a line has no fewer columns than its beginning
whole-grow : (first : Segment) (others : List Segment) → columns_of first.cells ≤ columns_of (whole first others).cells
unfolding whole
whole-grow first [] = omega arith
whole-grow first (one ∷ others) =
    omega (arith, columns-grow first.cells one.cells, whole-grow (as_one first one) others)

whole-append : (first : Segment) (others later : List Segment) → whole first (others ++ later) ≡ whole (whole first others) later
unfolding whole
whole-append first [] later = refl
whole-append first (one ∷ others) later = whole-append (as_one first one) others later

ends : (limit : ℕ) (line next : Segment) → (line.is_mandatory ≡ false → limit < columns_of (line.cells ++ next.cells)) → ends_before limit line next ≡ true
ends limit line next full = on line.is_mandatory full
  where
    on : (b : Bool) → (b ≡ false → limit < columns_of (line.cells ++ next.cells)) → (b || nat_lt limit (columns_of (line.cells ++ next.cells))) ≡ true
    on true full = refl
    on false full = lt-ltb _ _ (full refl)

goes-on : (limit : ℕ) (line next : Segment) → line.is_mandatory ≡ false → columns_of (line.cells ++ next.cells) ≤ limit → ends_before limit line next ≡ false
goes-on limit line next goes fits =
    rw goes (le-ltb limit (columns_of (line.cells ++ next.cells)) fits)

-- ---- what the greedy lines are

pub parts-wrapped : (room : Room) (is_first : Bool) (line : Parts) (segments : List Segment)
    → lines_of is_first (parts_from room is_first line segments) ≡ lines_from room is_first (whole_of line) segments
unfolding parts_from lines_from lines_of whole
parts-wrapped room is_first line [] = refl
parts-wrapped room is_first line (next ∷ segments) =
    on (ends_before (columns_in room is_first) (whole_of line) next) (parts-wrapped room (whole_of line).is_mandatory (alone next) segments)
    (parts-wrapped room is_first (with_next line next) segments)
  where
    on : (b : Bool) → lines_of (whole_of line).is_mandatory (parts_from room (whole_of line).is_mandatory (alone next) segments) ≡ lines_from room (whole_of line).is_mandatory (whole_of (alone next)) segments
        → lines_of is_first (parts_from room is_first (with_next line next) segments) ≡ lines_from room is_first (whole_of (with_next line next)) segments
        → lines_of is_first (if b then line ∷ parts_from room (whole_of line).is_mandatory (alone next) segments else parts_from room is_first (with_next line next) segments)
        ≡ (if b then line_of is_first (whole_of line) ∷ lines_from room (whole_of line).is_mandatory next segments else lines_from room is_first (as_one (whole_of line) next) segments)
    on true anew further = ap (λ lines. line_of is_first (whole_of line) ∷ lines) anew
    on false anew further = rw (← whole-next line.first line.others next) further

-- ---- the segments of a line are taken one by one

parts-on : (room : Room) (is_first : Bool) (first : Segment) (others extra after : List Segment) → IsUnbroken first (others ++ extra)
    → (0 < length (others ++ extra) → columns_of (whole first (others ++ extra)).cells ≤ columns_in room is_first)
    → parts_from room is_first (record { first = first; others = others }) (extra ++ after) ≡ parts_from room is_first (record { first = first; others = others ++ extra }) after
unfolding parts_from whole
parts-on room is_first first others [] after is fits = rw (append-nil others) refl
parts-on room is_first first others (next ∷ extra) after is fits =
    let some : 0 < length (others ++ next ∷ extra) = omega (arith, length-append others (next ∷ extra)) in
    let within : columns_of (whole (as_one (whole first others) next) extra).cells ≤ columns_in room is_first = rw (← whole-append first others (next ∷ extra)) (fits some) in
    let same : (others ++ next ∷ []) ++ extra ≡ others ++ next ∷ extra = append_assoc others (next ∷ []) extra in
    let further = parts-on room is_first first (others ++ next ∷ []) extra after (rw same is) (rw same fits) in
    rw (goes-on (columns_in room is_first) (whole first others) next (unbroken-goes first others next extra is)
    (omega (arith, whole-grow (as_one (whole first others) next) extra, within)))
    (rw same at further)

-- the greedy lines are the only ones
only-from : (room : Room) (is_first : Bool) (line : Parts) (after : List Segment) (lines : List Parts) → IsLine (columns_in room is_first) line after
    → AreLines room (whole_of line).is_mandatory after lines → parts_from room is_first line after ≡ line ∷ lines
unfolding parts_from AreLines
only-from room is_first line [] [] is are = refl
only-from room is_first line [] (one ∷ lines) is (later, (same, are)) = absurd (omega (arith, ap length same))
only-from room is_first line (next ∷ after) [] is are = absurd (omega (arith, ap length are))
only-from room is_first line (next ∷ after) (one ∷ lines) is (later, (same, (are, others))) =
    rw (ends (columns_in room is_first) (whole_of line) next (is.full next after refl))
    (ap (λ parts. line ∷ parts)
    (rw (cons_head same, cons_tail same)
    (parts-on room (whole_of line).is_mandatory one.first [] one.others later are.ends are.fits ∙ only-from room (whole_of line).is_mandatory one later lines are others)))

-- ---- the greedy lines keep the rules

full-of : (limit columns : ℕ) (mark : Bool) → (mark || nat_lt limit columns) ≡ true → mark ≡ false → limit < columns
full-of limit columns true is goes = absurd (true≢false goes)
full-of limit columns false is goes = ltb-true limit columns is

goes-of : (limit columns : ℕ) (mark : Bool) → (mark || nat_lt limit columns) ≡ false → mark ≡ false
goes-of limit columns true is = is
goes-of limit columns false is = refl

fits-of : (limit columns : ℕ) (mark : Bool) → (mark || nat_lt limit columns) ≡ false → columns ≤ limit
fits-of limit columns true is = absurd (true≢false is)
fits-of limit columns false is = ltb-false limit columns is

are-from : (room : Room) (is_first : Bool) (line : Parts) (segments : List Segment) → IsUnbroken line.first line.others
    → (0 < length line.others → columns_of (whole_of line).cells ≤ columns_in room is_first)
    → AreLines room is_first (parts_of line ++ segments) (parts_from room is_first line segments)
unfolding parts_from AreLines IsUnbroken
are-from room is_first line [] is fits =
    ([], (refl, (record { ends = is; fits = fits; full = λ next later same goes. absurd (omega (arith, ap length same)) }, refl)))
are-from room is_first line (next ∷ segments) is fits =
    on (ends_before (columns_in room is_first) (whole_of line) next) refl (are-from room (whole_of line).is_mandatory (alone next) segments tt (λ some. absurd (omega (arith, some))))
    (λ further within. are-from room is_first (with_next line next) segments further within)
  where
    columns : ℕ
    columns = columns_of ((whole_of line).cells ++ next.cells)

    on : (b : Bool) → ends_before (columns_in room is_first) (whole_of line) next ≡ b
        → AreLines room (whole_of line).is_mandatory (next ∷ segments) (parts_from room (whole_of line).is_mandatory (alone next) segments)
        → (IsUnbroken line.first (line.others ++ next ∷ []) → (0 < length (line.others ++ next ∷ []) → columns_of (whole line.first (line.others ++ next ∷ [])).cells ≤ columns_in room is_first)
        → AreLines room is_first (line.first ∷ (line.others ++ next ∷ []) ++ segments) (parts_from room is_first (with_next line next) segments))
        → AreLines room is_first (parts_of line ++ next ∷ segments)
        (if b then line ∷ parts_from room (whole_of line).is_mandatory (alone next) segments else parts_from room is_first (with_next line next) segments)
    on true ended anew further = (
      next ∷ segments,
      (
        refl,
        (
          record {
            ends = is;
            fits = fits;
            full = λ other later same goes. rw (← cons_head same) (full-of (columns_in room is_first) columns (whole_of line).is_mandatory ended goes);
          },
          anew,
        ),
      ),
    )
    on false ended anew further =
        rw (← append_assoc line.others (next ∷ []) segments)
        (further
        (unbroken-next line.first line.others next is (goes-of (columns_in room is_first) columns (whole_of line).is_mandatory ended))
        (λ some. rw (whole-next line.first line.others next) (fits-of (columns_in room is_first) columns (whole_of line).is_mandatory ended)))

-- ---- both together

pub one-wrapping : (room : Room) (segments : List Segment) → HasOneWrapping room segments
unfolding AreLines IsUnbroken lines_of whole
one-wrapping room [] = record { lines = []; are = refl; wrapped = refl; only = none }
  where
    none : (others : List Parts) → AreLines room true [] others → others ≡ []
    none [] are = refl
    none (one ∷ others) (later, (same, are)) = absurd (omega (arith, ap length same))
one-wrapping room (first ∷ segments) = record {
  lines = parts_from room true (alone first) segments;
  are = are-from room true (alone first) segments tt (λ some. absurd (omega (arith, some)));
  wrapped = parts-wrapped room true (alone first) segments;
  only = only;
}
  where
    only : (others : List Parts) → AreLines room true (first ∷ segments) others → others ≡ parts_from room true (alone first) segments
    only [] are = absurd (omega (arith, ap length are))
    only (one ∷ others) (later, (same, (are, lines))) =
        rw (cons_head same, cons_tail same)
        (sym (parts-on room true one.first [] one.others later are.ends are.fits ∙ only-from room true one later others are lines))
