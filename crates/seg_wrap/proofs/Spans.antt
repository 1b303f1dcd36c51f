-- Where the lines of a paragraph stand.
use Rattle.std.proofs.Common.{◌≡◌, ℕ, ◌+◌, ◌-◌, ◌<◌, ◌≤◌, Bool, true, false, List, [], ◌∷◌, ◌++◌, length, take, drop, map, get_or, zero, suc, refl, sym, ap, ◌∙◌, subst, arith}
use Rattle.std.specs.Prelude.{Option, if◌then◌else◌, ◌&&◌}
use Rattle.std.specs.List.{list_all}
use Rattle.std.proofs.lemmas.List.{append-nil, append_assoc, drop-drop, drop-map, drop_all, get_or-drop, length-append, length-drop, length-map, take-map}
use Rattle.std.proofs.lemmas.List.Elements.{All-cons}
use Rattle.std.proofs.lemmas.List.Folds.{list_all-append}
use Rattle.seg_balance.specs.declared.balance.Limits.{Limits}
use Rattle.seg_balance.specs.declared.balance.MeasuredLine.{MeasuredLine}
use Rattle.seg_balance.specs.declared.balance.MeasuredSegment.{MeasuredSegment}
use Rattle.seg_balance.specs.Balanced.{AreFilled, AreLines, ends, ends_hyphenated, ends_mandatory, line_columns, lines_after, shown_columns, with_hyphen}
use Rattle.seg_hyphens.specs.declared.patterns.HyphenationPatterns.{HyphenationPatterns}
use Rattle.seg_text.specs.declared.boundary.Boundary.{Boundary}
use Rattle.seg_text.specs.Items.{Item, Text, rest_after, start_of}
use Rattle.seg_wrap.specs.declared.wrap.measure.Measuring.{Measuring}
use Rattle.seg_wrap.specs.declared.wrap.paragraphs.Fit.{Fit}
use Rattle.seg_wrap.specs.declared.wrap.paragraphs.Fit.TheVariants.{Balanced, First}
use Rattle.seg_wrap.specs.declared.wrap.paragraphs.ParagraphStyle.{ParagraphStyle}
use Rattle.seg_wrap.specs.declared.wrap.wrapping.Piece.{Piece}
use Rattle.seg_wrap.specs.declared.wrap.wrapping.Span.{Span}
use Rattle.seg_wrap.specs.Paragraphs.{AreChosen, AreParts, GivesParagraph, Part, joined, limits_of, lines_with, measured, spans_of}
use Rattle.seg_wrap.specs.Pieces.{ArePartsOf, ArePieces, EndWithPieces, IsParagraph, last_of, measured_piece, part_at, parts_at, rest_behind, spans_at}
use Rattle.seg_wrap.specs.Walk.{measure_of}
use Rattle.seg_wrap.specs.Wrapping.{Cell, Measure, Segment, are_trailing, characters_before, columns_of, rest_from, segments_from, total_of}
use Rattle.seg_wrap.proofs.Extents.{columns-append, columns-most}
use Rattle.seg_wrap.proofs.Pieces.{next-of, pieces-measured}
use Rattle.seg_wrap.proofs.Places.{rest-of-characters}

-- ---- parts as one

trailing-joined : (parts : List Part) → are_trailing (joined parts).cells ≡ list_all (λ (later : MeasuredSegment). later.is_blank) (map measured parts)
unfolding joined
trailing-joined [] = refl
trailing-joined (part ∷ []) = on (are_trailing part.segment.cells)
  where
    on : (b : Bool) → b ≡ (b && true)
    on true = refl
    on false = refl
trailing-joined (part ∷ next ∷ parts) =
    list_all-append (λ (cell : Cell). cell.is_trailing) part.segment.cells (joined (next ∷ parts)).cells
    ∙ ap (λ (b : Bool). are_trailing part.segment.cells && b) (trailing-joined (next ∷ parts))

-- the columns of a line are those of its cells
pub columns-joined : (parts : List Part) → line_columns (map measured parts) ≡ columns_of (joined parts).cells
unfolding joined line_columns columns_of
columns-joined [] = refl
columns-joined (part ∷ []) = refl
columns-joined (part ∷ next ∷ parts) =
    sym
    (columns-append cells (joined (next ∷ parts)).cells
    ∙ ap (λ (b : Bool). if b then columns_of cells else total_of cells + columns_of (joined (next ∷ parts)).cells) (trailing-joined (next ∷ parts))
    ∙ ap (λ (n : ℕ). if blank then columns_of cells else total_of cells + n) (sym (columns-joined (next ∷ parts)))
    ∙ ap (λ (n : ℕ). if blank then columns_of cells else n + line_columns (map measured (next ∷ parts))) inner)
  where
    cells : List Cell
    cells = part.segment.cells

    blank : Bool
    blank = list_all (λ (later : MeasuredSegment). later.is_blank) (map measured (next ∷ parts))

    inner : total_of cells ≡ columns_of cells + (total_of cells - columns_of cells)
    inner = omega (arith, columns-most cells)

pub rest-joined : (measure : Measure) (text : Text) (pieces : List Piece)
    → rest_after (length (joined (parts_at measure text pieces)).characters) text ≡ rest_behind text pieces
unfolding joined parts_at rest_behind
rest-joined measure text [] = refl
rest-joined measure text (piece ∷ []) = rest-of-characters text piece.end
rest-joined measure text (piece ∷ next ∷ pieces) =
    ap (λ (n : ℕ). rest_after n text) (length-append (characters_before piece.end text) later.characters)
    ∙ ap (λ (items : List Item). record { items = items; end = text.end })
    (sym (drop-drop (length later.characters) (length (characters_before piece.end text)) text.items))
    ∙ ap (λ (t : Text). rest_after (length later.characters) t) (rest-of-characters text piece.end)
    ∙ rest-joined measure (rest_from piece.end text) (next ∷ pieces)
  where
    later : Segment
    later = joined (parts_at measure (rest_from piece.end text) (next ∷ pieces))

-- ---- the first so many pieces

take-pieces : (measure : Measure) (text : Text) (count : ℕ) (pieces : List Piece)
    → take count (parts_at measure text pieces) ≡ parts_at measure text (take count pieces)
unfolding parts_at
take-pieces measure text zero pieces = refl
take-pieces measure text (suc count) [] = refl
take-pieces measure text (suc count) (piece ∷ pieces) =
    ap (λ (later : List Part). part_at measure text piece ∷ later) (take-pieces measure (rest_from piece.end text) count pieces)

drop-pieces : (measure : Measure) (text : Text) (count : ℕ) (pieces : List Piece)
    → drop count (parts_at measure text pieces) ≡ parts_at measure (rest_behind text (take count pieces)) (drop count pieces)
unfolding parts_at rest_behind
drop-pieces measure text zero pieces = refl
drop-pieces measure text (suc count) [] = refl
drop-pieces measure text (suc count) (piece ∷ pieces) = drop-pieces measure (rest_from piece.end text) count pieces

are-dropped : (measure : Measure) (text : Text) (count : ℕ) (pieces : List Piece) → ArePieces measure text pieces
    → ArePieces measure (rest_behind text (take count pieces)) (drop count pieces)
unfolding ArePieces rest_behind
are-dropped measure text zero pieces are = are
are-dropped measure text (suc count) [] are = tt
are-dropped measure text (suc count) (piece ∷ pieces) are = are-dropped measure (rest_from piece.end text) count pieces are.1

-- the last of them ends where what is left begins
last-end : (measure : Measure) (text : Text) (count : ℕ) (pieces : List Piece) → ArePieces measure text pieces → 0 < count → count ≤ length pieces
    → (last_of count pieces).end ≡ start_of (rest_behind text (take count pieces))
unfolding ArePieces rest_behind
last-end measure text zero pieces are some within = absurd (omega (arith, some))
last-end measure text (suc count) [] are some within = absurd (omega (arith, within))
last-end measure text (suc zero) (piece ∷ pieces) are some within = are.0.at
last-end measure text (suc (suc count)) (piece ∷ pieces) are some within =
    ap (λ (n : ℕ). (get_or (piece ∷ pieces) n (last_of 0 [])).end) two
    ∙ ap (λ (n : ℕ). (get_or pieces n (last_of 0 [])).end) (sym one)
    ∙ last-end measure (rest_from piece.end text) (suc count) pieces are.1 (omega (arith)) (omega (arith, within))
  where
    two : suc (suc count) - 1 ≡ suc count
    two = omega (arith)

    one : suc count - 1 ≡ count
    one = omega (arith)

last-mandatory : (measure : Measure) (text : Text) (count : ℕ) (pieces : List Piece) → 0 < count → count ≤ length pieces
    → (last_of count pieces).is_mandatory ≡ (joined (parts_at measure text (take count pieces))).is_mandatory
unfolding joined parts_at
last-mandatory measure text zero pieces some within = absurd (omega (arith, some))
last-mandatory measure text (suc count) [] some within = absurd (omega (arith, within))
last-mandatory measure text (suc zero) (piece ∷ pieces) some within = refl
last-mandatory measure text (suc (suc count)) (piece ∷ []) some within = absurd (omega (arith, within))
last-mandatory measure text (suc (suc count)) (piece ∷ next ∷ pieces) some within =
    ap (λ (n : ℕ). (get_or (piece ∷ next ∷ pieces) n (last_of 0 [])).is_mandatory) two
    ∙ ap (λ (n : ℕ). (get_or (next ∷ pieces) n (last_of 0 [])).is_mandatory) (sym one)
    ∙ last-mandatory measure (rest_from piece.end text) (suc count) (next ∷ pieces) (omega (arith)) (omega (arith, within))
  where
    two : suc (suc count) - 1 ≡ suc count
    two = omega (arith)

    one : suc count - 1 ≡ count
    one = omega (arith)

-- and it says whether a hyphen is shown
last-hyphen : (measure : Measure) (text : Text) (count : ℕ) (pieces : List Piece) → 0 < count → count ≤ length pieces
    → (last_of count pieces).is_hyphenated ≡ ends_hyphenated (map measured (parts_at measure text (take count pieces)))
unfolding ends parts_at
last-hyphen measure text zero pieces some within = absurd (omega (arith, some))
last-hyphen measure text (suc count) [] some within = absurd (omega (arith, within))
last-hyphen measure text (suc zero) (piece ∷ pieces) some within = refl
last-hyphen measure text (suc (suc count)) (piece ∷ []) some within = absurd (omega (arith, within))
last-hyphen measure text (suc (suc count)) (piece ∷ next ∷ pieces) some within =
    ap (λ (n : ℕ). (get_or (piece ∷ next ∷ pieces) n (last_of 0 [])).is_hyphenated) two
    ∙ ap (λ (n : ℕ). (get_or (next ∷ pieces) n (last_of 0 [])).is_hyphenated) (sym one)
    ∙ last-hyphen measure (rest_from piece.end text) (suc count) (next ∷ pieces) (omega (arith)) (omega (arith, within))
  where
    two : suc (suc count) - 1 ≡ suc count
    two = omega (arith)

    one : suc count - 1 ≡ count
    one = omega (arith)

last-dropped : (skipped count : ℕ) (pieces : List Piece) → 0 < count → last_of (skipped + count) pieces ≡ last_of count (drop skipped pieces)
last-dropped skipped count pieces some =
    ap (λ (n : ℕ). get_or pieces n (last_of 0 [])) (omega (arith, some)) ∙ sym (get_or-drop skipped pieces (count - 1) (last_of 0 []))

length-parts : (measure : Measure) (text : Text) (pieces : List Piece) → length (map measured (parts_at measure text pieces)) ≡ length pieces
unfolding parts_at
length-parts measure text [] = refl
length-parts measure text (piece ∷ pieces) = ap (λ (n : ℕ). suc n) (length-parts measure (rest_from piece.end text) pieces)

-- ---- the lines

abbrev measured_at : Measure → Text → List Piece → List MeasuredSegment
measured_at measure text pieces = map measured (parts_at measure text pieces)

drop-measured : (measure : Measure) (text : Text) (count : ℕ) (pieces : List Piece)
    → drop count (measured_at measure text pieces) ≡ measured_at measure (rest_behind text (take count pieces)) (drop count pieces)
drop-measured measure text count pieces = drop-map measured count (parts_at measure text pieces) ∙ ap (map measured) (drop-pieces measure text count pieces)

-- a line of some parts, and what follows it
abbrev spanned : ℕ → Bool → ℕ → ℕ → Bool → Bool → List Span → List Span
spanned start is_first end columns hyphen mark later =
    record { start = start; end = end; columns = columns; is_first = is_first; is_hyphenated = hyphen; is_mandatory = mark } ∷ later

span-same : (start : ℕ) (is_first : Bool) {end end2 columns columns2 : ℕ} {hyphen hyphen2 mark mark2 : Bool} {later later2 : List Span}
    → end ≡ end2 → columns ≡ columns2 → hyphen ≡ hyphen2 → mark ≡ mark2 → later ≡ later2
    → spanned start is_first end columns hyphen mark later ≡ spanned start is_first end2 columns2 hyphen2 mark2 later2
span-same start is_first end-is columns-is hyphen-is mark-is later-is = rw (end-is, columns-is, hyphen-is, mark-is, later-is) refl

shown-measured : (parts : List Part) (count : ℕ)
    → shown_columns (take count (map measured parts)) ≡ with_hyphen (columns_of (joined (take count parts)).cells) (ends_hyphenated (map measured (take count parts)))
shown-measured parts count =
    ap shown_columns (take-map measured count parts)
    ∙ ap (λ (n : ℕ). with_hyphen n (ends_hyphenated (map measured (take count parts)))) (columns-joined (take count parts))

spans-from : (measure : Measure) (limits : Limits) (begins is_first : Bool) (skipped : ℕ) (all pieces : List Piece) (text : Text) (counts : List ℕ)
    → pieces ≡ drop skipped all → ArePieces measure text pieces → AreLines limits begins (measured_at measure text pieces) counts
    → spans_at is_first (start_of text) all (lines_after skipped (measured_at measure text pieces) counts)
    ≡ spans_of text (lines_with is_first counts (parts_at measure text pieces))
unfolding AreLines lines_after lines_with spans_at spans_of
spans-from measure limits begins is_first skipped all pieces text [] same are lines = refl
spans-from measure limits begins is_first skipped all pieces text (count ∷ counts) same are lines =
    span-same (start_of text) is_first end (shown-measured (parts_at measure text pieces) count)
    (ap (λ (one : Piece). one.is_hyphenated) last ∙ last-hyphen measure text count pieces some within ∙ ap (λ (ps : List Part). ends_hyphenated (map measured ps)) (sym taken))
    (ap (λ (one : Piece). one.is_mandatory) last ∙ last-mandatory measure text count pieces some within ∙ ap (λ (ps : List Part). (joined ps).is_mandatory) (sym taken))
    (rw (end-there, rest-is, drop-measured measure text count pieces, drop-pieces measure text count pieces)
    (spans-from measure limits (ends_mandatory (take count (measured_at measure text pieces))) false (skipped + count) all (drop count pieces) there counts
    (ap (drop count) same ∙ drop-drop count skipped all) (are-dropped measure text count pieces are)
    (subst (λ (left : List MeasuredSegment). AreLines limits (ends_mandatory (take count (measured_at measure text pieces))) left counts) (drop-measured measure text count pieces) lines.1)))
  where
    some : 0 < count
    some = lines.0.some

    within : count ≤ length pieces
    within = omega (arith, lines.0.within, length-parts measure text pieces)

    there : Text
    there = rest_behind text (take count pieces)

    last : last_of (skipped + count) all ≡ last_of count pieces
    last = last-dropped skipped count all some ∙ ap (λ (qs : List Piece). last_of count qs) (sym same)

    taken : take count (parts_at measure text pieces) ≡ parts_at measure text (take count pieces)
    taken = take-pieces measure text count pieces

    rest-is : rest_after (length (joined (take count (parts_at measure text pieces))).characters) text ≡ there
    rest-is = ap (λ (ps : List Part). rest_after (length (joined ps).characters) text) taken ∙ rest-joined measure text (take count pieces)

    end-there : (last_of (skipped + count) all).end ≡ start_of there
    end-there = ap (λ (one : Piece). one.end) last ∙ last-end measure text count pieces are some within

    end : (last_of (skipped + count) all).end ≡ start_of (rest_after (length (joined (take count (parts_at measure text pieces))).characters) text)
    end = end-there ∙ ap start_of (sym rest-is)

ends-from : (limits : Limits) (begins : Bool) (skipped : ℕ) (all : List Piece) (segments : List MeasuredSegment) (counts : List ℕ)
    → segments ≡ drop skipped (map measured_piece all) → skipped ≤ length all → AreLines limits begins segments counts
    → EndWithPieces all (lines_after skipped segments counts)
unfolding AreLines lines_after
ends-from limits begins skipped all segments [] same under lines = λ k default below. absurd (omega (arith, below))
ends-from limits begins skipped all segments (count ∷ counts) same under lines =
    All-cons (λ (line : MeasuredLine). (0 < line.end) × (line.end ≤ length all)) _ _
    (omega (arith, lines.0.some), within)
    (ends-from limits (ends_mandatory (take count segments)) (skipped + count) all (drop count segments) counts
    (ap (drop count) same ∙ drop-drop count skipped (map measured_piece all)) within lines.1)
  where
    within : skipped + count ≤ length all
    within = omega (arith, lines.0.within, ap length same, length-drop skipped (map measured_piece all), length-map all measured_piece, under)

-- filled lines are lines
filled-are : (limits : Limits) (begins : Bool) (segments : List MeasuredSegment) (counts : List ℕ) → AreFilled limits begins segments counts
    → AreLines limits begins segments counts
unfolding AreFilled AreLines
filled-are limits begins segments [] filled = filled
filled-are limits begins segments (count ∷ counts) filled =
    (filled.0.is, filled-are limits (ends_mandatory (take count segments)) (drop count segments) counts filled.1)

-- lines that are chosen are lines
pub chosen-are : (fit : Fit) (limits : Limits) (segments : List MeasuredSegment) (counts : List ℕ) → AreChosen fit limits segments counts → AreLines limits true segments counts
chosen-are First limits segments counts chosen = filled-are limits true segments counts chosen
chosen-are Balanced limits segments counts chosen = chosen.are

-- ---- as the code has them

pub spans-next : (first now : Bool) (start here : ℕ) (pieces : List Piece) (lines : List MeasuredLine) (index : ℕ) (default : MeasuredLine) (spans more : List Span)
    → spans_at first start pieces lines ≡ spans ++ spans_at now here pieces (drop index lines) → index < length lines
    → more ≡ spans ++ record {
      start = here;
      end = (last_of (get_or lines index default).end pieces).end;
      columns = (get_or lines index default).columns;
      is_first = now;
      is_hyphenated = (last_of (get_or lines index default).end pieces).is_hyphenated;
      is_mandatory = (last_of (get_or lines index default).end pieces).is_mandatory;
    } ∷ []
    → spans_at first start pieces lines ≡ more ++ spans_at false (last_of (get_or lines index default).end pieces).end pieces (drop (index + 1) lines)
unfolding spans_at
spans-next first now start here pieces lines index default spans more owed below pushed =
    owed
    ∙ ap (λ (left : List MeasuredLine). spans ++ spans_at now here pieces left) (next-of lines index default below)
    ∙ sym (append_assoc spans _ _)
    ∙ ap (λ (found : List Span). found ++ spans_at false (last_of (get_or lines index default).end pieces).end pieces (drop (index + 1) lines)) (sym pushed)

pub spans-end : (first now : Bool) (start here : ℕ) (pieces : List Piece) (lines : List MeasuredLine) (index : ℕ) (spans : List Span)
    → spans_at first start pieces lines ≡ spans ++ spans_at now here pieces (drop index lines) → length lines ≤ index → spans ≡ spans_at first start pieces lines
unfolding spans_at
spans-end first now start here pieces lines index spans owed past =
    sym (owed ∙ ap (λ (left : List MeasuredLine). spans ++ spans_at now here pieces left) (drop_all index lines past) ∙ append-nil spans)

-- lines that were chosen end with parts
pub lines-end : (fit : Fit) (limits : Limits) (pieces : List Piece) (segments handed : List MeasuredSegment) (lines : List MeasuredLine)
    → segments ≡ map measured_piece pieces → handed ≡ segments
    → ((counts : List ℕ) × (AreChosen fit limits handed counts × (lines ≡ lines_after 0 handed counts))) → EndWithPieces pieces lines
lines-end fit limits pieces segments handed lines is handed-is (counts, (chosen, lines-are)) =
    rw lines-are (ends-from limits true 0 pieces handed counts (handed-is ∙ is) (omega (arith)) (chosen-are fit limits handed counts chosen))

-- the places of lines that were chosen
pub lines-given : (fit : Fit) (limits : Limits) (pieces : List Piece) (segments handed : List MeasuredSegment) (lines handed-lines : List MeasuredLine) (start : ℕ) (spans : List Span)
    → segments ≡ map measured_piece pieces → handed ≡ segments → handed-lines ≡ lines
    → ((counts : List ℕ) × (AreChosen fit limits handed counts × (lines ≡ lines_after 0 handed counts))) → spans ≡ spans_at true start pieces handed-lines
    → (counts : List ℕ) × (AreChosen fit limits (map measured_piece pieces) counts × (spans ≡ spans_at true start pieces (lines_after 0 (map measured_piece pieces) counts)))
lines-given fit limits pieces segments handed lines handed-lines start spans is handed-is lines-handed (counts, (chosen, lines-are)) spans-are =
    let same : handed ≡ map measured_piece pieces = handed-is ∙ is in (
      counts,
      (
        subst (λ (found : List MeasuredSegment). AreChosen fit limits found counts) same chosen,
        spans-are ∙ ap (λ (found : List MeasuredLine). spans_at true start pieces found) (lines-handed ∙ lines-are)
            ∙ ap (λ (found : List MeasuredSegment). spans_at true start pieces (lines_after 0 found counts)) same,
      ),
    )

-- the lines of a paragraph whose parts stand so
pub given-paragraph : (measuring : Measuring) (patterns : Option HyphenationPatterns) (style : ParagraphStyle) (text rest : Text) (before given boundaries : List Boundary) (pieces parts handed : List Piece) (start : ℕ) (spans : List Span)
    → given ≡ before → IsParagraph (measure_of measuring) text (segments_from (measure_of measuring) text given) pieces rest boundaries → ArePartsOf patterns (measure_of measuring) text pieces parts
    → start ≡ start_of text → handed ≡ parts
    → ((counts : List ℕ) × (AreChosen style.fit (limits_of style.room) (map measured_piece handed) counts
    × (spans ≡ spans_at true start handed (lines_after 0 (map measured_piece handed) counts))))
    → GivesParagraph patterns (record { text = text; segments = segments_from (measure_of measuring) text before; measuring = measuring; style = style }) spans
    (record { text = rest; segments = segments_from (measure_of measuring) rest boundaries; measuring = measuring; style = style })
given-paragraph measuring patterns style text rest before given boundaries pieces parts handed start spans before-is is are start-is handed-is (counts, (chosen, spans-are)) = record {
  parts = parts_at measure text parts;
  are = rw (← before-is) (subst (λ (found : List Segment). AreParts patterns measure found (parts_at measure text parts)) is.first are.cut);
  lines = lines_with true counts (parts_at measure text parts);
  chosen = (counts, (subst (λ (found : List MeasuredSegment). AreChosen style.fit (limits_of style.room) found counts) handed-same chosen, refl));
  stand =
      spans-are
      ∙ ap (λ (n : ℕ). spans_at true n handed (lines_after 0 (map measured_piece handed) counts)) start-is
      ∙ ap (λ (ps : List Piece). spans_at true (start_of text) ps (lines_after 0 (map measured_piece handed) counts)) handed-is
      ∙ ap (λ (found : List MeasuredSegment). spans_at true (start_of text) parts (lines_after 0 found counts)) handed-same
      ∙ spans-from measure (limits_of style.room) true true 0 parts parts text counts refl are.are
      (chosen-are style.fit (limits_of style.room) (measured_at measure text parts) counts
      (subst (λ (found : List MeasuredSegment). AreChosen style.fit (limits_of style.room) found counts) handed-same chosen));
  text = is.rest_is ∙ sym are.rest ∙ sym (rest-joined measure text parts);
  segments = rw (← before-is) is.behind;
  measuring = refl;
  style = refl;
}
  where
    measure : Measure
    measure = measure_of measuring

    same : map measured_piece parts ≡ measured_at measure text parts
    same = pieces-measured measure text parts are.are

    handed-same : map measured_piece handed ≡ measured_at measure text parts
    handed-same = ap (map measured_piece) handed-is ∙ same
