-- Lines of a text, one after another.
use Rattle.std.proofs.Common.{◌≡◌, ℕ, ◌+◌, ◌≤◌, List, [], ◌∷◌, length, refl, sym, ap, ◌∙◌, arith}
use Rattle.std.specs.Prelude.{Option, Some, None}
use Rattle.std.specs.Str.{IsCharBoundary, IsUtf8}
use Rattle.std.proofs.lemmas.List.{drop-drop}
use Rattle.seg_text.specs.Items.{IsRising, Text, rest_after, start_of}
use Rattle.seg_text.specs.Decoding.{utf8, utf8_items}
use Rattle.seg_text.proofs.Places.{IsRising-drop}
use Rattle.seg_text.proofs.Str.{seek-boundary}
use Rattle.seg_wrap.specs.declared.wrap.wrapping.Span.{Span}
use Rattle.seg_wrap.specs.Walk.{GivesLine, LinesLeft}
use Rattle.seg_lines.specs.Between.{between}
use Rattle.seg_wrap.specs.Wrapping.{count_before, rest_from, text_lines}
use Rattle.seg_wrap.proofs.Places.{place-grows, place-within, rest-at}

-- what is left of a text is what stands from its place on
abbrev pub IsRestOf : Text → Text → Type 0
IsRestOf whole text = text ≡ rest_from (start_of text) whole

rest-after : (whole : Text) (k : ℕ) → IsRising whole.items whole.end → IsRestOf whole (rest_after k whole)
rest-after whole k rises = sym (rest-at whole k rises)

-- so many items further on
further : (whole text : Text) (taken : ℕ) → IsRestOf whole text → (k : ℕ) × (rest_after taken text ≡ rest_after k whole)
further whole text taken is =
    let count : ℕ = count_before (start_of text) whole in
    (_, ap (rest_after taken) is ∙ ap (λ (items : List _). record { items = items; end = whole.end }) (drop-drop taken count whole.items))

pub rest-next : (whole : Text) (before after : LinesLeft) (result : Option Span) → IsRising whole.items whole.end → IsRestOf whole before.text
    → GivesLine before result after → IsRestOf whole after.text
rest-next whole before after None rises is gives = rw gives.1 is
rest-next whole before after (Some span) rises is gives =
    let found = further whole before.text (length gives.0.characters) is in
    let there : after.text ≡ rest_after found.0 whole = gives.1.1.0 ∙ found.1 in
    rw there (rest-after whole found.0 rises)

-- ---- the line that is given

rises-left : (whole text : Text) → IsRising whole.items whole.end → IsRestOf whole text → IsRising text.items text.end
rises-left whole text rises is = rw is (IsRising-drop whole.items whole.end (count_before (start_of text) whole) rises)

pub span-order : (whole : Text) (before after : LinesLeft) (span : Span) → IsRising whole.items whole.end → IsRestOf whole before.text
    → GivesLine before (Some span) after → span.start ≤ span.end
span-order whole before after span rises is gives =
    omega (arith, gives.1.1.1.0, gives.1.1.1.1.0, ap start_of gives.1.1.0, place-grows before.text.items before.text.end (length gives.0.characters) (rises-left whole before.text rises is))

pub place-boundary : (bytes : List ℕ) (place : ℕ) → IsUtf8 bytes → place ≡ start_of (rest_from place (utf8 bytes)) → IsCharBoundary bytes place
unfolding utf8_items
place-boundary bytes place utf8 is = seek-boundary (count_before place (record { items = utf8_items 0 bytes; end = 0 + length bytes })) place 0 bytes (omega arith) utf8 is

pub start-place : (whole : Text) (before after : LinesLeft) (span : Span) → IsRestOf whole before.text → GivesLine before (Some span) after
    → span.start ≡ start_of (rest_from span.start whole)
start-place whole before after span is gives = rw gives.1.1.1.0 (ap start_of is)

pub end-place : (whole : Text) (before after : LinesLeft) (span : Span) → IsRising whole.items whole.end → IsRestOf whole before.text
    → GivesLine before (Some span) after → span.end ≡ start_of (rest_from span.end whole)
end-place whole before after span rises is gives = rw gives.1.1.1.1.0 (ap start_of (rest-next whole before after (Some span) rises is gives))

pub end-within : (whole : Text) (before after : LinesLeft) (span : Span) → IsRising whole.items whole.end → IsRestOf whole before.text
    → GivesLine before (Some span) after → span.end ≤ whole.end
end-within whole before after span rises is gives =
    let left = rest-next whole before after (Some span) rises is gives in
    let later = IsRising-drop whole.items whole.end (count_before (start_of after.text) whole) rises in
    omega (arith, gives.1.1.1.1.0, ap start_of left, place-within (rest_from (start_of after.text) whole).items whole.end later)

pub lines-next : (units : List ℕ) (before after : LinesLeft) (span : Span) → GivesLine before (Some span) after
    → text_lines units before.text before.lines
    ≡ record { units = between span.start span.end units; columns = span.columns; is_first = span.is_first; is_mandatory = span.is_mandatory } ∷ text_lines units after.text after.lines
unfolding text_lines
lines-next units before after span (line, (lines, (rest, (start, (end, (columns, (first, (hyphen, mark)))))))) =
    rw (lines, start, end, columns, first, mark, rest) refl

pub lines-none : (units : List ℕ) (before after : LinesLeft) → GivesLine before None after
    → (text_lines units before.text before.lines ≡ []) × (text_lines units after.text after.lines ≡ [])
unfolding text_lines
lines-none units before after (lines, same) = (rw lines refl, rw (same, lines) refl)
