-- Patterns as a text: its first line names its encoding, and each other line says one thing or nothing.
use Rattle.std.specs.Prelude.{ℕ, ◌+◌, ◌-◌, ◌==◌, nat_eq, nat_le, Bool, true, not, ◌&&◌, ◌||◌, Option, Some, None, List, [], ◌∷◌, take, drop, length, slice_index, map, fold, codes, encode_utf8_all, if◌then◌else◌, ◌≡◌}
use Rattle.std.specs.Char.{is_ascii_digit, is_ascii_whitespace}
use Rattle.std.specs.Str.{is_utf8}
use Rattle.std.specs.List.{flat_map, list_all, list_any, starts_with, suffix_len}
use Rattle.std.specs.Option.{option_map_or}
use Rattle.seg_hyphens.specs.declared.fault.Fault.{Fault}
use Rattle.seg_hyphens.specs.declared.fault.Fault.TheVariants.{NotEncoding, NotUtf8, NotNumber, NextLevel, NoHyphen, NonStandard, Blank, NoLetters}
use Rattle.seg_hyphens.specs.declared.fault.HyphenationError.{HyphenationError}
use Rattle.seg_hyphens.specs.declared.fault.HyphenationError.TheVariants.{Memory, Text}
use Rattle.seg_hyphens.specs.declared.lines.Encoding.{Encoding}
use Rattle.seg_hyphens.specs.declared.lines.Encoding.TheVariants.{Latin1, Utf8}
use Rattle.seg_hyphens.specs.declared.lines.LineKind.{LineKind}
use Rattle.seg_hyphens.specs.declared.lines.LineKind.TheVariants.{Nothing, Left, Right, OfPattern, Faulty}
use Rattle.seg_hyphens.specs.Liang.{Hyphenation, Pattern}

-- ---- lines

-- a byte more before lines
abbrev pub longer : ℕ → List (List ℕ) → List (List ℕ)
longer byte [] = (byte ∷ []) ∷ []
longer byte (line ∷ more) = (byte ∷ line) ∷ more

-- the lines of a text, without the line feeds that end them
unfoldable pub lines : List ℕ → List (List ℕ)
lines [] = []
lines (byte ∷ bytes) = if byte == 10 then [] ∷ lines bytes else longer byte (lines bytes)

-- a line without the white space at its end
abbrev pub trimmed : List ℕ → List ℕ
trimmed line = take (length line - suffix_len is_ascii_whitespace line) line

-- the encoding that a line names
abbrev pub encoding_of : List ℕ → Option Encoding
encoding_of line =
    if starts_with nat_eq line (codes "UTF-8") && (length line == 5) then Some Utf8 else
    (if (starts_with nat_eq line (codes "ISO8859-1") && (length line == 9)) || (starts_with nat_eq line (codes "ISO-8859-1") && (length line == 10))
    then Some Latin1 else None)

-- a line in UTF-8
abbrev pub decoded : Encoding → List ℕ → List ℕ
decoded Utf8 line = line
decoded Latin1 line = encode_utf8_all line

-- ---- what a line says

abbrev pub is_comment : List ℕ → Bool
is_comment [] = true
is_comment (byte ∷ bytes) = (byte == 35) || (byte == 37)

-- a space and a digit from 1 to 9
abbrev pub number_of : List ℕ → Option ℕ
number_of rest = if (length rest == 2) && (slice_index rest 0 == 32) && nat_le 49 (slice_index rest 1) && nat_le (slice_index rest 1) 57
    then Some (slice_index rest 1 - 48) else None

abbrev pub left_kind : List ℕ → LineKind
left_kind line = option_map_or Left (number_of (drop 13 line)) (Faulty NotNumber)

abbrev pub right_kind : List ℕ → LineKind
right_kind line = option_map_or Right (number_of (drop 14 line)) (Faulty NotNumber)

abbrev pub is_blank : ℕ → Bool
is_blank byte = nat_le byte 32

abbrev pub kind_of_pattern : List ℕ → LineKind
kind_of_pattern line =
    if list_any (λ byte. byte == 47) line then Faulty NonStandard else
    (if list_any is_blank line then Faulty Blank else
    (if list_all is_ascii_digit line then Faulty NoLetters else OfPattern))

abbrev pub kind_of : List ℕ → LineKind
kind_of line =
    if is_comment line then Nothing else
    (if not (is_utf8 line) then Faulty NotUtf8 else
    (if starts_with nat_eq line (codes "LEFTHYPHENMIN") then left_kind line else
    (if starts_with nat_eq line (codes "RIGHTHYPHENMIN") then right_kind line else
    (if starts_with nat_eq line (codes "COMPOUNDLEFTHYPHENMIN") || starts_with nat_eq line (codes "COMPOUNDRIGHTHYPHENMIN") then Nothing else
    (if starts_with nat_eq line (codes "NEXTLEVEL") then Faulty NextLevel else
    (if starts_with nat_eq line (codes "NOHYPHEN") then Faulty NoHyphen else
    kind_of_pattern line))))))

-- one letter more before a pattern, and the digit before it
abbrev pub with_letter : ℕ → ℕ → Pattern → Pattern
with_letter digit letter pattern = record { letters = letter ∷ pattern.letters; digits = digit ∷ pattern.digits }

-- a pattern, where this digit stands before: of digits side by side the last counts, and where none stands it is 0
unfoldable pub pattern_of : ℕ → List ℕ → Pattern
pattern_of digit [] = record { letters = []; digits = digit ∷ [] }
pattern_of digit (byte ∷ bytes) = if is_ascii_digit byte then pattern_of (byte - 48) bytes else with_letter digit byte (pattern_of 0 bytes)

-- ---- what lines say

abbrev pub patterns_by : List ℕ → LineKind → List Pattern
patterns_by line OfPattern = pattern_of 0 line ∷ []
patterns_by line _ = []

abbrev pub left_by : ℕ → LineKind → ℕ
left_by before (Left number) = number
left_by before _ = before

abbrev pub right_by : ℕ → LineKind → ℕ
right_by before (Right number) = number
right_by before _ = before

-- the patterns of all lines, and the last numbers, or 2
abbrev pub hyphenation_of : List (List ℕ) → Hyphenation
hyphenation_of all = record {
  left = fold (λ before line. left_by before (kind_of line)) 2 all;
  right = fold (λ before line. right_by before (kind_of line)) 2 all;
  patterns = flat_map (λ line. patterns_by line (kind_of line)) all;
}

abbrev pub fault_by : ℕ → LineKind → Option (ℕ × Fault) → Option (ℕ × Fault)
fault_by number (Faulty fault) later = Some (number, fault)
fault_by number _ later = later

-- the first line that is at fault, where the first has this number
unfoldable pub first_fault : ℕ → List (List ℕ) → Option (ℕ × Fault)
first_fault number [] = None
first_fault number (line ∷ more) = fault_by number (kind_of line) (first_fault (number + 1) more)

-- ---- what a text says

-- the encoding that its first line names, and its other lines in UTF-8
abbrev pub text_encoding : List (List ℕ) → Option Encoding
text_encoding [] = None
text_encoding (first ∷ more) = encoding_of (trimmed first)

abbrev pub text_lines : Encoding → List (List ℕ) → List (List ℕ)
text_lines encoding all = map (λ line. decoded encoding (trimmed line)) (drop 1 all)

-- where a text is at fault
abbrev pub fault_in : List ℕ → Option (ℕ × Fault)
fault_in text = option_map_or (λ encoding. first_fault 2 (text_lines encoding (lines text))) (text_encoding (lines text)) (Some (1, NotEncoding))

-- how a text hyphenates
abbrev pub Says : List ℕ → Hyphenation → Type 0
Says text hyphenation = (encoding : Encoding) × ((text_encoding (lines text) ≡ Some encoding) × (hyphenation ≡ hyphenation_of (text_lines encoding (lines text))))

abbrev pub IsErrorOf : List ℕ → HyphenationError → Type 0
IsErrorOf text Memory = Unit {0}
IsErrorOf text (Text line fault) = fault_in text ≡ Some (line, fault)
