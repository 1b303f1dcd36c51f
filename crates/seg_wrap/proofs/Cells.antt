-- The extent of one cell, and the bytes of a text's characters.
use Rattle.std.proofs.Common.{◌≡◌, ℕ, ◌+◌, ◌<◌, Bool, true, false, List, [], ◌∷◌, ◌++◌, length, map, refl, sym, ap, ◌∙◌, arith}
use Rattle.std.specs.Prelude.{if◌then◌else◌, ◌&&◌, encode_utf8, encode_utf8_all}
use Rattle.std.proofs.lemmas.List.{append_assoc, append-nil, length-append, map-append}
use Rattle.std.proofs.lemmas.Str.{encodes-append}
use Rattle.seg_text.specs.Decoding.{character_of}
use Rattle.seg_text.specs.Items.{Item, Text, code_points}
use Rattle.seg_wrap.specs.declared.wrap.extent.Extent.{Extent}
use Rattle.seg_wrap.specs.Walk.{line_extent}
use Rattle.seg_wrap.specs.Wrapping.{Cell, columns_of, total_of}

-- ---- one cell

abbrev extent : ℕ → ℕ → Bool → Extent
extent columns inner_columns is_trailing = record { columns = columns; inner_columns = inner_columns; is_trailing = is_trailing }

abbrev pub cell : ℕ → Bool → Cell
cell width is_trailing = record { width = width; is_trailing = is_trailing }

extent-one : (b : Bool) (w : ℕ) → extent (if b && true then 0 else w + 0) (w + 0) (b && true) ≡ extent (if b then 0 else w) w b
extent-one true w = ap (λ (n : ℕ). extent 0 n true) (omega arith)
extent-one false w = ap (λ (n : ℕ). extent n n false) (omega arith)

pub trailing-cell : (w : ℕ) (b : Bool) → b ≡ true → extent 0 w b ≡ line_extent (cell w b ∷ [])
unfolding columns_of total_of
trailing-cell w b is = sym (extent-one b w ∙ ap (λ (c : Bool). extent (if c then 0 else w) w b) is)

pub standing-cell : (w : ℕ) (b : Bool) → b ≡ false → extent w w b ≡ line_extent (cell w b ∷ [])
unfolding columns_of total_of
standing-cell w b is = sym (extent-one b w ∙ ap (λ (c : Bool). extent (if c then 0 else w) w b) is)

-- ---- the characters of a text as bytes

abbrev pub shown_of : List ℕ → List ℕ
shown_of cs = encode_utf8_all (map character_of cs)

-- a text was read up to what is left of it, and these are the bytes of what was read
pub record IsShowing (text rest : Text) (bytes : List ℕ) : Type 0 where
  pub read : List ℕ
  pub shown : bytes ≡ shown_of read
  pub characters : code_points text.items ≡ read ++ code_points rest.items

shown-append : (xs ys : List ℕ) → shown_of (xs ++ ys) ≡ shown_of xs ++ shown_of ys
shown-append xs ys = ap encode_utf8_all (map-append character_of xs ys) ∙ encodes-append (map character_of xs) (map character_of ys)

shown-one : (c : ℕ) → shown_of (c ∷ []) ≡ encode_utf8 (character_of c)
shown-one c = append-nil (encode_utf8 (character_of c))

characters-next : (text rest later : Text) (item : Item) (read : List ℕ) → code_points text.items ≡ read ++ code_points rest.items
    → rest.items ≡ item ∷ later.items → code_points text.items ≡ (read ++ item.1 ∷ []) ++ code_points later.items
characters-next text rest later item read is starts =
    is ∙ ap (λ (items : List Item). read ++ code_points items) starts ∙ sym (append_assoc read (item.1 ∷ []) (code_points later.items))

pub showing-next : (text rest later : Text) (item : Item) (character : ℕ) (before after : List ℕ) → IsShowing text rest before → rest.items ≡ item ∷ later.items
    → character ≡ character_of item.1 → after ≡ before ++ encode_utf8 character → IsShowing text later after
showing-next text rest later item character before after is starts of next = record {
  read = is.read ++ item.1 ∷ [];
  shown = rw (next, is.shown, of, shown-append is.read (item.1 ∷ []), shown-one item.1) refl;
  characters = characters-next text rest later item is.read is.characters starts;
}

pub showing-end : (text rest : Text) (bytes : List ℕ) → IsShowing text rest bytes → rest.items ≡ [] → bytes ≡ shown_of (code_points text.items)
showing-end text rest bytes is none =
    is.shown ∙ ap shown_of (sym (is.characters ∙ ap (λ (items : List Item). is.read ++ code_points items) none ∙ append-nil is.read))

-- where a character has no room after them, all of them have none
pub showing-full : (text rest later : Text) (item : Item) (character room : ℕ) (before : List ℕ) → IsShowing text rest before → rest.items ≡ item ∷ later.items
    → character ≡ character_of item.1 → room < length before + length (encode_utf8 character) → room < length (shown_of (code_points text.items))
showing-full text rest later item character room before is starts of full =
    let whole : shown_of (code_points text.items) ≡ shown_of (is.read ++ item.1 ∷ []) ++ shown_of (code_points later.items) =
    ap shown_of (characters-next text rest later item is.read is.characters starts) ∙ shown-append (is.read ++ item.1 ∷ []) (code_points later.items) in
    let read : shown_of (is.read ++ item.1 ∷ []) ≡ before ++ encode_utf8 character =
    shown-append is.read (item.1 ∷ []) ∙ rw (shown-one item.1, of, is.shown) refl in
    omega (
      arith,
      full,
      ap length whole,
      length-append (shown_of (is.read ++ item.1 ∷ [])) (shown_of (code_points later.items)),
      ap length read,
      length-append before (encode_utf8 character),
    )
