-- The columns of cells that are put together.
use Rattle.std.proofs.Common.{◌≡◌, ℕ, ◌+◌, ◌*◌, ◌≤◌, Bool, true, false, List, [], ◌∷◌, ◌++◌, length, refl, sym, ap, ◌∙◌, arith}
use Rattle.std.specs.Prelude.{if◌then◌else◌, ◌&&◌}
use Rattle.std.proofs.lemmas.List.Folds.{list_all-append}
use Rattle.std.proofs.lemmas.List.{append_assoc, append-nil, length-append, length-map, map-append}
use Rattle.unicode_width.proofs.Rules.{width_or_zero-le}
use Rattle.seg_text.specs.Decoding.{character_of}
use Rattle.seg_text.specs.Items.{IsRising, Item, Text, code_points, start_of}
use Rattle.seg_wrap.specs.declared.wrap.extent.Extent.{Extent}
use Rattle.seg_wrap.specs.Walk.{IsMeasuring, line_extent, joined_extents}
use Rattle.seg_wrap.specs.Wrapping.{Cell, are_trailing, by_characters, cell_of, columns_of, is_trailing_space, total_of, width_of}
use Rattle.seg_wrap.proofs.Places.{few-items}

pub total-append : (xs ys : List Cell) → total_of (xs ++ ys) ≡ total_of xs + total_of ys
unfolding total_of
total-append [] ys = omega arith
total-append (x ∷ xs) ys = rw (total-append xs ys) (omega arith)

trailing-append : (xs ys : List Cell) → are_trailing (xs ++ ys) ≡ (are_trailing xs && are_trailing ys)
trailing-append xs ys = list_all-append (λ (cell : Cell). cell.is_trailing) xs ys

-- where what follows is trailing white space, and where it isn't
pub columns-append : (xs ys : List Cell) → columns_of (xs ++ ys) ≡ (if are_trailing ys then columns_of xs else total_of xs + columns_of ys)
unfolding columns_of total_of
columns-append [] ys = on ys
  where
    by : (b : Bool) (n : ℕ) → (if b then 0 else n) ≡ (if b then 0 else 0 + (if b then 0 else n))
    by true n = refl
    by false n = omega arith

    on : (ys : List Cell) → columns_of ys ≡ (if are_trailing ys then 0 else 0 + columns_of ys)
    on [] = refl
    on (y ∷ ys) = by (are_trailing (y ∷ ys)) (y.width + columns_of ys)
columns-append (x ∷ xs) ys =
    rw (columns-append xs ys, trailing-append (x ∷ xs) ys)
    (by (are_trailing (x ∷ xs)) (are_trailing ys) x.width (columns_of xs) (total_of xs) (columns_of ys))
  where
    by : (b c : Bool) (w m t n : ℕ)
        → (if b && c then 0 else w + (if c then m else t + n)) ≡ (if c then (if b then 0 else w + m) else w + t + n)
    by true true w m t n = refl
    by true false w m t n = omega arith
    by false true w m t n = refl
    by false false w m t n = omega arith

pub extent-append : (xs ys : List Cell) → line_extent (xs ++ ys) ≡ joined_extents (line_extent xs) (line_extent ys)
extent-append xs ys = rw (columns-append xs ys, total-append xs ys, trailing-append xs ys) refl

pub columns-most : (cells : List Cell) → columns_of cells ≤ total_of cells
unfolding columns_of total_of
columns-most [] = omega arith
columns-most (cell ∷ cells) = by (are_trailing (cell ∷ cells)) (columns-most cells)
  where
    by : (b : Bool) → columns_of cells ≤ total_of cells → (if b then 0 else cell.width + columns_of cells) ≤ cell.width + total_of cells
    by true most = omega arith
    by false most = omega (arith, most)

-- with more cells there are no fewer columns
pub columns-grow : (xs ys : List Cell) → columns_of xs ≤ columns_of (xs ++ ys)
columns-grow xs ys = rw (columns-append xs ys) (by (are_trailing ys))
  where
    by : (b : Bool) → columns_of xs ≤ (if b then columns_of xs else total_of xs + columns_of ys)
    by true = omega arith
    by false = omega (arith, columns-most xs)

-- characters one by one
pub total-most : (cs : List ℕ) → total_of (by_characters cs) ≤ 3 * length cs
unfolding total_of
total-most [] = omega arith
total-most (c ∷ cs) = omega (arith, width_or_zero-le false (character_of c), total-most cs)

-- a character by itself
abbrev one_of : Bool → ℕ → Extent
one_of b w = record { columns = if b then 0 else w; inner_columns = w; is_trailing = b }

extent-one : (c : ℕ) → line_extent (cell_of c ∷ []) ≡ one_of (is_trailing_space c) (width_of c)
unfolding columns_of total_of
extent-one c = by (is_trailing_space c) (width_of c)
  where
    extent : ℕ → ℕ → Bool → Extent
    extent columns total b = record { columns = columns; inner_columns = total; is_trailing = b }

    by : (b : Bool) (w : ℕ) → extent (if b && true then 0 else w + 0) (w + 0) (b && true) ≡ one_of b w
    by true w = ap (λ (n : ℕ). extent 0 n true) (omega arith)
    by false w = ap (λ (n : ℕ). extent n n false) (omega arith)

extent-trailing : (c width : ℕ) → width ≡ width_of c → is_trailing_space c ≡ true → one_of true width ≡ line_extent (cell_of c ∷ [])
extent-trailing c width is does = sym (extent-one c ∙ rw (does, is) refl)

extent-standing : (c width : ℕ) → width ≡ width_of c → is_trailing_space c ≡ false → one_of false width ≡ line_extent (cell_of c ∷ [])
extent-standing c width is does = sym (extent-one c ∙ rw (does, is) refl)

-- a character after others
abbrev extent : ℕ → ℕ → Bool → Extent
extent columns inner_columns is_trailing = record { columns = columns; inner_columns = inner_columns; is_trailing = is_trailing }

pub followed-trailing : (before : Extent) (c width : ℕ) → width ≡ width_of c → is_trailing_space c ≡ true
    → extent before.columns (before.inner_columns + width) before.is_trailing ≡ joined_extents before (line_extent (cell_of c ∷ []))
followed-trailing before c width is does =
    ap (λ (b : Bool). extent before.columns (before.inner_columns + width) b) (same before.is_trailing) ∙ ap (λ (one : Extent). joined_extents before one) (extent-trailing c width is does)
  where
    same : (b : Bool) → b ≡ (b && true)
    same true = refl
    same false = refl

pub followed-standing : (before : Extent) (c width : ℕ) → width ≡ width_of c → is_trailing_space c ≡ false
    → extent (before.inner_columns + width) (before.inner_columns + width) false ≡ joined_extents before (line_extent (cell_of c ∷ []))
followed-standing before c width is does =
    ap (λ (b : Bool). extent (before.inner_columns + width) (before.inner_columns + width) b) (none before.is_trailing)
    ∙ ap (λ (one : Extent). joined_extents before one) (extent-standing c width is does)
  where
    none : (b : Bool) → false ≡ (b && false)
    none true = refl
    none false = refl

-- ---- a text is read item by item

pub measuring-next : (text rest later : Text) (item : Item) (before after : Extent) → IsMeasuring text rest before → rest.items ≡ item ∷ later.items
    → after ≡ joined_extents before (line_extent (cell_of item.1 ∷ [])) → IsMeasuring text later after
measuring-next text rest later item before after is starts next = record {
  read = is.read ++ item.1 ∷ [];
  measured = rw (next, is.measured, map-append cell_of is.read (item.1 ∷ [])) (sym (extent-append (by_characters is.read) (cell_of item.1 ∷ [])));
  characters = is.characters ∙ ap (λ (items : List Item). is.read ++ code_points items) starts ∙ sym (append_assoc is.read (item.1 ∷ []) (code_points later.items));
}

pub measuring-end : (text rest : Text) (extent : Extent) → IsMeasuring text rest extent → rest.items ≡ [] → extent ≡ line_extent (by_characters (code_points text.items))
measuring-end text rest extent is none =
    is.measured ∙ ap (λ (cs : List ℕ). line_extent (by_characters cs)) (sym (is.characters ∙ ap (λ (items : List Item). is.read ++ code_points items) none ∙ append-nil is.read))

-- what was read takes few columns
pub measuring-room : (text rest : Text) (extent : Extent) → IsRising text.items text.end → IsMeasuring text rest extent
    → extent.inner_columns + 3 * start_of text ≤ 3 * text.end
measuring-room text rest extent rises is =
    let all : length (code_points text.items) ≡ length is.read + length (code_points rest.items) = ap length is.characters ∙ length-append is.read (code_points rest.items) in
    rw is.measured (omega (arith, total-most is.read, all, length-map text.items (λ (item : Item). item.1), few-items text.items text.end rises))
