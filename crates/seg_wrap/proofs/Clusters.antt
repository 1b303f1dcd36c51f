-- The cells of the clusters of a text.
use Rattle.std.proofs.Common.{◌≡◌, ℕ, zero, suc, ◌+◌, ◌-◌, ◌*◌, ◌^◌, ◌<◌, ◌≤◌, Bool, true, false, List, [], ◌∷◌, ◌++◌, length, map, take, drop, refl, sym, ap, ◌∙◌, subst, arith}
use Rattle.std.specs.Prelude.{Option, Some, None, nat_lt, ◌&&◌, if◌then◌else◌, chars, encode_utf8, IsUtf8}
use Rattle.std.specs.List.{list_all}
use Rattle.std.proofs.lemmas.Bool.{le-ltb, lt-ltb, ltb-false, ltb-true}
use Rattle.std.proofs.lemmas.List.{append_assoc, append-nil, drop-drop, length-append, length-map}
use Rattle.std.proofs.lemmas.Str.{chars_from_encodes, length-encode, len_utf8_bounds}
use Rattle.unicode_width.specs.Width.{str_width}
use Rattle.seg_text.specs.declared.boundary.Boundary.{Boundary}
use Rattle.seg_text.specs.Boundaries.{GivesNext, IsCover, Remainder, RisesTo, boundary, boundary_in}
use Rattle.seg_text.specs.Decoding.{character_of}
use Rattle.seg_text.specs.Items.{IsRising, Item, Text, code_points, place_of, rest_after, start_of, text_before}
use Rattle.seg_text.proofs.Places.{IsRising-drop, code_points-drop}
use Rattle.seg_clusters.specs.Rules.{Rules, boundaries_by, boundaries_of}
use Rattle.seg_wrap.specs.declared.wrap.extent.Extent.{Extent}
use Rattle.seg_wrap.specs.Walk.{joined_extents, line_extent}
use Rattle.seg_lines.specs.Between.{between}
use Rattle.seg_wrap.specs.Wrapping.{Cell, are_trailing, by_characters, by_clusters, cluster_cell, cluster_width, is_trailing_space, parts_at, total_of}
use Rattle.seg_wrap.proofs.Cells.{cell, shown_of}
use Rattle.seg_wrap.proofs.Extents.{columns-most, extent-append}
use Rattle.seg_wrap.proofs.Places.{few-items, place-grows, place-within, start-before}

-- ---- one cluster

trailing-characters : (cs : List ℕ) → are_trailing (by_characters cs) ≡ list_all is_trailing_space cs
trailing-characters [] = refl
trailing-characters (c ∷ cs) = ap (λ (b : Bool). is_trailing_space c && b) (trailing-characters cs)

-- its cell has the width that was found, and the mark of its characters
pub cluster-measured : (cs : List ℕ) (characters result : Extent) (width : ℕ) → characters ≡ line_extent (by_characters cs) → width ≡ cluster_width cs
    → result ≡ line_extent (cell width characters.is_trailing ∷ []) → result ≡ line_extent (cluster_cell cs ∷ [])
cluster-measured cs characters result width are wide is =
    let trailing : characters.is_trailing ≡ list_all is_trailing_space cs = ap (λ (extent : Extent). extent.is_trailing) are ∙ trailing-characters cs in
    is ∙ ap (λ (b : Bool). line_extent (cell width b ∷ [])) trailing ∙ ap (λ (w : ℕ). line_extent (cell w (list_all is_trailing_space cs) ∷ [])) wide

-- the width of a cluster is that of its characters as a str, where this has at most 128 bytes
pub width-shown : (cs bytes : List ℕ) (width : ℕ) → IsUtf8 bytes → bytes ≡ shown_of cs → length bytes ≤ 128 → width ≡ str_width false (chars bytes)
    → width ≡ cluster_width cs
width-shown cs bytes width is shown few wide =
    let fits : nat_lt 128 (length (shown_of cs)) ≡ false = le-ltb 128 (length (shown_of cs)) (omega (arith, few, ap length shown)) in
    let characters : map character_of cs ≡ chars bytes = chars_from_encodes (map character_of cs) bytes is (sym shown) in
    wide ∙ ap (str_width false) (sym characters) ∙ sym (ap (λ (b : Bool). if b then total_of (by_characters cs) else str_width false (map character_of cs)) fits)

-- and the sum of its characters' where it has more
pub width-summed : (cs : List ℕ) (characters : Extent) → characters ≡ line_extent (by_characters cs) → 128 < length (shown_of cs)
    → characters.inner_columns ≡ cluster_width cs
width-summed cs characters are many =
    let fits : nat_lt 128 (length (shown_of cs)) ≡ true = lt-ltb 128 (length (shown_of cs)) many in
    ap (λ (extent : Extent). extent.inner_columns) are
    ∙ sym (ap (λ (b : Bool). if b then total_of (by_characters cs) else str_width false (map character_of cs)) fits)

shown-length : (cs : List ℕ) → length (shown_of cs) ≤ 4 * length cs
shown-length [] = omega arith
shown-length (c ∷ cs) =
    omega (
      arith,
      shown-length cs,
      length-append (encode_utf8 (character_of c)) (shown_of cs),
      length-encode (character_of c),
      (len_utf8_bounds (character_of c)).1,
    )

one-width : (width : ℕ) (b : Bool) → (line_extent (cell width b ∷ [])).inner_columns ≡ width
unfolding total_of
one-width width b = omega arith

pub small-shown : (text : Text) (bytes : List ℕ) (result : Extent) (width : ℕ) (b : Bool) → IsRising text.items text.end → bytes ≡ shown_of (code_points text.items)
    → width ≤ 2 * length bytes → result ≡ line_extent (cell width b ∷ []) → result.inner_columns + 8 * start_of text ≤ 8 * text.end
small-shown text bytes result width b rises shown few is =
    omega (
      arith,
      few,
      ap length shown,
      shown-length (code_points text.items),
      length-map text.items (λ (item : Item). item.1),
      few-items text.items text.end rises,
      ap (λ (extent : Extent). extent.inner_columns) is,
      one-width width b,
    )

pub small-summed : (text : Text) (characters result : Extent) (width : ℕ) (b : Bool) → IsRising text.items text.end
    → characters.inner_columns + 3 * start_of text ≤ 3 * text.end → width ≡ characters.inner_columns → result ≡ line_extent (cell width b ∷ [])
    → result.inner_columns + 8 * start_of text ≤ 8 * text.end
small-summed text characters result width b rises few summed is =
    omega (
      arith,
      few,
      place-within text.items text.end rises,
      ap (λ (extent : Extent). extent.inner_columns) is,
      one-width width b,
      summed,
    )

-- ---- cluster by cluster

-- a text was read up to what is left of it, and these boundaries: this is the extent of the clusters that were read
pub record IsClustering (rules : Rules) (whole rest : Text) (boundaries : Remainder) (extent : Extent) : Type 0 where
  pub from : ℕ
  pub counted : List Boundary
  pub read : List Cell
  pub at : rest ≡ rest_after from whole
  pub left : boundaries.left ≡ map (boundary_in whole) counted
  pub climbs : RisesTo (start_of rest) boundaries.left whole.end
  pub measured : extent ≡ line_extent read
  pub cells : read ++ map cluster_cell (parts_at (code_points whole.items) from counted) ≡ by_clusters rules (code_points whole.items)
  pub small : extent.inner_columns + 8 * start_of whole ≤ 8 * start_of rest

-- the next boundary ends a cluster of so many items
pub record IsNextCluster (whole rest : Text) (from : ℕ) (counted : List Boundary) (place : ℕ) (left : List Boundary) : Type 0 where
  pub one : Boundary
  pub later : List Boundary
  pub count : ℕ
  pub counted_is : counted ≡ one ∷ later
  pub left_is : left ≡ map (boundary_in whole) later
  pub some : 0 < count
  pub offset : count ≡ one.offset - from
  pub rest_is : rest_after count rest ≡ rest_after one.offset whole
  pub at : place ≡ start_of (rest_after count rest)
  pub after : start_of rest < place
  pub within : place ≤ whole.end
  pub climbs : RisesTo place left whole.end

place-order : (items : List Item) (end m n : ℕ) → IsRising items end → m ≤ n → place_of (drop m items) end ≤ place_of (drop n items) end
place-order items end m n rises within =
    let on : drop (n - m) (drop m items) ≡ drop n items = drop-drop (n - m) m items ∙ ap (λ (k : ℕ). drop k items) (omega (arith, within)) in
    omega (arith, place-grows (drop m items) end (n - m) (IsRising-drop items end m rises), ap (λ (xs : List Item). place_of xs end) on)

abbrev first_place : List Boundary → ℕ
first_place [] = 0
first_place (one ∷ boundaries) = one.offset

begins : (rules : Rules) (text : Text) (before after : Remainder) (given : Option ℕ) → before.left ≡ boundaries_of rules text
    → IsCover (start_of text) text.end before.left → GivesNext before given after → IsClustering rules text text after (line_extent [])
unfolding total_of
begins rules text before after given left cover gives = on given gives
  where
    on : (given : Option ℕ) → GivesNext before given after → IsClustering rules text text after (line_extent [])
    on None gives = absurd (omega (arith, ap length (sym left ∙ gives.0)))
    on (Some place) gives =
        let covers : IsCover (start_of text) text.end (boundary place after.status ∷ after.left) = subst (IsCover (start_of text) text.end) gives cover in
        record {
          from = 0;
          counted = drop 1 (boundaries_by rules (code_points text.items));
          read = [];
          at = refl;
          left = ap (drop 1) (sym gives ∙ left);
          climbs = covers.1;
          measured = refl;
          cells = refl;
          small = omega arith;
        }

-- where the start was given, nothing was read
pub starts : (rules : Rules) (text other : Text) (before after : Remainder) (given : Option ℕ) (extent : Extent) → other ≡ text → extent ≡ line_extent []
    → before.left ≡ boundaries_of rules other → IsCover (start_of other) other.end before.left → GivesNext before given after
    → IsClustering rules text text after extent
starts rules text other before after given extent same none left cover gives =
    subst (λ (t : Text). IsClustering rules t t after extent) same
    (subst (λ (e : Extent). IsClustering rules other other after e) (sym none) (begins rules other before after given left cover gives))

pub next-cluster : (rules : Rules) (whole rest : Text) (before after : Remainder) (extent : Extent) (place : ℕ) → IsRising whole.items whole.end
    → (is : IsClustering rules whole rest before extent) → GivesNext before (Some place) after
    → IsNextCluster whole rest is.from is.counted place after.left
next-cluster rules whole rest before after extent place rises is gives = on is.counted is.left
  where
    on : (counted : List Boundary) → before.left ≡ map (boundary_in whole) counted → IsNextCluster whole rest is.from counted place after.left
    on [] left = absurd (omega (arith, ap length (sym left ∙ gives)))
    on (one ∷ later) left =
        let same : map (boundary_in whole) (one ∷ later) ≡ boundary place after.status ∷ after.left = sym left ∙ gives in
        let place_is : start_of (rest_after one.offset whole) ≡ place = ap first_place same in
        let climbs : RisesTo (start_of rest) (boundary place after.status ∷ after.left) whole.end =
        subst (λ (boundaries : List Boundary). RisesTo (start_of rest) boundaries whole.end) gives is.climbs in
        let further : is.from < one.offset = by one place_is climbs.0 (nat_lt is.from one.offset) refl in
        let count : ℕ = one.offset - is.from in
        let rest_is : rest_after count rest ≡ rest_after one.offset whole =
        ap (rest_after count) is.at
        ∙ ap (with_items whole.end) (drop-drop count is.from whole.items ∙ ap (λ (k : ℕ). drop k whole.items) (omega (arith, further))) in
        record {
          one = one;
          later = later;
          count = count;
          counted_is = refl;
          left_is = sym (ap (drop 1) same);
          some = omega (arith, further);
          offset = refl;
          rest_is = rest_is;
          at = sym place_is ∙ ap start_of (sym rest_is);
          after = climbs.0;
          within = omega (arith, place_is, place-within (drop one.offset whole.items) whole.end (IsRising-drop whole.items whole.end one.offset rises));
          climbs = climbs.1;
        }
      where
        with_items : ℕ → List Item → Text
        with_items end items = record { items = items; end = end }

        by : (one : Boundary) → start_of (rest_after one.offset whole) ≡ place → start_of rest < place → (b : Bool) → nat_lt is.from one.offset ≡ b → is.from < one.offset
        by one place_is climbs true passes = ltb-true is.from one.offset passes
        by one place_is climbs false fails =
            absurd (omega (arith, place-order whole.items whole.end one.offset is.from rises (ltb-false is.from one.offset fails), place_is, climbs, ap start_of is.at))

code_points-take : (n : ℕ) (items : List Item) → code_points (take n items) ≡ take n (code_points items)
code_points-take zero items = refl
code_points-take (suc n) [] = refl
code_points-take (suc n) (item ∷ items) = ap (λ (cs : List ℕ). item.1 ∷ cs) (code_points-take n items)

-- its characters are those of the part
part-is : (whole rest : Text) (from count : ℕ) → rest ≡ rest_after from whole
    → code_points (take count rest.items) ≡ take count (drop from (code_points whole.items))
part-is whole rest from count at =
    ap (λ (text : Text). code_points (take count text.items)) at
    ∙ code_points-take count (drop from whole.items)
    ∙ ap (take count) (code_points-drop from whole.items)

pub clustering-next : (rules : Rules) (whole rest behind : Text) (before after : Remainder) (extent one both : Extent) (place : ℕ)
    → (is : IsClustering rules whole rest before extent) (next : IsNextCluster whole rest is.from is.counted place after.left)
    → both ≡ joined_extents extent one → behind ≡ rest_after next.count rest → one ≡ line_extent (cluster_cell (code_points (take next.count rest.items)) ∷ [])
    → one.inner_columns + 8 * start_of (text_before next.count rest) ≤ 8 * start_of (rest_after next.count rest)
    → IsClustering rules whole behind after both
unfolding parts_at
clustering-next rules whole rest behind before after extent one both place is next joined goes measured small =
    let cs : List ℕ = code_points whole.items in
    let found : Cell = cluster_cell (code_points (take next.count rest.items)) in
    let part : code_points (take next.count rest.items) ≡ between is.from next.one.offset cs =
    part-is whole rest is.from next.count is.at ∙ ap (λ (n : ℕ). take n (drop is.from cs)) next.offset in
    record {
      from = next.one.offset;
      counted = next.later;
      read = is.read ++ found ∷ [];
      at = goes ∙ next.rest_is;
      left = next.left_is;
      climbs = subst (λ (from : ℕ). RisesTo from after.left whole.end) (next.at ∙ ap start_of (sym goes)) next.climbs;
      measured = joined ∙ rw (measured, is.measured) (sym (extent-append is.read (found ∷ [])));
      cells = append_assoc is.read (found ∷ []) (map cluster_cell (parts_at cs next.one.offset next.later))
          ∙ ap (λ (characters : List ℕ). is.read ++ cluster_cell characters ∷ map cluster_cell (parts_at cs next.one.offset next.later)) part
          ∙ ap (λ (boundaries : List Boundary). is.read ++ map cluster_cell (parts_at cs is.from boundaries)) (sym next.counted_is)
          ∙ is.cells;
      small = omega (arith, is.small, small, start-before next.count rest next.some, ap start_of goes, ap (λ (extent : Extent). extent.inner_columns) joined);
    }

-- its extent has room after those before it
pub clustering-room : (rules : Rules) (whole rest : Text) (before after : Remainder) (extent one : Extent) (place : ℕ)
    → (is : IsClustering rules whole rest before extent) (next : IsNextCluster whole rest is.from is.counted place after.left) → whole.end < 2 ^ 64
    → one.inner_columns + 8 * start_of (text_before next.count rest) ≤ 8 * start_of (rest_after next.count rest)
    → extent.inner_columns + one.inner_columns < 2 ^ 128
clustering-room rules whole rest before after extent one place is next short small =
    omega (arith, is.small, next.at, next.after, next.within, short, small)

pub cluster-within : (one : Extent) (cs : List ℕ) → one ≡ line_extent (cluster_cell cs ∷ []) → one.columns ≤ one.inner_columns
cluster-within one cs is = rw is (columns-most (cluster_cell cs ∷ []))

pub clustering-end : (rules : Rules) (whole rest : Text) (before : Remainder) (extent : Extent) → IsClustering rules whole rest before extent → before.left ≡ []
    → extent ≡ line_extent (by_clusters rules (code_points whole.items))
unfolding parts_at
clustering-end rules whole rest before extent is none = on is.counted is.left is.cells
  where
    all : List Cell
    all = by_clusters rules (code_points whole.items)

    on : (counted : List Boundary) → before.left ≡ map (boundary_in whole) counted
        → is.read ++ map cluster_cell (parts_at (code_points whole.items) is.from counted) ≡ by_clusters rules (code_points whole.items)
        → extent ≡ line_extent (by_clusters rules (code_points whole.items))
    on [] left cells = is.measured ∙ ap line_extent (sym (append-nil is.read) ∙ cells)
    on (one ∷ later) left cells = absurd (omega (arith, ap length (sym left ∙ none)))

pub clustering-small : (rules : Rules) (whole rest : Text) (before : Remainder) (extent : Extent) → IsRising whole.items whole.end → IsClustering rules whole rest before extent
    → extent.inner_columns + 8 * start_of whole ≤ 8 * whole.end
clustering-small rules whole rest before extent rises is =
    omega (arith, is.small, ap start_of is.at, place-within (drop is.from whole.items) whole.end (IsRising-drop whole.items whole.end is.from rises))
