-- Parts of a text, between the points where its words are hyphenated.
use Rattle.std.proofs.Common.{◌≡◌, ℕ, zero, suc, ◌+◌, ◌-◌, ◌<◌, ◌≤◌, Bool, true, false, List, [], ◌∷◌, ◌++◌, length, take, drop, get_or, refl, sym, ap, ◌∙◌, subst, arith}
use Rattle.std.specs.Prelude.{Option, Some, None}
use Rattle.std.specs.List.{All}
use Rattle.std.specs.List.Sorted.{IsStrictlyIncreasing}
use Rattle.std.proofs.lemmas.List.{append-nil, append_assoc, drop-drop, length-drop, take-map, take-take}
use Rattle.std.proofs.lemmas.List.Elements.{All-get_or, All-head, All-tail}
use Rattle.seg_hyphens.specs.declared.patterns.HyphenationPatterns.{HyphenationPatterns}
use Rattle.seg_hyphens.specs.Words.{AreWordPoints, PlacesIn, places_behind}
use Rattle.seg_lines.specs.Between.{between}
use Rattle.seg_text.specs.Items.{IsRising, Item, Text, code_points, place_of, rest_after, start_of, text_before}
use Rattle.seg_text.proofs.Places.{IsRising-drop, code_points-drop}
use Rattle.seg_wrap.specs.declared.wrap.wrapping.Piece.{Piece}
use Rattle.seg_wrap.specs.Paragraphs.{AreHyphens, AreParts, Part, cut_at}
use Rattle.seg_wrap.specs.Pieces.{ArePartsOf, ArePieces, ArePlacesInside, PushesPart, PushesParts, counts_at, part_at, parts_at, rest_behind, segments_at}
use Rattle.seg_wrap.specs.Walk.{IsFirstSegment, segment_at}
use Rattle.seg_wrap.specs.Wrapping.{Measure, Segment, characters_before, count_before, rest_from, segment_of}
use Rattle.seg_wrap.proofs.Pieces.{are-more, parts-more, rest-more, segments-more}
use Rattle.seg_wrap.proofs.Places.{count-before-on, count-within, place-grows, rest-at, rest-on}

-- ---- places and counts

-- as many items begin before an item's place as stand before it
count-at : (text : Text) (count : ℕ) → IsRising text.items text.end → count ≤ length text.items → count_before (start_of (rest_after count text)) text ≡ count
count-at text count rises within =
    omega (
      arith,
      ap (λ (t : Text). length t.items) (rest-at text count rises),
      length-drop (count_before (start_of (rest_after count text)) text) text.items,
      length-drop count text.items,
      count-within text (start_of (rest_after count text)),
      within,
    )

-- an item's place is what it was in a text that ends behind it
place-before : (items : List Item) (end count most : ℕ) → count < most → place_of (drop count (take most items)) (place_of (drop most items) end) ≡ place_of (drop count items) end
place-before items end count zero under = absurd (omega (arith, under))
place-before [] end zero (suc most) under = refl
place-before [] end (suc count) (suc most) under = refl
place-before (item ∷ items) end zero (suc most) under = refl
place-before (item ∷ items) end (suc count) (suc most) under = place-before items end count most (omega (arith, under))

-- these are in order, above one number and below another
abbrev AreAbove : ℕ → ℕ → List ℕ → Type 0
AreAbove low high [] = Unit {0}
AreAbove low high (count ∷ counts) = (low < count) × (count < high) × AreAbove count high counts

next-in : (count : ℕ) (counts : List ℕ) (k : ℕ) → get_or (count ∷ counts) (k + 1) 0 ≡ get_or counts k 0
next-in count counts k = ap (λ (n : ℕ). get_or (count ∷ counts) n 0) one
  where
    one : k + 1 ≡ suc k
    one = omega (arith)

are-above : (low high : ℕ) (counts : List ℕ) → IsStrictlyIncreasing counts → (0 < length counts → low < get_or counts 0 0)
    → ((k : ℕ) → k < length counts → get_or counts k 0 < high) → AreAbove low high counts
are-above low high [] rises above below = tt
are-above low high (count ∷ counts) rises above below = (
  above (omega (arith)),
  below 0 (omega (arith)),
  are-above count high counts
      (λ k under. rw (← next-in count counts k, ← next-in count counts (k + 1)) (rises (k + 1) (omega (arith, under))))
      (λ some. rw (← next-in count counts 0) (rises 0 (omega (arith, some))))
      (λ k under. rw (← next-in count counts k) (below (k + 1) (omega (arith, under)))),
)

-- places of items that stand so are inside
inside-from : (text : Text) (low high : ℕ) (counts : List ℕ) → IsRising text.items text.end → high ≤ length text.items → AreAbove low high counts
    → ArePlacesInside text low high (places_behind (text_before high text) counts) × (counts_at text (places_behind (text_before high text) counts) ≡ counts)
unfolding ArePlacesInside
inside-from text low high [] rises within above = (tt, refl)
inside-from text low high (count ∷ counts) rises within above =
    let place = place-before text.items text.end count high above.1 in
    let here = ap (λ (n : ℕ). count_before n text) place ∙ count-at text count rises (omega (arith, above.1, within)) in
    let later = inside-from text count high counts rises within above.2 in (
      (
        (place ∙ ap start_of (sym (ap (λ (n : ℕ). rest_after n text) here)), (omega (arith, here, above.0), omega (arith, here, above.1))),
        rw here later.0,
      ),
      ap (λ (n : ℕ). n ∷ counts_at text (places_behind (text_before high text) counts)) here ∙ ap (λ (ns : List ℕ). count ∷ ns) later.1,
    )

-- the characters before them
before-code : (text : Text) (count : ℕ) → code_points (text_before count text).items ≡ take count (code_points text.items)
before-code text count = sym (take-map (λ (item : Item). item.1) count text.items)

length-taken : (items : List Item) (count : ℕ) → count ≤ length items → length (take count items) ≡ count
length-taken items zero within = refl
length-taken [] (suc count) within = absurd (omega (arith, within))
length-taken (item ∷ items) (suc count) within = ap (λ (n : ℕ). suc n) (length-taken items count (omega (arith, within)))

-- the places that patterns find in a piece of a text are inside it, and stand behind its hyphens
pub inside-piece : (patterns : HyphenationPatterns) (text part : Text) (end : ℕ) (places : List ℕ) → IsRising text.items text.end
    → part ≡ text_before (count_before end text) text → PlacesIn patterns part places
    → ArePlacesInside text 0 (count_before end text) places × AreHyphens (Some patterns) (characters_before end text) (counts_at text places)
inside-piece patterns text part end places rises part-is found =
    (rw are inside.0, rw are (rw inside.1 (λ hyphenation means. subst (λ (cs : List ℕ). AreWordPoints hyphenation cs found.counts) characters (found.are hyphenation means))))
  where
    high : ℕ
    high = count_before end text

    within : high ≤ length text.items
    within = count-within text end

    characters : code_points part.items ≡ characters_before end text
    characters = ap (λ (t : Text). code_points t.items) part-is ∙ before-code text high

    long : length part.items ≡ high
    long = ap (λ (t : Text). length t.items) part-is ∙ length-taken text.items high within

    bounds : (k : ℕ) → k < length found.counts → (0 < get_or found.counts k 0) × (get_or found.counts k 0 < high)
    bounds k under = let known = All-get_or (λ (number : ℕ). (1 ≤ number) × (number < length part.items)) found.counts k 0 under found.rising.within in (omega (arith, known.0), omega (arith, known.1, long))

    above : AreAbove 0 high found.counts
    above = are-above 0 high found.counts found.rising.ordered (λ one. (bounds 0 one).0) (λ k under. (bounds k under).1)

    inside : ArePlacesInside text 0 high (places_behind (text_before high text) found.counts) × (counts_at text (places_behind (text_before high text) found.counts) ≡ found.counts)
    inside = inside-from text 0 high found.counts rises within above

    are : places ≡ places_behind (text_before high text) found.counts
    are = found.places_are ∙ ap (λ (t : Text). places_behind t found.counts) part-is

-- ---- parts of a list

between-take : (from count most : ℕ) (cs : List ℕ) → from + count ≤ most → take count (drop from (take most cs)) ≡ take count (drop from cs)
between-take zero count most cs within = take-take count most cs (omega (arith, within))
between-take (suc from) count zero cs within = absurd (omega (arith, within))
between-take (suc from) count (suc most) [] within = refl
between-take (suc from) count (suc most) (c ∷ cs) within = between-take from count most cs (omega (arith, within))

drop-take : (from most : ℕ) (cs : List ℕ) → from ≤ most → drop from (take most cs) ≡ take (most - from) (drop from cs)
drop-take zero most cs within = ap (λ (n : ℕ). take n cs) (minus most)
  where
    minus : (n : ℕ) → n ≡ n - 0
    minus n = omega (arith)
drop-take (suc from) zero cs within = absurd (omega (arith, within))
drop-take (suc from) (suc most) [] within = sym (none (suc most - suc from))
  where
    none : (n : ℕ) → take {A = ℕ} n [] ≡ []
    none zero = refl
    none (suc n) = refl
drop-take (suc from) (suc most) (c ∷ cs) within =
    drop-take from most cs (omega (arith, within)) ∙ ap (λ (n : ℕ). take n (drop from cs)) (less from most)
  where
    less : (a b : ℕ) → b - a ≡ suc b - suc a
    less a b = omega (arith)

-- ---- further on in a text

-- from one place on and then from a later one
on-from : (text : Text) (from place : ℕ) → IsRising text.items text.end → from ≤ length text.items → place ≡ start_of (rest_from place text)
    → from < count_before place text
    → (rest_from place (rest_after from text) ≡ rest_from place text)
    × ((count_before place (rest_after from text) ≡ count_before place text - from)
    × (characters_before place (rest_after from text) ≡ between from (count_before place text) (code_points text.items)))
on-from text from place rises within at under =
    let start : ℕ = start_of (rest_after from text) in
    let here : rest_from start text ≡ rest_after from text = rest-at text from rises in
    let more : from + (count_before place text - from) ≡ count_before place text = omega (arith, under) in
    let order : start ≤ place =
    omega (
      arith,
      place-grows (rest_after from text).items text.end (count_before place text - from) (IsRising-drop text.items text.end from rises),
      ap (λ (items : List Item). place_of items text.end)
          (drop-drop (count_before place text - from) from text.items ∙ ap (λ (n : ℕ). drop n text.items) more),
      at,
    ) in
    let counted : count_before place (rest_after from text) ≡ count_before place text - from =
    omega (
      arith,
      count-before-on text start place order,
      ap (λ (t : Text). count_before place t) here,
      count-at text from rises within,
    ) in (
      ap (rest_from place) (sym here) ∙ rest-on text start place order,
      (counted, ap (λ (n : ℕ). take n (code_points (drop from text.items))) counted ∙ ap (λ (cs : List ℕ). take (count_before place text - from) cs) (code_points-drop from text.items)),
    )

-- ---- a piece is cut

-- the parts of a piece up to here, and the places that are left of it
pub record IsCutting (measure : Measure) (text : Text) (piece : Piece) (all left : List ℕ) (old now : List Piece) (rest : Text) : Type 0 where
  pub from : ℕ
  pub added : List Piece
  pub pushed : now ≡ old ++ added
  pub are : ArePieces measure text added
  pub rest_is : rest ≡ rest_after from text
  pub behind : rest_behind text added ≡ rest
  pub under : from < count_before piece.end text
  pub inside : ArePlacesInside text from (count_before piece.end text) left
  pub cut : parts_at measure text added ++ cut_at measure from (counts_at text left) (segment_at measure text piece)
      ≡ cut_at measure 0 (counts_at text all) (segment_at measure text piece)

pub cutting-start : (measure : Measure) (text rest : Text) (piece : Piece) (all left : List ℕ) (old : List Piece) → IsFirstSegment measure text piece
    → ArePlacesInside text 0 (count_before piece.end text) all → left ≡ all → rest ≡ text → IsCutting measure text piece all left old old rest
unfolding ArePieces parts_at rest_behind
cutting-start measure text rest piece all left old first inside left-is rest-is = record {
  from = 0;
  added = [];
  pushed = sym (append-nil old);
  are = tt;
  rest_is = rest-is;
  behind = sym rest-is;
  under = first.some;
  inside = rw left-is inside;
  cut = ap (λ (places : List ℕ). cut_at measure 0 (counts_at text places) (segment_at measure text piece)) left-is;
}

-- where the next part ends
pub cutting-place : (measure : Measure) (text : Text) (piece : Piece) (all left : List ℕ) (place : ℕ) (later : List ℕ) (old now : List Piece) (rest : Text)
    → IsRising text.items text.end → IsCutting measure text piece all left old now rest → left ≡ place ∷ later
    → (0 < count_before place rest) × (place ≡ start_of (rest_from place rest))
unfolding ArePlacesInside
cutting-place measure text piece all left place later old now rest rises is left-is =
    let inside = subst (ArePlacesInside text is.from (count_before piece.end text)) left-is is.inside in
    let on = on-from text is.from place rises (omega (arith, is.under, count-within text piece.end)) inside.0.0 inside.0.1.0 in
    rw is.rest_is (omega (arith, on.1.0, inside.0.1.0), inside.0.0 ∙ ap start_of (sym on.0))

-- the next part was pushed
pub cutting-next : (measure : Measure) (text : Text) (piece part : Piece) (all left : List ℕ) (place : ℕ) (later : List ℕ) (old now more : List Piece) (rest there : Text)
    → IsRising text.items text.end → IsCutting measure text piece all left old now rest → left ≡ place ∷ later
    → PushesPart measure rest part now more → part.end ≡ place → part.is_hyphenated ≡ true → part.is_mandatory ≡ false → there ≡ rest_from part.end rest
    → IsCutting measure text piece all later old more there
unfolding ArePlacesInside cut_at
cutting-next measure text piece part all left place later old now more rest there rises is left-is pushes end-is hyphen mark there-is =
    let inside = subst (ArePlacesInside text is.from (count_before piece.end text)) left-is is.inside in
    let on = on-from text is.from place rises (omega (arith, is.under, count-within text piece.end)) inside.0.0 inside.0.1.0 in
    let end : pushes.added.end ≡ place = pushes.end ∙ end-is in
    let count : ℕ = count_before place text in
    let segment : Segment = segment_at measure text piece in
    let one : Part = record { segment = segment_of measure (between is.from count segment.characters) false; is_hyphenated = true } in
    let characters : characters_before pushes.added.end rest ≡ between is.from count segment.characters =
    ap (λ (n : ℕ). characters_before n rest) end ∙ ap (characters_before place) is.rest_is ∙ on.1.1
    ∙ sym (between-take is.from (count - is.from) (count_before piece.end text) (code_points text.items) (omega (arith, inside.0.1.0, inside.0.1.1))) in
    let part-is : part_at measure rest pushes.added ≡ one =
    rw (characters, pushes.hyphen ∙ hyphen, pushes.mandatory ∙ mark) refl in
    let here : rest_from pushes.added.end rest ≡ rest_from place text =
    ap (λ (n : ℕ). rest_from n rest) end ∙ ap (rest_from place) is.rest_is ∙ on.0 in
    record {
      from = count;
      added = is.added ++ pushes.added ∷ [];
      pushed = pushes.pushed ∙ ap (λ (ps : List Piece). ps ++ pushes.added ∷ []) is.pushed ∙ append_assoc old is.added (pushes.added ∷ []);
      are = are-more measure text is.added pushes.added is.are (subst (λ (t : Text). IsFirstSegment measure t pushes.added) (sym is.behind) pushes.is);
      rest_is = there-is ∙ ap (λ (n : ℕ). rest_from n rest) (sym pushes.end) ∙ here;
      behind = rest-more text is.added pushes.added ∙ ap (rest_from pushes.added.end) is.behind ∙ ap (λ (n : ℕ). rest_from n rest) pushes.end ∙ sym there-is;
      under = inside.0.1.1;
      inside = inside.1;
      cut =
          ap (λ (ps : List Part). ps ++ cut_at measure count (counts_at text later) segment)
          (parts-more measure text is.added pushes.added ∙ ap (λ (t : Text). parts_at measure text is.added ++ part_at measure t pushes.added ∷ []) is.behind
          ∙ ap (λ (p : Part). parts_at measure text is.added ++ p ∷ []) part-is)
          ∙ append_assoc (parts_at measure text is.added) (one ∷ []) (cut_at measure count (counts_at text later) segment)
          ∙ ap (λ (places : List ℕ). parts_at measure text is.added ++ cut_at measure is.from (counts_at text places) segment) (sym left-is)
          ∙ is.cut;
    }

-- where the last part ends
pub cutting-end : (measure : Measure) (text : Text) (piece : Piece) (all left : List ℕ) (old now : List Piece) (rest : Text)
    → IsRising text.items text.end → IsFirstSegment measure text piece → IsCutting measure text piece all left old now rest
    → (0 < count_before piece.end rest) × (piece.end ≡ start_of (rest_from piece.end rest))
cutting-end measure text piece all left old now rest rises first is =
    let on = on-from text is.from piece.end rises (omega (arith, is.under, count-within text piece.end)) first.at is.under in
    rw is.rest_is (omega (arith, on.1.0, is.under), first.at ∙ ap start_of (sym on.0))

-- the last part was pushed
pub cutting-last : (measure : Measure) (text : Text) (piece : Piece) (all left : List ℕ) (old now more : List Piece) (rest : Text)
    → IsRising text.items text.end → IsFirstSegment measure text piece → piece.is_hyphenated ≡ false → IsCutting measure text piece all left old now rest → left ≡ []
    → PushesPart measure rest piece now more → PushesParts measure text piece all old more
unfolding cut_at
cutting-last measure text piece all left old now more rest rises first whole is left-is pushes =
    let on = on-from text is.from piece.end rises (omega (arith, is.under, count-within text piece.end)) first.at is.under in
    let high : ℕ = count_before piece.end text in
    let segment : Segment = segment_at measure text piece in
    let one : Part = record { segment = segment_of measure (drop is.from segment.characters) segment.is_mandatory; is_hyphenated = false } in
    let characters : characters_before pushes.added.end rest ≡ drop is.from segment.characters =
    ap (λ (n : ℕ). characters_before n rest) pushes.end ∙ ap (characters_before piece.end) is.rest_is ∙ on.1.1
    ∙ sym (drop-take is.from high (code_points text.items) (omega (arith, is.under))) in
    let part-is : part_at measure rest pushes.added ≡ one = rw (characters, pushes.hyphen ∙ whole, pushes.mandatory) refl in
    let here : rest_from piece.end rest ≡ rest_from piece.end text = ap (rest_from piece.end) is.rest_is ∙ on.0 in
    record {
      added = is.added ++ pushes.added ∷ [];
      pushed = pushes.pushed ∙ ap (λ (ps : List Piece). ps ++ pushes.added ∷ []) is.pushed ∙ append_assoc old is.added (pushes.added ∷ []);
      are = are-more measure text is.added pushes.added is.are (subst (λ (t : Text). IsFirstSegment measure t pushes.added) (sym is.behind) pushes.is);
      cut =
          parts-more measure text is.added pushes.added
          ∙ ap (λ (t : Text). parts_at measure text is.added ++ part_at measure t pushes.added ∷ []) is.behind
          ∙ ap (λ (p : Part). parts_at measure text is.added ++ p ∷ []) part-is
          ∙ ap (λ (places : List ℕ). parts_at measure text is.added ++ cut_at measure is.from (counts_at text places) segment) (sym left-is)
          ∙ is.cut;
      rest = rest-more text is.added pushes.added ∙ ap (rest_from pushes.added.end) is.behind ∙ ap (λ (n : ℕ). rest_from n rest) pushes.end ∙ here;
    }

-- and the cursor went over the piece
pub cutting-rest : (measure : Measure) (text : Text) (piece : Piece) (all left : List ℕ) (old now : List Piece) (rest there : Text)
    → IsRising text.items text.end → IsFirstSegment measure text piece → IsCutting measure text piece all left old now rest
    → there ≡ rest_from piece.end rest → there ≡ rest_from piece.end text
cutting-rest measure text piece all left old now rest there rises first is there-is =
    let on = on-from text is.from piece.end rises (omega (arith, is.under, count-within text piece.end)) first.at is.under in
    there-is ∙ ap (rest_from piece.end) is.rest_is ∙ on.0

-- ---- pieces are cut, one after another

are-append : (measure : Measure) (text : Text) (pieces more : List Piece) → ArePieces measure text pieces → ArePieces measure (rest_behind text pieces) more
    → ArePieces measure text (pieces ++ more)
unfolding ArePieces rest_behind
are-append measure text [] more are these = these
are-append measure text (piece ∷ pieces) more are these = (are.0, are-append measure (rest_from piece.end text) pieces more are.1 these)

parts-append : (measure : Measure) (text : Text) (pieces more : List Piece)
    → parts_at measure text (pieces ++ more) ≡ parts_at measure text pieces ++ parts_at measure (rest_behind text pieces) more
unfolding parts_at rest_behind
parts-append measure text [] more = refl
parts-append measure text (piece ∷ pieces) more = ap (λ (later : List Part). part_at measure text piece ∷ later) (parts-append measure (rest_from piece.end text) pieces more)

rest-append : (text : Text) (pieces more : List Piece) → rest_behind text (pieces ++ more) ≡ rest_behind (rest_behind text pieces) more
unfolding rest_behind
rest-append text [] more = refl
rest-append text (piece ∷ pieces) more = rest-append (rest_from piece.end text) pieces more

-- one segment more is cut
cut-more : (patterns : Option HyphenationPatterns) (measure : Measure) (segments : List Segment) (segment : Segment) (parts : List Part) (counts : List ℕ)
    → AreParts patterns measure segments parts → AreHyphens patterns segment.characters counts
    → AreParts patterns measure (segments ++ segment ∷ []) (parts ++ cut_at measure 0 counts segment)
unfolding AreParts
cut-more patterns measure [] segment parts counts are hyphens =
    (counts, hyphens, [], ap (λ (ps : List Part). ps ++ cut_at measure 0 counts segment) are ∙ sym (append-nil (cut_at measure 0 counts segment)), refl)
cut-more patterns measure (one ∷ segments) segment parts counts (found, is, later, parts-are, are) hyphens = (
  found,
  is,
  later ++ cut_at measure 0 counts segment,
  ap (λ (ps : List Part). ps ++ cut_at measure 0 counts segment) parts-are
      ∙ append_assoc (cut_at measure 0 found one) later (cut_at measure 0 counts segment),
  cut-more patterns measure segments segment later counts are hyphens,
)

-- pieces up to here are cut
pub record IsParting (patterns : HyphenationPatterns) (measure : Measure) (text : Text) (taken left : List Piece) (parts : List Piece) (rest : Text) : Type 0 where
  pub made : ArePartsOf (Some patterns) measure text taken parts
  pub rest_is : rest ≡ rest_behind text taken
  pub left_are : ArePieces measure rest left

pub parting-start : (patterns : HyphenationPatterns) (measure : Measure) (text rest : Text) (pieces : List Piece) → ArePieces measure text pieces → rest ≡ text
    → IsParting patterns measure text [] pieces [] rest
unfolding ArePieces AreParts segments_at parts_at rest_behind
parting-start patterns measure text rest pieces are same = record {
  made = record { are = tt; cut = refl; rest = refl };
  rest_is = same;
  left_are = rw same are;
}

-- the next piece
pub parting-first : (patterns : HyphenationPatterns) (measure : Measure) (text : Text) (taken left later : List Piece) (piece : Piece) (parts : List Piece) (rest : Text)
    → IsParting patterns measure text taken left parts rest → left ≡ piece ∷ later → IsFirstSegment measure rest piece
unfolding ArePieces
parting-first patterns measure text taken left later piece parts rest is left-is = (subst (ArePieces measure rest) left-is is.left_are).0

pub parting-next : (patterns : HyphenationPatterns) (measure : Measure) (text : Text) (taken more-taken left later : List Piece) (piece : Piece) (places : List ℕ) (parts more : List Piece) (rest there : Text)
    → IsParting patterns measure text taken left parts rest → left ≡ piece ∷ later
    → AreHyphens (Some patterns) (characters_before piece.end rest) (counts_at rest places) → PushesParts measure rest piece places parts more
    → there ≡ rest_from piece.end rest → more-taken ≡ taken ++ piece ∷ [] → IsParting patterns measure text more-taken later more there
unfolding ArePieces
parting-next patterns measure text taken more-taken left later piece places parts more rest there is left-is hyphens pushes there-is taken-is =
    let here : rest_behind text parts ≡ rest = is.made.rest ∙ sym is.rest_is in
    let first = subst (ArePieces measure rest) left-is is.left_are in
    let cut = cut-more (Some patterns) measure (segments_at measure text taken) (segment_at measure rest piece) (parts_at measure text parts) (counts_at rest places) is.made.cut hyphens in
    rw taken-is (record {
      made = rw pushes.pushed (record {
        are = are-append measure text parts pushes.added is.made.are (subst (λ (t : Text). ArePieces measure t pushes.added) (sym here) pushes.are);
        cut = rw (
          segments-more measure text taken piece,
          ← is.rest_is,
          parts-append measure text parts pushes.added,
          here,
          pushes.cut,
        ) cut;
        rest =
            rest-append text parts pushes.added ∙ ap (λ (t : Text). rest_behind t pushes.added) here ∙ pushes.rest
            ∙ ap (rest_from piece.end) is.rest_is ∙ sym (rest-more text taken piece);
      });
      rest_is = there-is ∙ ap (rest_from piece.end) is.rest_is ∙ sym (rest-more text taken piece);
      left_are = rw there-is first.1;
    })

pub parting-end : (patterns : HyphenationPatterns) (measure : Measure) (text : Text) (pieces taken left : List Piece) (parts : List Piece) (rest : Text)
    → IsParting patterns measure text taken left parts rest → taken ≡ pieces → ArePartsOf (Some patterns) measure text pieces parts
parting-end patterns measure text pieces taken left parts rest is taken-is =
    subst (λ (all : List Piece). ArePartsOf (Some patterns) measure text all parts) taken-is is.made

-- ---- no hyphens

pub uncut : (measure : Measure) (text : Text) (pieces : List Piece) → ArePieces measure text pieces → All (λ (piece : Piece). piece.is_hyphenated ≡ false) pieces
    → AreParts None measure (segments_at measure text pieces) (parts_at measure text pieces)
unfolding ArePieces AreParts segments_at parts_at cut_at
uncut measure text [] are whole = refl
uncut measure text (piece ∷ pieces) are whole = (
  [],
  refl,
  parts_at measure (rest_from piece.end text) pieces,
  ap (λ (h : Bool). record { segment = segment_at measure text piece; is_hyphenated = h } ∷ parts_at measure (rest_from piece.end text) pieces)
      (All-head (λ (one : Piece). one.is_hyphenated ≡ false) piece pieces whole),
  uncut measure (rest_from piece.end text) pieces are.1 (All-tail (λ (one : Piece). one.is_hyphenated ≡ false) piece pieces whole),
)
