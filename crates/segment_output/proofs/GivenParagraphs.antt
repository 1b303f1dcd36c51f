-- Paragraphs that are given one after another, and their lines, which stay in the text.
use Rattle.std.proofs.Common.{◌≡◌, ℕ, zero, suc, ◌+◌, ◌<◌, ◌≤◌, ◌==◌, Bool, true, false, not, Option, List, [], ◌∷◌, ◌++◌, length, map, take, get_or, refl, sym, ap, ◌∙◌, subst, arith, append_assoc, append-nil, length-append, eqb-true}
use Rattle.std.specs.Io.KnownBytes.{Appends}
use Rattle.std.specs.List.{All, flat_map}
use Rattle.std.specs.Prelude.{if◌then◌else◌}
use Rattle.std.proofs.lemmas.List.Concat.{flat_map-append}
use Rattle.std.proofs.lemmas.List.Elements.{All-cons}
use Rattle.icu_segmenter.specs.Items.{IsRising, Text, rest_after}
use Rattle.icu_segmenter.specs.Paragraphs.{AreParts, GivesParagraph, ParagraphsLeft, Part, behind_paragraph, cut_at, first_paragraph, limits_of, lines_with, measured, spans_of}
use Rattle.icu_segmenter.specs.Wrapping.{Line, Measure, Segment}
use Rattle.icu_segmenter.specs.Balanced.{AreLines}
use Rattle.seg_balance.specs.declared.balance.Limits.{Limits}
use Rattle.seg_hyphens.specs.declared.patterns.HyphenationPatterns.{HyphenationPatterns}
use Rattle.seg_text.proofs.Places.{IsRising-drop}
use Rattle.seg_wrap.proofs.Places.{place-grows, place-within}
use Rattle.seg_wrap.proofs.Spans.{chosen-are}
use Rattle.seg_wrap.specs.Walk.{measure_of}
use Rattle.seg_wrap.specs.declared.wrap.wrapping.Span.{Span}
use Rattle.segment_output.specs.Paragraphs.{AddsParagraph, AppendsSome, GiveParagraphs, IsTextWithin, IsWrittenFrom, hyphen, shown_spans}
use Rattle.segment_output.specs.Gathered.{AreGathered}
use Rattle.segment_output.specs.Wrapped.{Wrapping}
use Rattle.segment_output.proofs.Gathered.{gathered-all, gathered-none, gathered-written}

-- ---- lists

flat-one : {X : Type 0} (f : X → List ℕ) (xs : List X) (x : X) → flat_map f (xs ++ x ∷ []) ≡ flat_map f xs ++ f x
flat-one f xs x = flat_map-append f xs (x ∷ []) ∙ ap (λ (more : List ℕ). flat_map f xs ++ more) (append-nil (f x))

gathered-more : {X : Type 0} (f : X → List ℕ) (done : List X) (x : X) (before after : List ℕ) (old new : Option (List ℕ)) → AreGathered old new before (flat_map f done)
    → after ≡ before ++ f x → AreGathered old new after (flat_map f (done ++ x ∷ []))
gathered-more f done x before after old new (written, appends, whole) more = (
  written,
  appends,
  ap (λ (bytes : List ℕ). written ++ bytes) more
      ∙ sym (append_assoc written before (f x))
      ∙ ap (λ (bytes : List ℕ). bytes ++ f x) whole
      ∙ sym (flat-one f done x),
)

take-suc : {X : Type 0} (xs : List X) (index : ℕ) (default : X) → index < length xs → take (suc index) xs ≡ take index xs ++ get_or xs index default ∷ []
take-suc [] index default below = absurd (omega (arith, below))
take-suc (x ∷ xs) zero default below = refl
take-suc (x ∷ xs) (suc index) default below = ap (λ (more : List _). x ∷ more) (take-suc xs index default (omega (arith, below)))

take-one : {X : Type 0} (xs : List X) (index : ℕ) (default : X) → index < length xs → take (index + 1) xs ≡ take index xs ++ get_or xs index default ∷ []
take-one xs index default below =
    let one : index + 1 ≡ suc index = omega arith in
    ap (λ (n : ℕ). take n xs) one ∙ take-suc xs index default below

-- one more is shown
pub shown-more : {X : Type 0} (f : X → List ℕ) (xs : List X) (index : ℕ) (default : X) (first before after : List ℕ) → index < length xs
    → before ≡ first ++ flat_map f (take index xs) → after ≡ before ++ f (get_or xs index default) → after ≡ first ++ flat_map f (take (index + 1) xs)
shown-more f xs index default first before after below so_far more =
    more
    ∙ ap (λ (bytes : List ℕ). bytes ++ f (get_or xs index default)) so_far
    ∙ append_assoc first (flat_map f (take index xs)) (f (get_or xs index default))
    ∙ ap (λ (bytes : List ℕ). first ++ bytes) (sym (flat-one f (take index xs) (get_or xs index default)))
    ∙ ap (λ (some : List _). first ++ flat_map f some) (sym (take-one xs index default below))

-- a line with its hyphen, and one without
pub with-hyphen : (line : List ℕ) (is_hyphenated : Bool) → is_hyphenated ≡ true → line ++ (if is_hyphenated then hyphen else []) ≡ line ++ hyphen
with-hyphen line is_hyphenated is = ap (λ (b : Bool). line ++ (if b then hyphen else [])) is

pub without-hyphen : (line : List ℕ) (is_hyphenated : Bool) → is_hyphenated ≡ false → line ++ (if is_hyphenated then hyphen else []) ≡ line
without-hyphen line is_hyphenated is = ap (λ (b : Bool). line ++ (if b then hyphen else [])) is ∙ append-nil line

-- ---- the lines of a paragraph stay in the text

stay : (text : Text) (lines : List Line) → IsRising text.items text.end → All (λ (span : Span). (span.start ≤ span.end) × (span.end ≤ text.end)) (spans_of text lines)
unfolding spans_of
stay text [] rises = λ k default below. absurd (omega (arith, below))
stay text (line ∷ lines) rises =
    let rest : Text = rest_after (length line.characters) text in
    let on : IsRising rest.items rest.end = IsRising-drop text.items text.end (length line.characters) rises in
    All-cons (λ (span : Span). (span.start ≤ span.end) × (span.end ≤ text.end)) _ _
    (place-grows text.items text.end (length line.characters) rises, place-within rest.items text.end on) (stay rest lines on)

module _ (patterns : Option HyphenationPatterns) (bytes : List ℕ) (before after : ParagraphsLeft) (spans : List Span) (gives : GivesParagraph patterns before spans after) where
  pub spans-stay : IsTextWithin bytes before.text → All (λ (span : Span). (span.start ≤ span.end) × (span.end ≤ length bytes)) spans
  spans-stay (rises, end) =
      subst (λ (n : ℕ). All (λ (span : Span). (span.start ≤ span.end) × (span.end ≤ n)) spans) end
      (subst (All (λ (span : Span). (span.start ≤ span.end) × (span.end ≤ before.text.end))) (sym gives.stand) (stay before.text gives.lines rises))

  pub rest-within : IsTextWithin bytes before.text → IsTextWithin bytes after.text
  rest-within (rises, end) = subst (IsTextWithin bytes) (sym gives.text) (IsRising-drop before.text.items before.text.end _ rises, end)

-- ---- where a paragraph has lines, fewer segments are left, and where it has none, no segment is

behind-short : (segments : List Segment) → length (behind_paragraph segments) ≤ length segments
unfolding behind_paragraph
behind-short [] = omega arith
behind-short (segment ∷ segments) = on segment.is_mandatory (behind-short segments)
  where
    on : (b : Bool) → length (behind_paragraph segments) ≤ length segments → length (if b then segments else behind_paragraph segments) ≤ length (segment ∷ segments)
    on true short = omega arith
    on false short = omega (arith, short)

behind-shorter : (segment : Segment) (segments : List Segment) → length (behind_paragraph (segment ∷ segments)) ≤ length segments
unfolding behind_paragraph
behind-shorter segment segments = on segment.is_mandatory
  where
    on : (b : Bool) → length (if b then segments else behind_paragraph segments) ≤ length segments
    on true = omega arith
    on false = behind-short segments

-- no segment has no part
cut-some : (measure : Measure) (from : ℕ) (counts : List ℕ) (segment : Segment) → 0 < length (cut_at measure from counts segment)
unfolding cut_at
cut-some measure from [] segment = omega arith
cut-some measure from (count ∷ counts) segment = omega arith

none-parted : (patterns : Option HyphenationPatterns) (measure : Measure) (segments : List Segment) (parts : List Part) → AreParts patterns measure segments parts → parts ≡ []
    → segments ≡ []
unfolding AreParts
none-parted patterns measure [] parts are none = refl
none-parted patterns measure (segment ∷ segments) parts (counts, hyphens, later, parts-are, are) none =
    absurd (omega (arith, ap length (sym none ∙ parts-are), length-append (cut_at measure 0 counts segment) later, cut-some measure 0 counts segment))

none-behind : (segments : List Segment) → first_paragraph segments ≡ [] → behind_paragraph segments ≡ []
unfolding first_paragraph behind_paragraph
none-behind [] is = refl
none-behind (segment ∷ segments) is = absurd (omega (arith, ap length is))

no-counts : (limits : Limits) (begins : Bool) (counts : List ℕ) → AreLines limits begins [] counts → counts ≡ []
unfolding AreLines
no-counts limits begins [] are = refl
no-counts limits begins (count ∷ counts) are = absurd (omega (arith, are.0.some, are.0.within))

no-parts : (limits : Limits) (begins : Bool) (parts : List Part) (counts : List ℕ) → counts ≡ [] → AreLines limits begins (map measured parts) counts → parts ≡ []
unfolding AreLines
no-parts limits begins [] counts none are = refl
no-parts limits begins (part ∷ parts) [] none are = absurd (omega (arith, ap length are))
no-parts limits begins (part ∷ parts) (count ∷ counts) none are = absurd (omega (arith, ap length none))

no-lines : (counts : List ℕ) (parts : List Part) → length (lines_with true counts parts) ≡ 0 → counts ≡ []
unfolding lines_with
no-lines [] parts is = refl
no-lines (count ∷ counts) parts is = absurd (omega (arith, is))

lines-none : (counts : List ℕ) (parts : List Part) → counts ≡ [] → lines_with true counts parts ≡ []
unfolding lines_with
lines-none [] parts is = refl
lines-none (count ∷ counts) parts is = absurd (omega (arith, ap length is))

no-spans : (text : Text) (lines : List Line) → length (spans_of text lines) ≡ 0 → lines ≡ []
unfolding spans_of
no-spans text [] is = refl
no-spans text (line ∷ lines) is = absurd (omega (arith, is))

spans-none : (text : Text) (lines : List Line) → lines ≡ [] → length (spans_of text lines) ≡ 0
unfolding spans_of
spans-none text [] is = refl
spans-none text (line ∷ lines) is = absurd (omega (arith, ap length is))

module _ (patterns : Option HyphenationPatterns) (before after : ParagraphsLeft) (spans : List Span) (gives : GivesParagraph patterns before spans after) where
  lines-are : AreLines (limits_of before.style.room) true (map measured gives.parts) gives.chosen.0
  lines-are = chosen-are before.style.fit (limits_of before.style.room) (map measured gives.parts) gives.chosen.0 gives.chosen.1.0

  none-left : length spans ≡ 0 → after.segments ≡ []
  none-left none =
      let lines : gives.lines ≡ [] = no-spans before.text gives.lines (ap (λ (xs : List Span). length xs) (sym gives.stand) ∙ none) in
      let counts : gives.chosen.0 ≡ [] = no-lines gives.chosen.0 gives.parts (ap (λ (xs : List Line). length xs) (sym gives.chosen.1.1 ∙ lines)) in
      let parts : gives.parts ≡ [] = no-parts (limits_of before.style.room) true gives.parts gives.chosen.0 counts lines-are in
      gives.segments ∙ none-behind before.segments (none-parted patterns (measure_of before.measuring) (first_paragraph before.segments) gives.parts gives.are parts)

  fewer-left : 0 < length spans → length after.segments < length before.segments
  unfolding first_paragraph AreParts
  fewer-left some = subst (λ (left : List Segment). length left < length before.segments) (sym gives.segments) (on before.segments refl)
    where
      on : (segments : List Segment) → before.segments ≡ segments → length (behind_paragraph before.segments) < length before.segments
      on [] is = absurd (omega (arith, some, empty))
        where
          parts : gives.parts ≡ []
          parts = subst (λ (segments : List Segment). AreParts patterns (measure_of before.measuring) (first_paragraph segments) gives.parts) is gives.are

          counts : gives.chosen.0 ≡ []
          counts =
              no-counts (limits_of before.style.room) true gives.chosen.0
              (subst (λ (ps : List Part). AreLines (limits_of before.style.room) true (map measured ps) gives.chosen.0) parts lines-are)

          empty : length spans ≡ 0
          empty =
              ap (λ (xs : List Span). length xs) gives.stand
              ∙ spans-none before.text gives.lines (gives.chosen.1.1 ∙ lines-none gives.chosen.0 gives.parts counts)
      on (segment ∷ segments) is =
          subst (λ (left : List Segment). length (behind_paragraph left) < length left) (sym is) (omega (arith, behind-shorter segment segments))

-- ---- one paragraph after another

give-more : (patterns : Option HyphenationPatterns) (start mid after : ParagraphsLeft) (given : List (List Span)) (spans : List Span) → GiveParagraphs patterns start given mid → GivesParagraph patterns mid spans after
    → GiveParagraphs patterns start (given ++ spans ∷ []) after
unfolding GiveParagraphs
give-more patterns start mid after [] spans same gives = (after, subst (λ (left : ParagraphsLeft). GivesParagraph patterns left spans after) (sym same) gives, refl)
give-more patterns start mid after (first ∷ given) spans (next, one, others) gives = (next, one, give-more patterns next mid after given spans others gives)

module _ (wrapping : Wrapping) (patterns : Option HyphenationPatterns) (bytes : List ℕ) (start : ParagraphsLeft) where
  -- the paragraphs up to these are given, their lines written or gathered
  abbrev pub IsProgress : ParagraphsLeft → List ℕ → Option (List ℕ) → Option (List ℕ) → Type 0
  IsProgress left lines old new =
      (given : List (List Span)) × GiveParagraphs patterns start given left × IsTextWithin bytes left.text × AreGathered old new lines (flat_map (shown_spans wrapping bytes) given)

  pub progress-none : (old : Option (List ℕ)) → IsTextWithin bytes start.text → IsProgress start [] old old
  unfolding GiveParagraphs
  progress-none old within = ([], refl, within, gathered-none old)

  module _ (left next : ParagraphsLeft) (before after : List ℕ) (is_some : Bool) (adds : AddsParagraph wrapping patterns bytes left next before after is_some) where
    pub progress-next : (old new : Option (List ℕ)) → IsProgress left before old new → IsProgress next after old new
    progress-next old new (given, so_far, within, gathered) = (
      given ++ adds.spans ∷ [],
      give-more patterns start left next given adds.spans so_far adds.given,
      rest-within patterns bytes left next adds.spans adds.given within,
      gathered-more (shown_spans wrapping bytes) given adds.spans before after old new gathered adds.added,
    )

    pub progress-fewer : is_some ≡ true → length next.segments < length left.segments
    progress-fewer is = fewer-left patterns left next adds.spans adds.given (on (length adds.spans) (sym adds.some ∙ is))
      where
        on : (n : ℕ) → not (n == 0) ≡ true → 0 < n
        on zero is = let no : false ≡ true = is in cc
        on (suc n) is = omega arith

    pub progress-end : is_some ≡ false → next.segments ≡ []
    progress-end is = none-left patterns left next adds.spans adds.given (eqb-true (length adds.spans) 0 (on (length adds.spans == 0) (sym adds.some ∙ is)))
      where
        on : (b : Bool) → not b ≡ false → b ≡ true
        on true is = refl
        on false is = let no : true ≡ false = is in cc

  pub progress-written : (left : ParagraphsLeft) (lines rest : List ℕ) (old mid new : Option (List ℕ)) → IsProgress left lines old mid → (rest ≡ []) × Appends mid new lines
      → IsProgress left rest old new
  progress-written left lines rest old mid new (given, so_far, within, gathered) written = (given, so_far, within, gathered-written lines rest _ old mid new gathered written)

  pub progress-all : (left : ParagraphsLeft) (lines : List ℕ) (old mid new : Option (List ℕ)) → IsProgress left lines old mid → left.segments ≡ [] → Appends mid new lines
      → AppendsSome old new (IsWrittenFrom wrapping patterns bytes start)
  progress-all left lines old mid new (given, so_far, within, gathered) none written = (
    flat_map (shown_spans wrapping bytes) given,
    record { paragraphs = given; after = left; given = so_far; none_left = none; shown = refl },
    gathered-all lines _ old mid new gathered written,
  )
