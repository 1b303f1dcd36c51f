-- A text that is split behind whole lines, or whole paragraphs where lines are joined, is prepared part by part.
use Rattle.std.proofs.Common.{◌≡◌, ℕ, zero, suc, ◌+◌, ◌-◌, ◌%◌, ◌≤◌, ◌==◌, ◌||◌, ◌&&◌, not, Bool, true, false, cond, Option, None, Some, List, [], ◌∷◌, ◌++◌, take, drop, filter, length, length-append, reverse, refl, sym, ap, ap₂, subst, ◌∙◌, append-nil, append_assoc, arith, eqb-true}
use Rattle.std.specs.Prelude.{if◌then◌else◌, replicate, slice_index}
use Rattle.std.specs.Option.{option_map_or}
use Rattle.std.specs.List.{list_all, prefix_len, starts_with, suffix_len}
use Rattle.std.proofs.Math.Seq.{drop-append_seam, take-add}
use Rattle.std.proofs.lemmas.Bool.{eqb-false, true≢false}
use Rattle.std.proofs.lemmas.List.{drop-append-le, drop-drop, drop_at, length-reverse, reverse-append, take-append-drop, take-append-le, take_at}
use Rattle.std.proofs.lemmas.List.Elements.{filter-append}
use Rattle.std.proofs.lemmas.List.Sums.{prefix_len-le-length, suffix_len-le-length}
use Rattle.icu_segmenter.specs.NearBoundaries.{line_feed}
use Rattle.icu_segmenter.specs.Wrapping.{bytes_columns}
use Rattle.segment_text.specs.Joined.{behind_space, is_apart, is_white_space, joined, joined_after, joined_space, line_behind, space_of}
use Rattle.segment_text.specs.Blocks.{AreLines, AreParagraphs, AreWhole, is_blank}
use Rattle.segment_text.specs.Preparation.{prepared}
use Rattle.segment_text.specs.Size.{line_feeds}
use Rattle.segment_text.specs.Tabs.{expanded, expanded_after, tab_spaces}
use Rattle.segment_text.specs.declared.preparation.Preparation.{Preparation}
use Rattle.segment_text.proofs.Words.{spaced}

-- ---- tabs

expanded-append : (columns : ℕ) (field before more : List ℕ) → expanded_after columns field ((before ++ line_feed) ++ more) ≡ expanded_after columns field (before ++ line_feed) ++ expanded columns more
unfolding expanded_after
expanded-append columns field [] more = refl
expanded-append columns field (byte ∷ before) more = on (byte == 0x09) (byte == 0x0A) (expanded-append columns [] before more) (expanded-append columns (field ++ byte ∷ []) before more)
  where
    on : (is_tab is_feed : Bool)
        → expanded_after columns [] ((before ++ line_feed) ++ more) ≡ expanded_after columns [] (before ++ line_feed) ++ expanded columns more
        → expanded_after columns (field ++ byte ∷ []) ((before ++ line_feed) ++ more) ≡ expanded_after columns (field ++ byte ∷ []) (before ++ line_feed) ++ expanded columns more
        → (if is_tab then tab_spaces columns field ++ expanded_after columns [] ((before ++ line_feed) ++ more) else
        if is_feed then byte ∷ expanded_after columns [] ((before ++ line_feed) ++ more) else byte ∷ expanded_after columns (field ++ byte ∷ []) ((before ++ line_feed) ++ more))
        ≡ (if is_tab then tab_spaces columns field ++ expanded_after columns [] (before ++ line_feed) else
        if is_feed then byte ∷ expanded_after columns [] (before ++ line_feed) else byte ∷ expanded_after columns (field ++ byte ∷ []) (before ++ line_feed)) ++ expanded columns more
    on true is_feed anew further =
        ap (λ (rest : List ℕ). tab_spaces columns field ++ rest) anew ∙ sym (append_assoc (tab_spaces columns field) (expanded_after columns [] (before ++ line_feed)) (expanded columns more))
    on false true anew further = ap (λ (rest : List ℕ). byte ∷ rest) anew
    on false false anew further = ap (λ (rest : List ℕ). byte ∷ rest) further

-- what a tab becomes has no line feed, and neither has a field
expanded-lines : (columns : ℕ) (field before : List ℕ) → AreLines (expanded_after columns field (before ++ line_feed))
unfolding expanded_after
expanded-lines columns field [] = ([], refl)
expanded-lines columns field (byte ∷ before) = on (byte == 0x09) (byte == 0x0A) (expanded-lines columns [] before) (expanded-lines columns (field ++ byte ∷ []) before)
  where
    on : (is_tab is_feed : Bool) → AreLines (expanded_after columns [] (before ++ line_feed)) → AreLines (expanded_after columns (field ++ byte ∷ []) (before ++ line_feed))
        → AreLines (if is_tab then tab_spaces columns field ++ expanded_after columns [] (before ++ line_feed) else
        if is_feed then byte ∷ expanded_after columns [] (before ++ line_feed) else byte ∷ expanded_after columns (field ++ byte ∷ []) (before ++ line_feed))
    on true is_feed (front, is) further = (tab_spaces columns field ++ front, ap (λ (rest : List ℕ). tab_spaces columns field ++ rest) is ∙ sym (append_assoc (tab_spaces columns field) front line_feed))
    on false true (front, is) further = (byte ∷ front, ap (λ (rest : List ℕ). byte ∷ rest) is)
    on false false anew (front, is) = (byte ∷ front, ap (λ (rest : List ℕ). byte ∷ rest) is)

blank-spaces : (count : ℕ) (blanks : List ℕ) → list_all is_blank blanks ≡ true → list_all is_blank (replicate count 0x20 ++ blanks) ≡ true
blank-spaces zero blanks are = are
blank-spaces (suc count) blanks are = blank-spaces count blanks are

-- whether a byte is blank, and whether it is followed by blanks
blank-first : (is others : Bool) → (is && others) ≡ true → is ≡ true
blank-first true others are = refl
blank-first false others are = are

blank-others : (is others : Bool) → (is && others) ≡ true → others ≡ true
blank-others true others are = are
blank-others false others are = absurd (true≢false (sym are))

no-feed : (byte : ℕ) → is_blank byte ≡ true → (byte == 0x0A) ≡ false
no-feed byte blank = on (byte == 0x0A) refl
  where
    on : (b : Bool) → (byte == 0x0A) ≡ b → b ≡ false
    on false is = refl
    on true is = absurd (true≢false (sym blank ∙ ap is_blank (eqb-true byte 0x0A is)))

abbrev AreBlank : List ℕ → Type 0
AreBlank made = (others : List ℕ) × (made ≡ others ++ line_feed) × (list_all is_blank others ≡ true)

blanks-expanded : (columns : ℕ) (field blanks : List ℕ) → list_all is_blank blanks ≡ true
    → AreBlank (expanded_after columns field (blanks ++ line_feed))
unfolding expanded_after
blanks-expanded columns field [] are = ([], refl, refl)
blanks-expanded columns field (byte ∷ blanks) are =
    let blank : is_blank byte ≡ true = blank-first (is_blank byte) (list_all is_blank blanks) are in
    let others : list_all is_blank blanks ≡ true = blank-others (is_blank byte) (list_all is_blank blanks) are in
    rw (no-feed byte blank) (on (byte == 0x09) blank (blanks-expanded columns [] blanks others) (blanks-expanded columns (field ++ byte ∷ []) blanks others))
  where
    on : (is_tab : Bool) → is_blank byte ≡ true → AreBlank (expanded_after columns [] (blanks ++ line_feed)) → AreBlank (expanded_after columns (field ++ byte ∷ []) (blanks ++ line_feed))
        → AreBlank (if is_tab then tab_spaces columns field ++ expanded_after columns [] (blanks ++ line_feed) else byte ∷ expanded_after columns (field ++ byte ∷ []) (blanks ++ line_feed))
    on true blank (made, is, are) further = (
      tab_spaces columns field ++ made,
      ap (λ (rest : List ℕ). tab_spaces columns field ++ rest) is ∙ sym (append_assoc (tab_spaces columns field) made line_feed),
      blank-spaces (columns - bytes_columns field % columns) made are,
    )
    on false blank anew (made, is, are) = (byte ∷ made, ap (λ (rest : List ℕ). byte ∷ rest) is, rw blank are)

paragraphs-expanded : (columns : ℕ) (bytes : List ℕ) → AreParagraphs bytes → AreParagraphs (expanded columns bytes)
paragraphs-expanded columns bytes (before, blanks, is, are) =
    let front = expanded-lines columns [] before in
    let back = blanks-expanded columns [] blanks are in (
      front.0,
      back.0,
      ap (expanded columns) is ∙ expanded-append columns [] before (blanks ++ line_feed) ∙ ap₂ (λ (one other : List ℕ). one ++ other) front.1 back.1,
      back.2,
    )

-- ---- white space behind which lines are of another paragraph

-- it ends with a line feed, and has another
record AreApart (space : List ℕ) : Type 0 where
  ends : AreLines space
  two : 2 ≤ line_feeds space

feeds-append : (one other : List ℕ) → line_feeds (one ++ other) ≡ line_feeds one + line_feeds other
feeds-append one other =
    ap length (filter-append (λ byte. byte == 0x0A) one other) ∙ length-append (filter (λ byte. byte == 0x0A) one) (filter (λ byte. byte == 0x0A) other)

abbrev HasFeed : List ℕ → Type 0
HasFeed bytes = (word others : List ℕ) × (bytes ≡ word ++ 0x0A ∷ others)

abbrev GoesBy : Bool → Type 0 → Type 0 → Type 0
GoesBy true Space Word = Space
GoesBy false Space Word = Word

-- a text goes on, behind some white space, to the end of a paragraph
abbrev GoesOn : List ℕ → List ℕ → Type 0
GoesOn space [] = AreApart space
GoesOn space (byte ∷ bytes) = GoesBy (is_white_space byte) (GoesOn (space ++ byte ∷ []) bytes) (HasFeed bytes × GoesOn [] bytes)

blank-white : (byte : ℕ) → is_blank byte ≡ true → is_white_space byte ≡ true
blank-white byte blank = on (byte == 0x20) (byte == 0x09) (byte == 0x0A) (byte == 0x0D) blank
  where
    on : (a b c d : Bool) → (a || b || d) ≡ true → (a || b || c || d) ≡ true
    on true b c d is = refl
    on false true c d is = refl
    on false false true d is = refl
    on false false false d is = is

goes-blank : (space blanks : List ℕ) → 1 ≤ line_feeds space → list_all is_blank blanks ≡ true → GoesOn space (blanks ++ line_feed)
goes-blank space [] some are = record { ends = (space, refl); two = omega (arith, some, feeds-append space line_feed) }
goes-blank space (byte ∷ blanks) some are =
    let blank : is_blank byte ≡ true = blank-first (is_blank byte) (list_all is_blank blanks) are in
    let others : list_all is_blank blanks ≡ true = blank-others (is_blank byte) (list_all is_blank blanks) are in
    rw (blank-white byte blank) (goes-blank (space ++ byte ∷ []) blanks (omega (arith, some, feeds-append space (byte ∷ []))) others)

goes-on : (space before blanks : List ℕ) → list_all is_blank blanks ≡ true → GoesOn space ((before ++ line_feed) ++ (blanks ++ line_feed))
goes-on space [] blanks are = goes-blank (space ++ line_feed) blanks (omega (arith, feeds-append space line_feed)) are
goes-on space (byte ∷ before) blanks are = on (is_white_space byte) (goes-on (space ++ byte ∷ []) before blanks are) (goes-on [] before blanks are)
  where
    bytes : List ℕ
    bytes = (before ++ line_feed) ++ (blanks ++ line_feed)

    on : (b : Bool) → GoesOn (space ++ byte ∷ []) bytes → GoesOn [] bytes → GoesBy b (GoesOn (space ++ byte ∷ []) bytes) (HasFeed bytes × GoesOn [] bytes)
    on true anew further = anew
    on false anew further = ((before, blanks ++ line_feed, append_assoc before line_feed (blanks ++ line_feed)), further)

-- ---- a line that is known however the text goes on: by a byte that is no white space, and a line feed behind it

abbrev IsKnown : List ℕ → Type 0
IsKnown line = (byte : ℕ) × (word others : List ℕ) × (behind_space line ≡ byte ∷ (word ++ 0x0A ∷ others))

one-more : (n x : ℕ) (xs : List ℕ) → drop (1 + n) (x ∷ xs) ≡ drop n xs
one-more n x xs = let same : 1 + n ≡ suc n = omega arith in ap (λ (k : ℕ). drop k (x ∷ xs)) same

prefix-stops : (test : ℕ → Bool) (xs more : List ℕ) (x : ℕ) (rest : List ℕ) → drop (prefix_len test xs) xs ≡ x ∷ rest → prefix_len test (xs ++ more) ≡ prefix_len test xs
prefix-stops test [] more x rest is = absurd (omega (arith, ap length is))
prefix-stops test (y ∷ ys) more x rest is = on (test y) is (prefix-stops test ys more x rest)
  where
    on : (b : Bool) → drop (cond b (1 + prefix_len test ys) 0) (y ∷ ys) ≡ x ∷ rest → (drop (prefix_len test ys) ys ≡ x ∷ rest → prefix_len test (ys ++ more) ≡ prefix_len test ys)
        → cond b (1 + prefix_len test (ys ++ more)) 0 ≡ cond b (1 + prefix_len test ys) 0
    on true is later = ap (λ (n : ℕ). 1 + n) (later (sym (one-more (prefix_len test ys) y ys) ∙ is))
    on false is later = refl

-- what stands first behind it fails the test
stops-at : (test : ℕ → Bool) (xs : List ℕ) (x : ℕ) (rest : List ℕ) → drop (prefix_len test xs) xs ≡ x ∷ rest → test x ≡ false
stops-at test [] x rest is = absurd (omega (arith, ap length is))
stops-at test (y ∷ ys) x rest is = on (test y) refl is (stops-at test ys x rest)
  where
    on : (b : Bool) → test y ≡ b → drop (cond b (1 + prefix_len test ys) 0) (y ∷ ys) ≡ x ∷ rest → (drop (prefix_len test ys) ys ≡ x ∷ rest → test x ≡ false) → test x ≡ false
    on true passes is later = later (sym (one-more (prefix_len test ys) y ys) ∙ is)
    on false fails is later = sym (ap test (ap (λ (zs : List ℕ). slice_index zs 0) is)) ∙ fails

module _ (line more : List ℕ) (known : IsKnown line) where
  same-indentation : prefix_len is_white_space (line ++ more) ≡ prefix_len is_white_space line
  same-indentation = prefix-stops is_white_space line more known.0 (known.1 ++ 0x0A ∷ known.2) known.3

  within-line : prefix_len is_white_space line ≤ length line
  within-line = prefix_len-le-length is_white_space line

  space-more : space_of (line ++ more) ≡ space_of line
  space-more =
      ap (λ (n : ℕ). take n (line ++ more)) same-indentation ∙ take-append-le (prefix_len is_white_space line) line more within-line

  behind-more : behind_space (line ++ more) ≡ behind_space line ++ more
  behind-more =
      ap (λ (n : ℕ). drop n (line ++ more)) same-indentation ∙ drop-append-le (prefix_len is_white_space line) line more within-line

  abbrev is_apart_at : List ℕ → Bool
  is_apart_at words = starts_with (◌==◌) words (0x3E ∷ []) || starts_with (◌==◌) words (0x2D ∷ 0x2D ∷ 0x20 ∷ [])

  apart-at : (byte : ℕ) (word others : List ℕ) → is_apart_at ((byte ∷ (word ++ 0x0A ∷ others)) ++ more) ≡ is_apart_at (byte ∷ (word ++ 0x0A ∷ others))
  apart-at byte [] others = refl
  apart-at byte (one ∷ []) others = refl
  apart-at byte (one ∷ two ∷ word) others = refl

  apart-more : is_apart (line ++ more) ≡ is_apart line
  apart-more =
      ap is_apart_at (behind-more ∙ ap (λ (words : List ℕ). words ++ more) known.3) ∙ apart-at known.0 known.1 known.2 ∙ sym (ap is_apart_at known.3)

-- ---- the line behind some white space

all-first : (one other : Bool) → one ≡ true → other ≡ true → (one && other) ≡ true
all-first true other is others = others
all-first false other is others = is

white-push : (space : List ℕ) (byte : ℕ) → list_all is_white_space space ≡ true → is_white_space byte ≡ true → list_all is_white_space (space ++ byte ∷ []) ≡ true
white-push [] byte are is = all-first (is_white_space byte) true is refl
white-push (one ∷ space) byte are is =
    all-first (is_white_space one) (list_all is_white_space (space ++ byte ∷ [])) (blank-first (is_white_space one) (list_all is_white_space space) are)
    (white-push space byte (blank-others (is_white_space one) (list_all is_white_space space) are) is)

white-drop : (n : ℕ) (space : List ℕ) → list_all is_white_space space ≡ true → list_all is_white_space (drop n space) ≡ true
white-drop zero space are = are
white-drop (suc n) [] are = are
white-drop (suc n) (one ∷ space) are = white-drop n space (blank-others (is_white_space one) (list_all is_white_space space) are)

-- behind white space stands what isn't
behind-white : (space : List ℕ) (byte : ℕ) (bytes : List ℕ) → list_all is_white_space space ≡ true → is_white_space byte ≡ false → behind_space (space ++ byte ∷ bytes) ≡ byte ∷ bytes
behind-white [] byte bytes are is = rw is refl
behind-white (one ∷ space) byte bytes are is =
    rw (blank-first (is_white_space one) (list_all is_white_space space) are)
    (one-more (prefix_len is_white_space (space ++ byte ∷ bytes)) one (space ++ byte ∷ bytes)
    ∙ behind-white space byte bytes (blank-others (is_white_space one) (list_all is_white_space space) are) is)

module _ (line space : List ℕ) (byte : ℕ) (bytes more : List ℕ) where
  line-more : line_behind (line ++ more) space (byte ∷ (bytes ++ more)) ≡ line_behind line space (byte ∷ bytes) ++ more
  line-more = on (line_feeds space == 0)
    where
      tail : List ℕ
      tail = drop (length space - suffix_len (λ byte. not (byte == 0x0A)) space) space

      on : (b : Bool) → (if b then line ++ more else tail ++ byte ∷ (bytes ++ more)) ≡ (if b then line else tail ++ byte ∷ bytes) ++ more
      on true = refl
      on false = sym (append_assoc tail (byte ∷ bytes) more)

  line-known : IsKnown line → list_all is_white_space space ≡ true → is_white_space byte ≡ false → HasFeed bytes → IsKnown (line_behind line space (byte ∷ bytes))
  line-known known are is (word, others, split) = on (line_feeds space == 0)
    where
      tail : List ℕ
      tail = drop (length space - suffix_len (λ byte. not (byte == 0x0A)) space) space

      on : (b : Bool) → IsKnown (if b then line else tail ++ byte ∷ bytes)
      on true = known
      on false = (byte, word, others, behind-white tail byte bytes (white-drop _ space are) is ∙ ap (λ (rest : List ℕ). byte ∷ rest) split)

joined-more : (line space : List ℕ) (byte : ℕ) (bytes more : List ℕ) → IsKnown line → IsKnown (line_behind line space (byte ∷ bytes))
    → joined_space (line ++ more) space (byte ∷ (bytes ++ more)) ≡ joined_space line space (byte ∷ bytes)
joined-more line space byte bytes more known next =
    let following : List ℕ = line_behind line space (byte ∷ bytes) in
    rw (line-more line space byte bytes more, space-more line more known, apart-more line more known, space-more following more next, apart-more following more next) refl

-- ---- behind the end of a paragraph a text is joined as alone

no_feed : ℕ → Bool
no_feed byte = not (byte == 0x0A)

feeds-reverse : (bytes : List ℕ) → line_feeds (reverse bytes) ≡ line_feeds bytes
feeds-reverse [] = refl
feeds-reverse (byte ∷ bytes) =
    ap line_feeds (reverse-append (byte ∷ []) bytes) ∙ feeds-append (reverse bytes) (byte ∷ [])
    ∙ omega (arith, feeds-reverse bytes, feeds-append (byte ∷ []) bytes)

-- of bytes without a line feed all come before the next one
none-before : (bytes others : List ℕ) → line_feeds bytes ≡ 0 → prefix_len (λ byte. not (byte == 0x0A)) (bytes ++ 0x0A ∷ others) ≡ length bytes
none-before [] others none = refl
none-before (byte ∷ bytes) others none = on (byte == 0x0A) none (none-before bytes others)
  where
    on : (b : Bool) → length (cond b (byte ∷ filter (λ byte. byte == 0x0A) bytes) (filter (λ byte. byte == 0x0A) bytes)) ≡ 0
        → (line_feeds bytes ≡ 0 → prefix_len (λ byte. not (byte == 0x0A)) (bytes ++ 0x0A ∷ others) ≡ length bytes)
        → cond (not b) (1 + prefix_len (λ byte. not (byte == 0x0A)) (bytes ++ 0x0A ∷ others)) 0 ≡ suc (length bytes)
    on true none later = absurd (omega (arith, none))
    on false none later = omega (arith, later none)

-- of bytes with one the same come before it whatever follows
some-before : (bytes others : List ℕ) → 1 ≤ line_feeds bytes → prefix_len (λ byte. not (byte == 0x0A)) (bytes ++ others) ≡ prefix_len (λ byte. not (byte == 0x0A)) bytes
some-before [] others some = absurd (omega (arith, some))
some-before (byte ∷ bytes) others some = on (byte == 0x0A) some (some-before bytes others)
  where
    on : (b : Bool) → 1 ≤ length (cond b (byte ∷ filter (λ byte. byte == 0x0A) bytes) (filter (λ byte. byte == 0x0A) bytes))
        → (1 ≤ line_feeds bytes → prefix_len (λ byte. not (byte == 0x0A)) (bytes ++ others) ≡ prefix_len (λ byte. not (byte == 0x0A)) bytes)
        → cond (not b) (1 + prefix_len (λ byte. not (byte == 0x0A)) (bytes ++ others)) 0 ≡ cond (not b) (1 + prefix_len (λ byte. not (byte == 0x0A)) bytes) 0
    on true some later = refl
    on false some later = ap (λ (n : ℕ). 1 + n) (later some)

module _ (line before more : List ℕ) where
  abbrev feeds : List ℕ
  feeds = before ++ line_feed

  abbrev gap : List ℕ
  gap = space_of more

  within-gap : prefix_len is_white_space more ≤ length more
  within-gap = prefix_len-le-length is_white_space more

  reversed : reverse (feeds ++ gap) ≡ reverse gap ++ 0x0A ∷ reverse before
  reversed = reverse-append feeds gap ∙ ap (λ (bytes : List ℕ). reverse gap ++ bytes) (reverse-append before line_feed)

  drop-seam : (n : ℕ) → drop (length feeds + n) (feeds ++ gap) ≡ drop n gap
  drop-seam n = sym (drop-drop n (length feeds) (feeds ++ gap)) ∙ ap (drop n) (drop-append_seam feeds gap)

  line-anew : line_behind line (feeds ++ gap) (behind_space more) ≡ line_behind more gap (behind_space more)
  line-anew =
      rw many (on (line_feeds gap == 0) refl)
    where
      many : (line_feeds (feeds ++ gap) == 0) ≡ false
      many = on (line_feeds (feeds ++ gap) == 0) refl
        where
          on : (b : Bool) → (line_feeds (feeds ++ gap) == 0) ≡ b → b ≡ false
          on false is = refl
          on true is = absurd (omega (arith, eqb-true _ _ is, feeds-append feeds gap, feeds-append before line_feed))

      last : ℕ
      last = prefix_len (λ byte. not (byte == 0x0A)) (reverse (feeds ++ gap))

      on : (b : Bool) → (line_feeds gap == 0) ≡ b
          → drop (length (feeds ++ gap) - last) (feeds ++ gap) ++ behind_space more
          ≡ (if b then more else drop (length gap - suffix_len (λ byte. not (byte == 0x0A)) gap) gap ++ behind_space more)
      on true is =
          let none : line_feeds (reverse gap) ≡ 0 = omega (arith, eqb-true _ _ is, feeds-reverse gap) in
          let count : last ≡ length gap = ap (prefix_len (λ byte. not (byte == 0x0A))) reversed ∙ none-before (reverse gap) (reverse before) none ∙ length-reverse gap in
          let at : length (feeds ++ gap) - last ≡ length feeds + 0 = omega (arith, count, length-append feeds gap) in
          ap (λ (n : ℕ). drop n (feeds ++ gap) ++ behind_space more) at
          ∙ ap (λ (bytes : List ℕ). bytes ++ behind_space more) (drop-seam 0)
          ∙ take-append-drop (prefix_len is_white_space more) more
      on false is =
          let some : 1 ≤ line_feeds (reverse gap) = omega (arith, eqb-false _ _ is, feeds-reverse gap) in
          let count : last ≡ suffix_len (λ byte. not (byte == 0x0A)) gap = ap (prefix_len (λ byte. not (byte == 0x0A))) reversed ∙ some-before (reverse gap) (0x0A ∷ reverse before) some in
          let few : suffix_len (λ byte. not (byte == 0x0A)) gap ≤ length gap = suffix_len-le-length (λ byte. not (byte == 0x0A)) gap in
          let at : length (feeds ++ gap) - last ≡ length feeds + (length gap - suffix_len (λ byte. not (byte == 0x0A)) gap) = omega (arith, count, few, length-append feeds gap) in
          ap (λ (n : ℕ). drop n (feeds ++ gap) ++ behind_space more) at
          ∙ ap (λ (bytes : List ℕ). bytes ++ behind_space more) (drop-seam (length gap - suffix_len (λ byte. not (byte == 0x0A)) gap))

-- white space with two line feeds stays, whatever follows
stays : (line space bytes : List ℕ) → 2 ≤ line_feeds space → joined_space line space bytes ≡ space
stays line space [] two = refl
stays line space (byte ∷ bytes) two = rw apart refl
  where
    apart : (line_feeds space == 1) ≡ false
    apart = on (line_feeds space == 1) refl
      where
        on : (b : Bool) → (line_feeds space == 1) ≡ b → b ≡ false
        on false is = refl
        on true is = absurd (omega (arith, eqb-true _ _ is, two))

joined-behind : (line space more : List ℕ) → AreApart space → joined_after line space more ≡ space ++ joined more
unfolding joined
joined-behind line space more apart =
    let whole : List ℕ = space ++ space_of more in
    let two : 2 ≤ line_feeds whole = omega (arith, apart.two, feeds-append space (space_of more)) in
    let anew : line_behind line whole (behind_space more) ≡ line_behind more (space_of more) (behind_space more) =
    subst (λ (space : List ℕ). line_behind line (space ++ space_of more) (behind_space more) ≡ line_behind more (space_of more) (behind_space more)) (sym apart.ends.1)
    (line-anew line apart.ends.0 more) in
    spaced line space more
    ∙ ap₂ (λ (shown line : List ℕ). shown ++ joined_after line [] (behind_space more)) (stays line whole (behind_space more) two) anew
    ∙ append_assoc space (space_of more) (joined_after (line_behind more (space_of more) (behind_space more)) [] (behind_space more))

joined-on : (line space bytes more : List ℕ) → IsKnown line → list_all is_white_space space ≡ true → GoesOn space bytes
    → joined_after (line ++ more) space (bytes ++ more) ≡ joined_after line space bytes ++ joined more
unfolding joined_after
joined-on line space [] more known are apart = joined-behind (line ++ more) space more apart
joined-on line space (byte ∷ bytes) more known are goes =
    on (is_white_space byte) refl goes
    (λ is goes. joined-on line (space ++ byte ∷ []) bytes more known (white-push space byte are is) goes)
    (λ next goes. joined-on (line_behind line space (byte ∷ bytes)) [] bytes more next refl goes)
  where
    on : (b : Bool) → is_white_space byte ≡ b → GoesBy b (GoesOn (space ++ byte ∷ []) bytes) (HasFeed bytes × GoesOn [] bytes)
        → (is_white_space byte ≡ true → GoesOn (space ++ byte ∷ []) bytes
        → joined_after (line ++ more) (space ++ byte ∷ []) (bytes ++ more) ≡ joined_after line (space ++ byte ∷ []) bytes ++ joined more)
        → (IsKnown (line_behind line space (byte ∷ bytes)) → GoesOn [] bytes
        → joined_after (line_behind line space (byte ∷ bytes) ++ more) [] (bytes ++ more) ≡ joined_after (line_behind line space (byte ∷ bytes)) [] bytes ++ joined more)
        → (if b then joined_after (line ++ more) (space ++ byte ∷ []) (bytes ++ more)
        else joined_space (line ++ more) space (byte ∷ (bytes ++ more)) ++ byte ∷ joined_after (line_behind (line ++ more) space (byte ∷ (bytes ++ more))) [] (bytes ++ more))
        ≡ (if b then joined_after line (space ++ byte ∷ []) bytes
        else joined_space line space (byte ∷ bytes) ++ byte ∷ joined_after (line_behind line space (byte ∷ bytes)) [] bytes) ++ joined more
    on true is goes in_space in_word = in_space is goes
    on false is (feed, goes) in_space in_word =
        let next : IsKnown (line_behind line space (byte ∷ bytes)) = line-known line space byte bytes more known are is feed in
        ap₂ (λ (shown rest : List ℕ). shown ++ byte ∷ rest) (joined-more line space byte bytes more known next)
        (ap (λ (line : List ℕ). joined_after line [] (bytes ++ more)) (line-more line space byte bytes more) ∙ in_word next goes)
        ∙ (sym (append_assoc (joined_space line space (byte ∷ bytes)) (byte ∷ joined_after (line_behind line space (byte ∷ bytes)) [] bytes) (joined more)))

-- ---- the white space that a text begins with

goes-space : (space bytes : List ℕ) → GoesOn space bytes → behind_space bytes ≡ [] → AreApart (space ++ bytes)
goes-space space [] apart none = rw (append-nil space) apart
goes-space space (byte ∷ bytes) goes none = on (is_white_space byte) goes none (goes-space (space ++ byte ∷ []) bytes)
  where
    on : (b : Bool) → GoesBy b (GoesOn (space ++ byte ∷ []) bytes) (HasFeed bytes × GoesOn [] bytes)
        → drop (cond b (1 + prefix_len is_white_space bytes) 0) (byte ∷ bytes) ≡ []
        → (GoesOn (space ++ byte ∷ []) bytes → behind_space bytes ≡ [] → AreApart ((space ++ byte ∷ []) ++ bytes)) → AreApart (space ++ byte ∷ bytes)
    on true goes none later = subst AreApart (append_assoc space (byte ∷ []) bytes) (later goes (sym (one-more (prefix_len is_white_space bytes) byte bytes) ∙ none))
    on false goes none later = absurd (omega (arith, ap length none))

goes-word : (space bytes : List ℕ) (byte : ℕ) (rest : List ℕ) → GoesOn space bytes → behind_space bytes ≡ byte ∷ rest → HasFeed rest × GoesOn [] rest
goes-word space [] byte rest apart is = absurd (omega (arith, ap length is))
goes-word space (first ∷ bytes) byte rest goes is = on (is_white_space first) goes is (goes-word (space ++ first ∷ []) bytes byte rest)
  where
    on : (b : Bool) → GoesBy b (GoesOn (space ++ first ∷ []) bytes) (HasFeed bytes × GoesOn [] bytes)
        → drop (cond b (1 + prefix_len is_white_space bytes) 0) (first ∷ bytes) ≡ byte ∷ rest
        → (GoesOn (space ++ first ∷ []) bytes → behind_space bytes ≡ byte ∷ rest → HasFeed rest × GoesOn [] rest) → HasFeed rest × GoesOn [] rest
    on true goes is later = later goes (sym (one-more (prefix_len is_white_space bytes) first bytes) ∙ is)
    on false goes is later = subst (λ (bytes : List ℕ). HasFeed bytes × GoesOn [] bytes) (ap (drop 1) is) goes

after-lines : (line space bytes : List ℕ) → GoesOn space bytes → AreLines (joined_after line space bytes)
unfolding joined_after
after-lines line space [] apart = apart.ends
after-lines line space (byte ∷ bytes) goes =
    on (is_white_space byte) goes (after-lines line (space ++ byte ∷ []) bytes) (after-lines (line_behind line space (byte ∷ bytes)) [] bytes)
  where
    on : (b : Bool) → GoesBy b (GoesOn (space ++ byte ∷ []) bytes) (HasFeed bytes × GoesOn [] bytes)
        → (GoesOn (space ++ byte ∷ []) bytes → AreLines (joined_after line (space ++ byte ∷ []) bytes))
        → (GoesOn [] bytes → AreLines (joined_after (line_behind line space (byte ∷ bytes)) [] bytes))
        → AreLines (if b then joined_after line (space ++ byte ∷ []) bytes else joined_space line space (byte ∷ bytes) ++ byte ∷ joined_after (line_behind line space (byte ∷ bytes)) [] bytes)
    on true goes in_space in_word = in_space goes
    on false (feed, goes) in_space in_word =
        let rest = in_word goes in
        let shown : List ℕ = joined_space line space (byte ∷ bytes) in (
          shown ++ byte ∷ rest.0,
          ap (λ (bytes : List ℕ). shown ++ byte ∷ bytes) rest.1 ∙ sym (append_assoc shown (byte ∷ rest.0) line_feed),
        )

-- all is white space
white-whole : (test : ℕ → Bool) (xs more : List ℕ) → drop (prefix_len test xs) xs ≡ [] → prefix_len test (xs ++ more) ≡ length xs + prefix_len test more
white-whole test [] more is = omega arith
white-whole test (y ∷ ys) more is = on (test y) is (white-whole test ys more)
  where
    on : (b : Bool) → drop (cond b (1 + prefix_len test ys) 0) (y ∷ ys) ≡ [] → (drop (prefix_len test ys) ys ≡ [] → prefix_len test (ys ++ more) ≡ length ys + prefix_len test more)
        → cond b (1 + prefix_len test (ys ++ more)) 0 ≡ suc (length ys) + prefix_len test more
    on true is later = omega (arith, later (sym (one-more (prefix_len test ys) y ys) ∙ is))
    on false is later = absurd (omega (arith, ap length is))

white-front : (test : ℕ → Bool) (xs : List ℕ) → list_all test (take (prefix_len test xs) xs) ≡ true
white-front test [] = refl
white-front test (y ∷ ys) = on (test y) refl (white-front test ys)
  where
    one : (n : ℕ) → take (1 + n) (y ∷ ys) ≡ y ∷ take n ys
    one n = let same : 1 + n ≡ suc n = omega arith in ap (λ (k : ℕ). take k (y ∷ ys)) same

    on : (b : Bool) → test y ≡ b → list_all test (take (prefix_len test ys) ys) ≡ true → list_all test (take (cond b (1 + prefix_len test ys) 0) (y ∷ ys)) ≡ true
    on true passes later = rw (one (prefix_len test ys), passes) later
    on false fails later = refl

module _ (done more : List ℕ) (whole : AreParagraphs done) where
  goes : GoesOn [] done
  goes = subst (GoesOn []) (sym whole.2) (goes-on [] whole.0 whole.1 whole.3)

  lines : AreLines done
  lines = ((whole.0 ++ line_feed) ++ whole.1, whole.2 ∙ sym (append_assoc (whole.0 ++ line_feed) whole.1 line_feed))

  all-white : behind_space done ≡ [] → space_of done ≡ done
  all-white none = sym (append-nil (space_of done)) ∙ ap (λ (bytes : List ℕ). space_of done ++ bytes) (sym none) ∙ take-append-drop (prefix_len is_white_space done) done

  pub joined-lines : AreLines (joined done)
  unfolding joined joined_after
  joined-lines = on (behind_space done) refl
    where
      on : (behind : List ℕ) → behind_space done ≡ behind → AreLines (space_of done ++ joined_after (line_behind done (space_of done) behind) [] behind)
      on [] none = rw (append-nil (space_of done), all-white none) lines
      on (byte ∷ rest) is =
          let word = goes-word [] done byte rest goes is in
          let after = after-lines (line_behind done (space_of done) (byte ∷ rest)) [] (byte ∷ rest) (rw (stops-at is_white_space done byte rest is) word) in (
            space_of done ++ after.0,
            ap (λ (bytes : List ℕ). space_of done ++ bytes) after.1 ∙ sym (append_assoc (space_of done) after.0 line_feed),
          )

  pub joined-parts : joined (done ++ more) ≡ joined done ++ joined more
  unfolding joined joined_after
  joined-parts = on (behind_space done) refl
    where
      on : (behind : List ℕ) → behind_space done ≡ behind
          → space_of (done ++ more) ++ joined_after (line_behind (done ++ more) (space_of (done ++ more)) (behind_space (done ++ more))) [] (behind_space (done ++ more))
          ≡ (space_of done ++ joined_after (line_behind done (space_of done) behind) [] behind) ++ joined more
      on [] none =
          let m : ℕ = prefix_len is_white_space more in
          let size : prefix_len is_white_space (done ++ more) ≡ length done + m = white-whole is_white_space done more none in
          let space : space_of (done ++ more) ≡ done ++ space_of more =
          ap (λ (n : ℕ). take n (done ++ more)) size ∙ take-add (length done) m (done ++ more)
          ∙ ap₂ (λ (one other : List ℕ). one ++ take m other) (take_at done more _ refl) (drop_at done more _ refl) in
          let behind : behind_space (done ++ more) ≡ behind_space more =
          ap (λ (n : ℕ). drop n (done ++ more)) size ∙ sym (drop-drop m (length done) (done ++ more)) ∙ ap (drop m) (drop_at done more _ refl) in
          let anew : line_behind (done ++ more) (done ++ space_of more) (behind_space more) ≡ line_behind more (space_of more) (behind_space more) =
          subst (λ (space : List ℕ). line_behind (done ++ more) (space ++ space_of more) (behind_space more) ≡ line_behind more (space_of more) (behind_space more)) (sym lines.1)
          (line-anew (done ++ more) lines.0 more) in
          rw (space, behind, anew, all-white none, append-nil done)
          (append_assoc done (space_of more) (joined_after (line_behind more (space_of more) (behind_space more)) [] (behind_space more)))
      on (byte ∷ rest) is =
          let word = goes-word [] done byte rest goes is in
          let fails : is_white_space byte ≡ false = stops-at is_white_space done byte rest is in
          let known : IsKnown done = (byte, word.0.0, word.0.1, is ∙ ap (λ (rest : List ℕ). byte ∷ rest) word.0.2) in
          let first : List ℕ = line_behind done (space_of done) (byte ∷ rest) in
          let first_known : IsKnown first = line-known done (space_of done) byte rest more known (white-front is_white_space done) fails word.0 in
          let goes_on : GoesOn [] (byte ∷ rest) = rw fails word in
          let behind : behind_space (done ++ more) ≡ byte ∷ (rest ++ more) = behind-more done more known ∙ ap (λ (bytes : List ℕ). bytes ++ more) is in
          rw (space-more done more known, behind, line-more done (space_of done) byte rest more)
          (ap (λ (bytes : List ℕ). space_of done ++ bytes) (joined-on first [] (byte ∷ rest) more first_known refl goes_on)
          ∙ sym (append_assoc (space_of done) (joined_after first [] (byte ∷ rest)) (joined more)))

-- ---- what is done to a text

abbrev prepare : Option ℕ → Bool → List ℕ → List ℕ
prepare tabs joins bytes =
    let spaced = option_map_or (λ columns. expanded columns bytes) tabs bytes in
    if joins then joined spaced else spaced

abbrev IsPrepared : Option ℕ → Bool → List ℕ → List ℕ → Type 0
IsPrepared tabs joins done more = (prepare tabs joins (done ++ more) ≡ prepare tabs joins done ++ prepare tabs joins more) × AreLines (prepare tabs joins done)

expanded-parts : (columns : ℕ) (done more : List ℕ) → AreLines done → expanded columns (done ++ more) ≡ expanded columns done ++ expanded columns more
expanded-parts columns done more (before, is) =
    subst (λ (done : List ℕ). expanded columns (done ++ more) ≡ expanded columns done ++ expanded columns more) (sym is) (expanded-append columns [] before more)

prepare-parts : (tabs : Option ℕ) (joins : Bool) (done more : List ℕ) → AreWhole joins done → IsPrepared tabs joins done more
prepare-parts None false done more whole = (refl, whole)
prepare-parts None true done more whole = (joined-parts done more whole, joined-lines done more whole)
prepare-parts (Some columns) false done more whole =
    (expanded-parts columns done more whole, subst (λ (done : List ℕ). AreLines (expanded columns done)) (sym whole.1) (expanded-lines columns [] whole.0))
prepare-parts (Some columns) true done more whole =
    let spaced : AreParagraphs (expanded columns done) = paragraphs-expanded columns done whole in (
      ap joined (expanded-parts columns done more (lines done more whole)) ∙ joined-parts (expanded columns done) (expanded columns more) spaced,
      joined-lines (expanded columns done) more spaced,
    )

module _ (preparation : Preparation) (done more : List ℕ) (whole : AreWhole preparation.joins done) where
  pub prepared-parts : prepared preparation (done ++ more) ≡ prepared preparation done ++ prepared preparation more
  prepared-parts = (prepare-parts preparation.tabs preparation.joins done more whole).0

  pub prepared-lines : AreLines (prepared preparation done)
  prepared-lines = (prepare-parts preparation.tabs preparation.joins done more whole).1

pub prepared-nothing : (preparation : Preparation) → prepared preparation [] ≡ []
unfolding expanded_after joined joined_after
prepared-nothing preparation = on preparation.tabs preparation.joins
  where
    on : (tabs : Option ℕ) (joins : Bool) → prepare tabs joins [] ≡ []
    on None false = refl
    on None true = refl
    on (Some columns) false = refl
    on (Some columns) true = refl

-- one part more behind others
pub whole-more : (joins : Bool) (done part : List ℕ) → AreWhole joins part → AreWhole joins (done ++ part)
whole-more true done part (before, blanks, is, are) = (
  done ++ before,
  blanks,
  ap (λ (bytes : List ℕ). done ++ bytes) is ∙ sym (append_assoc done (before ++ line_feed) (blanks ++ line_feed))
      ∙ ap (λ (bytes : List ℕ). bytes ++ (blanks ++ line_feed)) (sym (append_assoc done before line_feed)),
  are,
)
whole-more false done part (before, is) = (done ++ before, ap (λ (bytes : List ℕ). done ++ bytes) is ∙ sym (append_assoc done before line_feed))
