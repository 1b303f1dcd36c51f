-- Points of characters are points of bytes.
use Rattle.std.proofs.Common.{◌≡◌, ℕ, ◌+◌, ◌<◌, ◌≤◌, ◌⊎◌, inl, inr, List, [], ◌∷◌, ◌++◌, length, get_or, take, drop, map, suc, refl, sym, ap, subst, ◌∙◌, arith, Contains, All}
use Rattle.std.proofs.lemmas.List.{append-nil, length-append, length-take, length-take-le, length-drop, take-take, take_all, take-append-le, get_or_default, get_or-drop, length-map}
use Rattle.std.proofs.lemmas.List.Elements.{All-contains}
use Rattle.std.proofs.lemmas.Str.{encodes-append}
use Rattle.std.proofs.Math.ListN.{get_or-eq_default, get_or-map}
use Rattle.seg_hyphens.specs.Characters.{IsCharacterPoint, IsWhole, all_in_bytes, byte_digits, in_bytes}
use Rattle.seg_hyphens.specs.Liang.{HasDigit, Hyphenation, IsPoint, IsValue, Pattern, characters, edged, is_first}
use Rattle.seg_hyphens.proofs.Letters.{at-boundary, before-add, before-more, bytes_before, characters-encodes, digit-at, digit-where, drop-encodes, fits-bytes, fits-letters, first-byte, first-of, same-count, take-encodes}
use Rattle.seg_hyphens.proofs.Raising.{below-or}
use Rattle.seg_hyphens.proofs.Choosing.{some-or}
use lib.Utf8.{encode, encodes}

-- ---- elements of a map

nothing : Pattern
nothing = record { letters = []; digits = [] }

contains-map : (patterns : List Pattern) (pattern : Pattern) → Contains patterns pattern → Contains (map in_bytes patterns) (in_bytes pattern)
contains-map patterns pattern h =
    (h.0, omega (arith, h.1, length-map patterns in_bytes), get_or-map in_bytes patterns h.0 pattern ∙ ap in_bytes h.2)

pub record IsFrom (patterns : List Pattern) (pattern : Pattern) : Type 0 where
  pub one : Pattern
  pub is : Contains patterns one
  pub same : in_bytes one ≡ pattern

from-map : (patterns : List Pattern) (pattern : Pattern) → Contains (map in_bytes patterns) pattern → IsFrom patterns pattern
from-map patterns pattern h =
    let inside : h.0 < length patterns = omega (arith, h.1, length-map patterns in_bytes) in
    record {
      one = get_or patterns h.0 nothing;
      is = (h.0, inside, get_or_default patterns h.0 (get_or patterns h.0 nothing) nothing inside);
      same = sym (get_or-map in_bytes patterns h.0 nothing) ∙ get_or_default (map in_bytes patterns) h.0 (in_bytes nothing) pattern h.1 ∙ h.2;
    }

offset-by : (digits : List ℕ) (o n : ℕ) → length digits ≡ n + 1 → 0 < get_or digits o 0 → (o < length digits) ⊎ (length digits ≤ o) → o ≤ n
offset-by digits o n e some (inl h) = omega (arith, e, h)
offset-by digits o n e some (inr h) = let none : get_or digits o 0 ≡ 0 = get_or-eq_default digits 0 h in absurd (omega (arith, some, none))

offset-few : (pattern : Pattern) → IsWhole pattern → (o : ℕ) → 0 < get_or pattern.digits o 0 → o ≤ length pattern.letters
offset-few pattern whole o some = offset-by pattern.digits o (length pattern.letters) whole.one_more some (below-or o (length pattern.digits))

within : (letters w : List ℕ) (k : ℕ) → k ≤ length letters → take (length letters) w ≡ letters → take k letters ≡ take k w
within letters w k h e = ap (take k) (sym e) ∙ take-take k (length letters) w h

-- ---- digits at places

module _ (patterns : List Pattern) (w : List ℕ) (whole : All IsWhole patterns) where
  -- a digit of characters is one of bytes
  to-bytes : (n digit : ℕ) → 0 < digit → HasDigit patterns w n digit → HasDigit (map in_bytes patterns) (encodes w) (bytes_before w n) digit
  to-bytes n digit some d =
      let p = d.pattern in
      let is-whole = All-contains IsWhole patterns d.pattern whole d.is in
      let few : d.offset ≤ length d.pattern.letters = offset-few d.pattern is-whole d.offset (omega (arith, some, d.has)) in
      record {
        pattern = in_bytes d.pattern;
        is = contains-map patterns d.pattern d.is;
        start = bytes_before w d.start;
        fits = ap (take (length (encodes d.pattern.letters))) (drop-encodes w d.start) ∙ fits-bytes d.pattern.letters (drop d.start w) d.fits;
        offset = length (encodes (take d.offset d.pattern.letters));
        at = ap (λ m. bytes_before w d.start + m) (ap (λ xs. length (encodes xs)) (within d.pattern.letters (drop d.start w) d.offset few d.fits))
            ∙ sym (before-add w d.start d.offset) ∙ ap (bytes_before w) d.at;
        has = digit-at d.pattern.letters d.pattern.digits d.offset few ∙ d.has;
      }

  record IsOfCharacters (place digit : ℕ) : Type 0 where
    pub count : ℕ
    pub few : count ≤ length w
    pub at : place ≡ bytes_before w count
    pub is : HasDigit patterns w count digit

  -- and a digit of bytes is one of characters
  of-bytes : (place digit : ℕ) → 0 < digit → HasDigit (map in_bytes patterns) (encodes w) place digit → IsOfCharacters place digit
  of-bytes place digit some d =
      let f = from-map patterns d.pattern d.is in
      let is-whole = All-contains IsWhole patterns f.one whole f.is in
      let fits : take (length (encodes f.one.letters)) (drop d.start (encodes w)) ≡ encodes f.one.letters =
      subst (λ (p : Pattern). take (length p.letters) (drop d.start (encodes w)) ≡ p.letters) (sym f.same) d.fits in
      let has : get_or (byte_digits f.one.letters f.one.digits) d.offset 0 ≡ digit =
      subst (λ (p : Pattern). get_or p.digits d.offset 0 ≡ digit) (sym f.same) d.has in
      let b = first-byte f.one.letters (encodes w) d.start is-whole.some fits in
      let n = at-boundary w d.start b.0 b.1 in
      let fits-here : take (length f.one.letters) (drop n.0 w) ≡ f.one.letters =
      fits-letters f.one.letters (drop n.0 w)
      (ap (take (length (encodes f.one.letters))) (sym (ap (λ s. drop s (encodes w)) n.2 ∙ drop-encodes w n.0)) ∙ fits) in
      let o = digit-where f.one.letters f.one.digits d.offset (omega (arith, some, has)) in
      let long : n.0 + length f.one.letters ≤ length w =
      omega (arith, n.1, ap length fits-here, length-take (length f.one.letters) (drop n.0 w), length-drop n.0 w) in
      record {
        count = n.0 + o.count;
        few = omega (arith, long, o.few);
        at = sym d.at ∙ ap (λ s. s + d.offset) n.2 ∙ ap (λ m. bytes_before w n.0 + m) (o.at ∙ ap (λ xs. length (encodes xs)) (within f.one.letters (drop n.0 w) o.count o.few fits-here))
            ∙ sym (before-add w n.0 o.count);
        is = record { pattern = f.one; is = f.is; start = n.0; fits = fits-here; offset = o.count; at = refl; has = o.is ∙ has };
      }

  -- ---- values

  greatest-by : (n value digit : ℕ) → n ≤ length w → IsValue patterns w n value → HasDigit (map in_bytes patterns) (encodes w) (bytes_before w n) digit
      → (0 < digit) ⊎ (digit ≡ 0) → digit ≤ value
  greatest-by n value digit l v d (inl h) =
      let c = of-bytes (bytes_before w n) digit h d in
      let e : c.count ≡ n = sym (same-count w n c.count l c.few c.at) in
      v.greatest digit (subst (λ m. HasDigit patterns w m digit) e c.is)
  greatest-by n value digit l v d (inr h) = omega (arith, h)

  pub value-bytes : (n value : ℕ) → n ≤ length w → IsValue patterns w n value → IsValue (map in_bytes patterns) (encodes w) (bytes_before w n) value
  value-bytes n value l v = record {
    greatest = λ digit d. greatest-by n value digit l v d (some-or digit);
    is = λ h. to-bytes n value h (v.is h);
  }

  least-by : (n value digit : ℕ) → IsValue (map in_bytes patterns) (encodes w) (bytes_before w n) value → HasDigit patterns w n digit → (0 < digit) ⊎ (digit ≡ 0) → digit ≤ value
  least-by n value digit v d (inl h) = v.greatest digit (to-bytes n digit h d)
  least-by n value digit v d (inr h) = omega (arith, h)

  pub value-characters : (n value : ℕ) → n ≤ length w → IsValue (map in_bytes patterns) (encodes w) (bytes_before w n) value → IsValue patterns w n value
  value-characters n value l v = record {
    greatest = λ digit d. least-by n value digit v d (some-or digit);
    is = λ h.
        let c = of-bytes (bytes_before w n) value h (v.is h) in
        let e : c.count ≡ n = sym (same-count w n c.count l c.few c.at) in
        subst (λ m. HasDigit patterns w m value) e c.is;
  }

-- ---- points

encode-dot : encode 46 ≡ 46 ∷ []
unfolding encode
encode-dot = refl

edged-encodes : (word : List ℕ) → edged (encodes word) ≡ encodes (edged word)
edged-encodes word =
    sym (ap (λ xs. xs ++ encodes (word ++ 46 ∷ [])) encode-dot
    ∙ ap (λ xs. 46 ∷ xs) (encodes-append word (46 ∷ []) ∙ ap (λ xs. encodes word ++ xs) (append-nil (encode 46) ∙ encode-dot)))

before-edged : (word : List ℕ) (count : ℕ) → count ≤ length word → bytes_before (edged word) (count + 1) ≡ bytes_before word count + 1
before-edged word count h =
    let next : count + 1 ≡ suc count = omega arith in
    let one : take (count + 1) (edged word) ≡ 46 ∷ take count word =
    ap (λ n. take n (edged word)) next ∙ ap (λ xs. 46 ∷ xs) (take-append-le count word (46 ∷ []) h) in
    let length-one : length (encode 46) ≡ 1 = ap length encode-dot in
    ap (λ xs. length (encodes xs)) one ∙ omega (arith, length-append (encode 46) (encodes (take count word)), length-one)

whole-word : (word : List ℕ) → bytes_before word (length word) ≡ length (encodes word)
whole-word word = ap (λ xs. length (encodes xs)) (take_all (length word) word (omega arith))

length-edged' : (word : List ℕ) → length (edged word) ≡ length word + 2
length-edged' word = omega (arith, length-append word (46 ∷ []))

module _ (hyphenation : Hyphenation) (word : List ℕ) (whole : All IsWhole hyphenation.patterns) where
  left-are : (count : ℕ) → count ≤ length word → characters (take (bytes_before word count) (encodes word)) ≡ count
  left-are count h = ap characters (take-encodes word count) ∙ characters-encodes (take count word) ∙ length-take-le count word h

  right-are : (count : ℕ) → count ≤ length word → characters (drop (bytes_before word count) (encodes word)) + count ≡ length word
  right-are count h =
      let e : characters (drop (bytes_before word count) (encodes word)) ≡ length (drop count word) =
      ap characters (drop-encodes word count) ∙ characters-encodes (drop count word) in
      omega (arith, e, h, length-drop count word)

  pub to-point : (place count : ℕ) → place ≡ bytes_before word count → IsCharacterPoint hyphenation word count
      → IsPoint (all_in_bytes hyphenation) (encodes word) place
  to-point place count e p =
      let l : count ≤ length word = omega (arith, p.inside) in
      let value-is : IsValue (map in_bytes hyphenation.patterns) (edged (encodes word)) (bytes_before word count + 1) p.value =
      subst (λ xs. IsValue (map in_bytes hyphenation.patterns) xs (bytes_before word count + 1) p.value) (sym (edged-encodes word))
      (subst (λ n. IsValue (map in_bytes hyphenation.patterns) (encodes (edged word)) n p.value) (before-edged word count l)
      (value-bytes hyphenation.patterns (edged word) whole (count + 1) p.value (omega (arith, l, length-edged' word)) p.is)) in
      subst (IsPoint (all_in_bytes hyphenation) (encodes word)) (sym e) (record {
        inside = omega (arith, before-more word count (length word) p.inside (omega arith), whole-word word);
        first = ap is_first (sym (get_or-drop (bytes_before word count) (encodes word) 0 0 ∙ ap (λ k. get_or (encodes word) k 0) (omega arith)))
            ∙ ap (λ xs. is_first (get_or xs 0 0)) (drop-encodes word count) ∙ first-of (drop count word) (omega (arith, p.inside, length-drop count word));
        value = p.value;
        is = value-is;
        odd = p.odd;
        left = omega (arith, p.left, left-are count l);
        right = omega (arith, p.right, right-are count l);
      })

  pub of-point : (place : ℕ) → IsPoint (all_in_bytes hyphenation) (encodes word) place
      → (count : ℕ) × ((place ≡ bytes_before word count) × IsCharacterPoint hyphenation word count)
  of-point place p =
      let n = at-boundary word place p.inside p.first in
      let l : n.0 ≤ length word = omega (arith, n.1) in
      let value-is : IsValue hyphenation.patterns (edged word) (n.0 + 1) p.value =
      value-characters hyphenation.patterns (edged word) whole (n.0 + 1) p.value (omega (arith, l, length-edged' word))
      (subst (λ m. IsValue (map in_bytes hyphenation.patterns) (encodes (edged word)) m p.value) (ap (λ m. m + 1) n.2 ∙ sym (before-edged word n.0 l))
      (subst (λ xs. IsValue (map in_bytes hyphenation.patterns) xs (place + 1) p.value) (edged-encodes word) p.is)) in (
        n.0,
        (
          n.2,
          record {
            inside = n.1;
            value = p.value;
            is = value-is;
            odd = p.odd;
            left = omega (arith, p.left, ap (λ s. characters (take s (encodes word))) n.2, left-are n.0 l);
            right = omega (arith, p.right, ap (λ s. characters (drop s (encodes word))) n.2, right-are n.0 l);
          },
        ),
      )
