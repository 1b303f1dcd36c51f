-- The places where the words of a text may be hyphenated, as far as it is read.
use Rattle.std.proofs.Common.{◌≡◌, false, ℕ, ◌+◌, ◌<◌, ◌≤◌, List, [], ◌∷◌, ◌++◌, All, length, get_or, map, min, take, drop, refl, sym, ap, subst, ◌∙◌, arith}
use Rattle.std.proofs.lemmas.List.{drop-drop, drop-map, length-drop, length-map, length-take, map-append, take-map}
use Rattle.std.proofs.lemmas.List.Elements.{All-head, All-tail, All-weaker}
use Rattle.std.specs.List.{prefix_len}
use Rattle.seg_text.specs.Items.{Item, Text, code_points, prefix_length, rest_after, start_of, text_before}
use Rattle.seg_text.proofs.Places.{place-before}
use Rattle.seg_hyphens.specs.declared.patterns.HyphenationPatterns.{HyphenationPatterns}
use Rattle.seg_hyphens.specs.Liang.{Hyphenation}
use Rattle.seg_hyphens.specs.Patterns.{Means}
use Rattle.seg_hyphens.specs.Words.{AreRising, AreThose, IsPointInside, IsWordPoint, PlacesIn, PushesWord, is_letter, places_behind}
use Rattle.seg_hyphens.proofs.Within.{rising-append, rising-none, rising-shifted, rising-wider, those-append, those-none, those-same, those-shifted, those-skip}
use Rattle.seg_hyphens.proofs.WordPoints.{IsRun, from-text, none-behind, run-prefix, to-text, word-point-within}

pub record IsWalking (patterns : HyphenationPatterns) (whole left : Text) (places : List ℕ) : Type 0 where
  pub taken : ℕ
  pub rest : left ≡ rest_after taken whole
  pub apart : taken < length whole.items → (i : ℕ) → i + 1 ≡ taken → is_letter (get_or (code_points whole.items) i 0) ≡ false
  pub counts : List ℕ
  pub rising : AreRising 1 (min taken (length whole.items)) counts
  pub are : (hyphenation : Hyphenation) → Means patterns hyphenation → AreThose (IsWordPoint hyphenation (code_points whole.items)) 0 taken counts
  pub places_are : places ≡ places_behind whole counts

pub walking-none : (patterns : HyphenationPatterns) (whole left : Text) (places : List ℕ) → left ≡ whole → places ≡ [] → IsWalking patterns whole left places
walking-none patterns whole left places same none = record {
  taken = 0;
  rest = same;
  apart = λ some i h. absurd (omega (arith, h));
  counts = [];
  rising = rising-none 1 (min 0 (length whole.items));
  are = λ hyphenation means. those-none (IsWordPoint hyphenation (code_points whole.items)) 0;
  places_are = none;
}

codes : (items : List Item) → length (code_points items) ≡ length items
codes items = length-map items (λ (item : Item). item.1)

-- places in a word stand at the same places in the text
places-in : (whole : Text) (n k : ℕ) (insides : List ℕ) → All (λ inside. inside < k) insides
    → places_behind (text_before k (rest_after n whole)) insides ≡ places_behind whole (map (λ inside. n + inside) insides)
places-in whole n k [] below = refl
places-in whole n k (inside ∷ insides) below =
    let first : inside < k = All-head (λ inside. inside < k) inside insides below in
    let at : start_of (rest_after inside (text_before k (rest_after n whole))) ≡ start_of (rest_after (n + inside) whole) =
    place-before (drop n whole.items) whole.end k inside (omega (arith, first)) ∙ ap (λ items. start_of (record { items = items; end = whole.end })) (drop-drop inside n whole.items) in
    ap (λ place. place ∷ places_behind (text_before k (rest_after n whole)) insides) at
    ∙ ap (λ places. start_of (rest_after (n + inside) whole) ∷ places) (places-in whole n k insides (All-tail (λ inside. inside < k) inside insides below))

module _ (patterns : HyphenationPatterns) (whole left word after : Text) (old new : List ℕ) (w : IsWalking patterns whole left old)
    (some : 0 < length left.items) (prefix : word ≡ text_before (prefix_length is_letter left) left)
    (behind : after ≡ rest_after 1 (rest_after (prefix_length is_letter left) left)) where
  abbrev characters : List ℕ
  characters = code_points whole.items

  -- how many letters the word has
  abbrev count : ℕ
  count = prefix_len is_letter (drop w.taken characters)

  count-is : prefix_length is_letter left ≡ count
  count-is =
      ap (λ (t : Text). prefix_length is_letter t) w.rest ∙ ap (prefix_len is_letter) (sym (drop-map (λ (item : Item). item.1) w.taken whole.items))

  inside : w.taken < length whole.items
  inside = omega (arith, some, ap (λ (t : Text). length t.items) w.rest, length-drop w.taken whole.items)

  run : IsRun characters w.taken count
  run = run-prefix characters w.taken (omega (arith, inside, codes whole.items)) (w.apart inside)

  word-is : word ≡ text_before count (rest_after w.taken whole)
  word-is = prefix ∙ ap (λ n. text_before n left) count-is ∙ ap (text_before count) w.rest

  word-codes : code_points word.items ≡ take count (drop w.taken characters)
  word-codes =
      ap (λ (t : Text). code_points t.items) word-is ∙ sym (take-map (λ (item : Item). item.1) count (drop w.taken whole.items))
      ∙ ap (take count) (sym (drop-map (λ (item : Item). item.1) w.taken whole.items))

  word-long : length word.items ≡ count
  word-long =
      omega (
        arith,
        ap (λ (t : Text). length t.items) word-is,
        length-take count (drop w.taken whole.items),
        length-drop w.taken whole.items,
        run.inside,
        codes whole.items,
      )

  after-is : after ≡ rest_after (w.taken + count + 1) whole
  after-is =
      behind ∙ ap (λ n. rest_after 1 (rest_after n left)) count-is ∙ ap (λ (t : Text). rest_after 1 (rest_after count t)) w.rest
      ∙ ap (λ items. record { items = items; end = whole.end })
      (ap (drop 1) (drop-drop count w.taken whole.items) ∙ drop-drop 1 (w.taken + count) whole.items)

  pub walking-smaller : length after.items < length left.items
  walking-smaller =
      omega (arith, some, ap (λ (t : Text). length t.items) after-is, ap (λ (t : Text). length t.items) w.rest, length-drop (w.taken + count + 1) whole.items, length-drop w.taken whole.items)

  module _ (pushes : PushesWord patterns word old new) where
    abbrev counts : List ℕ
    counts = map (λ inside. w.taken + inside) pushes.insides

    here : (hyphenation : Hyphenation) → Means patterns hyphenation → AreThose (IsWordPoint hyphenation characters) w.taken (w.taken + count) counts
    here hyphenation means =
        those-shifted (IsWordPoint hyphenation characters) w.taken count pushes.insides
        (those-same (IsPointInside hyphenation (take count (drop w.taken characters))) (λ m. IsWordPoint hyphenation characters (w.taken + m)) 0 count pushes.insides
        (to-text characters w.taken count run hyphenation) (from-text characters w.taken count run hyphenation)
        (subst (λ n. AreThose (IsPointInside hyphenation (take count (drop w.taken characters))) 0 n pushes.insides) word-long
        (subst (λ xs. AreThose (IsPointInside hyphenation xs) 0 (length word.items) pushes.insides) word-codes (pushes.are hyphenation means))))

    inside-text : w.taken + count ≤ length whole.items
    inside-text = omega (arith, run.inside, codes whole.items)

    rising : AreRising 1 (min (w.taken + count + 1) (length whole.items)) (w.counts ++ counts)
    rising =
        let before : AreRising 1 (w.taken + 1) w.counts = rising-wider 1 (min w.taken (length whole.items)) 1 (w.taken + 1) w.counts (omega arith) (omega arith) w.rising in
        let here : AreRising (w.taken + 1) (w.taken + count) counts =
        rising-shifted w.taken 1 count pushes.insides (subst (λ n. AreRising 1 n pushes.insides) word-long pushes.rising) in
        rising-append 1 (w.taken + 1) (min (w.taken + count + 1) (length whole.items)) w.counts counts (omega arith) (omega (arith, inside)) before
        (rising-wider (w.taken + 1) (w.taken + count) (w.taken + 1) (min (w.taken + count + 1) (length whole.items)) counts (omega arith) (omega (arith, inside-text)) here)

    pub walking-next : IsWalking patterns whole after new
    walking-next = record {
      taken = w.taken + count + 1;
      rest = after-is;
      apart = λ more i h.
          let at : i ≡ w.taken + count = omega (arith, h) in
          ap (λ n. is_letter (get_or characters n 0)) at ∙ run.ends (omega (arith, more, codes whole.items));
      counts = w.counts ++ counts;
      rising = rising;
      are = λ hyphenation means. those-skip (IsWordPoint hyphenation characters) 0 (w.taken + count) (w.taken + count + 1) (w.counts ++ counts)
          (those-append (IsWordPoint hyphenation characters) 0 w.taken (w.taken + count) w.counts counts (w.are hyphenation means) (here hyphenation means))
          (λ m low high p. let at : m ≡ w.taken + count = omega (arith, low, high) in
          none-behind characters w.taken count run hyphenation (subst (IsWordPoint hyphenation characters) at p));
      places_are =
          let below : All (λ inside. inside < count) pushes.insides =
          All-weaker (λ inside. (1 ≤ inside) × (inside < length word.items)) (λ inside. inside < count) (λ inside h. omega (arith, h.1, word-long)) pushes.insides pushes.rising.within in
          let moved : places_behind word pushes.insides ≡ places_behind whole counts =
          ap (λ (t : Text). places_behind t pushes.insides) word-is ∙ places-in whole w.taken count pushes.insides below in
          pushes.places_are ∙ ap (λ xs. xs ++ places_behind word pushes.insides) w.places_are ∙ ap (λ xs. places_behind whole w.counts ++ xs) moved
          ∙ sym (map-append (λ count. start_of (rest_after count whole)) w.counts counts);
    }

-- all is read
pub walking-done : (patterns : HyphenationPatterns) (whole left : Text) (places : List ℕ) → IsWalking patterns whole left places → length left.items ≡ 0
    → PlacesIn patterns whole places
walking-done patterns whole left places w none = record {
  counts = w.counts;
  rising = subst (λ n. AreRising 1 n w.counts) whole-is w.rising;
  are = λ hyphenation means. let those = w.are hyphenation means in record {
    are = λ count. (
      those.are count,
      λ p. those.all count (omega arith)
          (omega (arith, (word-point-within hyphenation (code_points whole.items) count p).1, codes whole.items, all)) p,
    );
    ordered = w.rising.ordered;
  };
  places_are = w.places_are;
} where
  all : length whole.items ≤ w.taken
  all = omega (arith, ap (λ (t : Text). length t.items) w.rest, length-drop w.taken whole.items, none)

  whole-is : min w.taken (length whole.items) ≡ length whole.items
  whole-is = omega (arith, all)
