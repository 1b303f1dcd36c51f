-- The places of a word's points, as far as it is read.
use Rattle.std.proofs.Common.{◌≡◌, ◌↔◌, Bool, true, false, ℕ, ◌+◌, ◌<◌, ◌≤◌, ◌⊎◌, inl, inr, List, [], ◌∷◌, ◌++◌, length, get_or, take, drop, refl, sym, ap, subst, ◌∙◌, arith, Contains, IsTrue, encode_utf8, encode_utf8_all}
use Rattle.std.proofs.lemmas.List.{append-nil, append_assoc, length-append, length-drop, length-map, map-append, get_or-drop, get_or-map, drop-drop, take_more, take-append-drop}
use Rattle.std.proofs.lemmas.Bool.{cases_lt, false≢true}
use Rattle.std.proofs.lemmas.Str.{encodes-append}
use Rattle.std.specs.List.Sorted.{IsStrictlyIncreasing}
use Rattle.seg_text.specs.Items.{Item, Text, code_points, start_of, place_of, rest_after}
use Rattle.seg_hyphens.specs.declared.patterns.HyphenationPatterns.{HyphenationPatterns}
use Rattle.seg_hyphens.specs.Liang.{ArePoints, Hyphenation}
use Rattle.seg_hyphens.specs.Patterns.{Means}
use Rattle.seg_hyphens.specs.Words.{AreRising, AreThose, HasPoint, IsPointInside, PushesPoints, PushesWord, lower_of, lowered, places_behind}
use Rattle.seg_hyphens.proofs.Letters.{before-more}
use Rattle.seg_hyphens.proofs.Within.{rising-more, rising-none, rising-wider, those-more, those-none, those-same, those-skip}

-- what is left behind one more item
pub next-rest : (whole left after : Text) (item : Item) (n : ℕ) → left ≡ rest_after n whole → left.items ≡ item ∷ after.items → after.end ≡ left.end
    → after ≡ rest_after (n + 1) whole
next-rest whole left after item n rest is end =
    let items : after.items ≡ drop (n + 1) whole.items =
    ap (drop 1) (sym is ∙ ap (λ (t : Text). t.items) rest) ∙ drop-drop 1 n whole.items in
    let same : after.end ≡ whole.end = end ∙ ap (λ (t : Text). t.end) rest in
    rw (← items, ← same) refl

pub first-inside : (items after : List Item) (item : Item) (n : ℕ) → drop n items ≡ item ∷ after → n < length items
first-inside items after item n is = omega (arith, ap length is, length-drop n items)

pub record IsFinding (points : List ℕ) (word left : Text) (old new : List ℕ) (offset : ℕ) : Type 0 where
  pub taken : ℕ
  pub few : taken ≤ length word.items
  pub rest : left ≡ rest_after taken word
  pub at : offset ≡ length (encode_utf8_all (take taken (lowered (code_points word.items))))
  pub insides : List ℕ
  pub rising : AreRising 1 taken insides
  pub are : IsStrictlyIncreasing points → AreThose (HasPoint points (lowered (code_points word.items))) 0 taken insides
  pub places : new ≡ old ++ places_behind word insides

pub finding-none : (points : List ℕ) (word left : Text) (old : List ℕ) → left ≡ word → IsFinding points word left old old 0
finding-none points word left old same = record {
  taken = 0;
  few = omega arith;
  rest = same;
  at = refl;
  insides = [];
  rising = rising-none 1 0;
  are = λ up. those-none _ 0;
  places = sym (append-nil old);
}

module _ (points : List ℕ) (word left : Text) (old new : List ℕ) (offset : ℕ) (f : IsFinding points word left old new offset)
    (item : Item) (after : Text) (is : left.items ≡ item ∷ after.items) where
  abbrev lower : List ℕ
  lower = lowered (code_points word.items)

  rest-is : drop f.taken word.items ≡ item ∷ after.items
  rest-is = sym (ap (λ (t : Text). t.items) f.rest) ∙ is

  inside : f.taken < length word.items
  inside = first-inside word.items after.items item f.taken rest-is

  long : length lower ≡ length word.items
  long = length-map (code_points word.items) lower_of ∙ length-map word.items (λ (item : Item). item.1)

  here : get_or lower f.taken 0 ≡ lower_of item.1
  here =
      get_or-map lower_of (code_points word.items) f.taken 0 0 (omega (arith, inside, length-map word.items (λ (item : Item). item.1)))
      ∙ ap lower_of (get_or-map (λ (item : Item). item.1) word.items f.taken item 0 inside
      ∙ ap (λ (item : Item). item.1) (ap (λ n. get_or word.items n item) (sym (add-nil f.taken)) ∙ sym (get_or-drop f.taken word.items 0 item) ∙ ap (λ (items : List Item). get_or items 0 item) rest-is)) where
        add-nil : (n : ℕ) → n + 0 ≡ n
        add-nil n = omega arith

  pub next-at : offset + length (encode_utf8 (lower_of item.1)) ≡ length (encode_utf8_all (take (f.taken + 1) lower))
  next-at =
      let split : take (f.taken + 1) lower ≡ take f.taken lower ++ lower_of item.1 ∷ [] =
      take_more lower f.taken 0 (omega (arith, inside, long)) ∙ ap (λ c. take f.taken lower ++ c ∷ []) here in
      let one : encode_utf8_all (lower_of item.1 ∷ []) ≡ encode_utf8 (lower_of item.1) = append-nil (encode_utf8 (lower_of item.1)) in
      let whole : encode_utf8_all (take (f.taken + 1) lower) ≡ encode_utf8_all (take f.taken lower) ++ encode_utf8 (lower_of item.1) =
      ap encode_utf8_all split ∙ encodes-append (take f.taken lower) (lower_of item.1 ∷ []) ∙ ap (λ xs. encode_utf8_all (take f.taken lower) ++ xs) one in
      omega (arith, ap length whole, f.at, length-append (encode_utf8_all (take f.taken lower)) (encode_utf8 (lower_of item.1)))

  before-all : (n : ℕ) → length (encode_utf8_all (take n lower)) ≤ length (encode_utf8_all lower)
  before-all n =
      let whole : length (encode_utf8_all lower) ≡ length (encode_utf8_all (take n lower)) + length (encode_utf8_all (drop n lower)) =
      ap (λ xs. length (encode_utf8_all xs)) (sym (take-append-drop n lower)) ∙ ap length (encodes-append (take n lower) (drop n lower))
      ∙ length-append (encode_utf8_all (take n lower)) (encode_utf8_all (drop n lower)) in
      omega (arith, whole)

  -- the sum fits where the whole word does
  pub next-few : offset + length (encode_utf8 (lower_of item.1)) ≤ length (encode_utf8_all lower)
  next-few = omega (arith, next-at, before-all (f.taken + 1))

  -- bytes are those of some characters
  some-taken : 0 < offset → 0 < f.taken
  some-taken h = by (cases_lt 0 f.taken) where
    by : (0 < f.taken) ⊎ (f.taken ≤ 0) → 0 < f.taken
    by (inl a) = a
    by (inr a) =
        let none : f.taken ≡ 0 = omega (arith, a) in
        absurd (omega (arith, h, f.at ∙ ap (λ n. length (encode_utf8_all (take n lower))) none))

  -- whether there is a point here
  here-has : ((0 < offset) × Contains points offset) ↔ HasPoint points lower f.taken
  here-has = (λ h. (some-taken h.0, subst (Contains points) f.at h.1), λ h. (more h.0, subst (Contains points) (sym f.at) h.1)) where
    more : 0 < f.taken → 0 < offset
    more h = omega (arith, f.at, before-more lower 0 f.taken h (omega (arith, f.few, long)))

  pushed : places_behind word (f.insides ++ f.taken ∷ []) ≡ places_behind word f.insides ++ item.0 ∷ []
  pushed =
      map-append (λ count. start_of (rest_after count word)) f.insides (f.taken ∷ [])
      ∙ ap (λ (items : List Item). places_behind word f.insides ++ place_of items word.end ∷ []) rest-is

  pub finding-next : (is_point : Bool) (new' : List ℕ) (len : ℕ) → after.end ≡ left.end → (IsTrue is_point → 0 < offset)
      → (IsStrictlyIncreasing points → (IsTrue is_point ↔ ((0 < offset) × Contains points offset)))
      → ((is_point ≡ true) × (new' ≡ new ++ item.0 ∷ [])) ⊎ ((is_point ≡ false) × (new' ≡ new))
      → len ≡ length (encode_utf8 (lower_of item.1)) → IsFinding points word after old new' (offset + len)
  finding-next is_point new' len end some tells (inl p) l = record {
    taken = f.taken + 1;
    few = omega (arith, inside);
    rest = next-rest word left after item f.taken f.rest is end;
    at = ap (λ n. offset + n) l ∙ next-at;
    insides = f.insides ++ f.taken ∷ [];
    rising = rising-more 1 f.taken f.insides (omega (arith, some-taken (some p.0))) f.rising;
    are = λ up. those-more (HasPoint points lower) 0 f.taken f.insides (f.are up) (here-has.0 ((tells up).0 p.0));
    places = p.1 ∙ ap (λ xs. xs ++ item.0 ∷ []) f.places ∙ append_assoc old (places_behind word f.insides) (item.0 ∷ []) ∙ ap (λ xs. old ++ xs) (sym pushed);
  }
  finding-next is_point new' len end some tells (inr p) l = record {
    taken = f.taken + 1;
    few = omega (arith, inside);
    rest = next-rest word left after item f.taken f.rest is end;
    at = ap (λ n. offset + n) l ∙ next-at;
    insides = f.insides;
    rising = rising-wider 1 f.taken 1 (f.taken + 1) f.insides (omega arith) (omega arith) f.rising;
    are = λ up. those-skip (HasPoint points lower) 0 f.taken (f.taken + 1) f.insides (f.are up) (λ m low high h.
        let same : m ≡ f.taken = omega (arith, low, high) in
        let wrong : IsTrue is_point = (tells up).1 (here-has.1 (subst (HasPoint points lower) same h)) in
        false≢true (sym p.0 ∙ wrong));
    places = p.1 ∙ f.places;
  }

-- all is read
pub finding-done : (points : List ℕ) (word left : Text) (old new : List ℕ) (offset : ℕ) → IsFinding points word left old new offset → left.items ≡ []
    → PushesPoints points word old new
finding-done points word left old new offset f none =
    let gone : drop f.taken word.items ≡ [] = sym (ap (λ (t : Text). t.items) f.rest) ∙ none in
    let all : f.taken ≡ length word.items = omega (arith, f.few, ap length gone, length-drop f.taken word.items) in
    record {
      insides = f.insides;
      rising = subst (λ n. AreRising 1 n f.insides) all f.rising;
      are = λ up. subst (λ n. AreThose (HasPoint points (lowered (code_points word.items))) 0 n f.insides) all (f.are up);
      places_are = f.places;
    }

-- the points of the word in lower case are those of the word
pub pushes-word : (patterns : HyphenationPatterns) (word : Text) (bytes points old new : List ℕ) → bytes ≡ encode_utf8_all (lowered (code_points word.items))
    → ((hyphenation : Hyphenation) → Means patterns hyphenation → ArePoints hyphenation bytes points)
    → PushesPoints points word old new → PushesWord patterns word old new
pushes-word patterns word bytes points old new is all pushes = record {
  insides = pushes.insides;
  rising = pushes.rising;
  are = λ hyphenation means.
      let a = subst (λ bytes. ArePoints hyphenation bytes points) is (all hyphenation means) in
      those-same (HasPoint points (lowered (code_points word.items))) (IsPointInside hyphenation (code_points word.items)) 0 (length word.items) pushes.insides
      (λ n h. record { some = h.0; point = (a.are (length (encode_utf8_all (take n (lowered (code_points word.items)))))).0 h.1 })
      (λ n high h. (h.some, (a.are (length (encode_utf8_all (take n (lowered (code_points word.items)))))).1 h.point))
      (pushes.are a.ordered);
  places_are = pushes.places_are;
}

-- no word, no points
pub pushes-none : (patterns : HyphenationPatterns) (word : Text) (old new : List ℕ) → length word.items ≡ 0 → new ≡ old → PushesWord patterns word old new
pushes-none patterns word old new none same = record {
  insides = [];
  rising = rising-none 1 (length word.items);
  are = λ hyphenation means. subst (λ n. AreThose (IsPointInside hyphenation (code_points word.items)) 0 n []) (sym none)
      (those-none (IsPointInside hyphenation (code_points word.items)) 0);
  places_are = same ∙ sym (append-nil old);
}
