-- The words of a text, and their points.
use Rattle.std.proofs.Common.{◌≡◌, true, false, ℕ, ◌+◌, ◌-◌, ◌<◌, ◌≤◌, ◌⊎◌, inl, inr, List, [], ◌∷◌, ◌++◌, length, get_or, take, drop, refl, sym, ap, subst, ◌∙◌, arith, encode_utf8_all}
use Rattle.std.proofs.lemmas.Bool.{cases_lt, false≢true}
use Rattle.std.proofs.lemmas.List.{append_assoc, drop-drop, drop_all, drop_at, drop_more, get_or-append_right, get_or-drop, get_or-take, get_or_append_left, get_or_at, get_or_default, get_or_push, length-append, length-drop, length-map, length-take, take-append-drop, take_all, take_at}
use Rattle.std.proofs.lemmas.List.Sums.{prefix_len-le-length, prefix_len_passes, prefix_len_stops}
use Rattle.std.specs.List.{prefix_len}
use Rattle.seg_hyphens.specs.Liang.{Hyphenation}
use Rattle.seg_hyphens.specs.Words.{IsPointInside, IsWord, IsWordPoint, is_letter, lower_of, lowered}

-- a point stands strictly inside its word
pub inside-word : (hyphenation : Hyphenation) (word : List ℕ) (inside : ℕ) → IsPointInside hyphenation word inside → inside < length word
inside-word hyphenation word inside p = by (cases_lt inside (length word)) where
  by : (inside < length word) ⊎ (length word ≤ inside) → inside < length word
  by (inl h) = h
  by (inr h) =
      let all : take inside (lowered word) ≡ lowered word = take_all inside (lowered word) (omega (arith, h, length-map word lower_of)) in
      absurd (omega (arith, p.point.inside, ap (λ xs. length (encode_utf8_all xs)) all))

-- so it does in the text
pub word-point-within : (hyphenation : Hyphenation) (characters : List ℕ) (count : ℕ) → IsWordPoint hyphenation characters count
    → (0 < count) × (count < length characters)
word-point-within hyphenation characters count p = (
  omega (arith, p.counted, p.point.some),
  omega (arith, p.counted, inside-word hyphenation p.word p.inside p.point, ap length p.split, length-append p.before (p.word ++ p.after), length-append p.word p.after),
)

-- a longest run of letters, which stands behind so many characters and has so many
pub record IsRun (characters : List ℕ) (start count : ℕ) : Type 0 where
  pub inside : start + count ≤ length characters
  pub letters : (i : ℕ) → start ≤ i → i < start + count → is_letter (get_or characters i 0) ≡ true
  pub starts : (i : ℕ) → i + 1 ≡ start → is_letter (get_or characters i 0) ≡ false
  pub ends : start + count < length characters → is_letter (get_or characters (start + count) 0) ≡ false

-- of two that share a place neither begins nor ends inside the other
module _ (characters : List ℕ) (a n b m i : ℕ) (p : IsRun characters a n) (q : IsRun characters b m)
    (la : a ≤ i) (ha : i < a + n) (lb : b ≤ i) (hb : i < b + m) where
  no-start : b < a → ⊥
  no-start h = false≢true (sym (p.starts (a - 1) (omega (arith, h))) ∙ q.letters (a - 1) (omega (arith, h)) (omega (arith, h, la, hb)))

  no-end : a + n < b + m → ⊥
  no-end h = false≢true (sym (p.ends (omega (arith, h, q.inside))) ∙ q.letters (a + n) (omega (arith, ha, lb)) h)

-- so they are the same
pub same-run : (characters : List ℕ) (a n b m i : ℕ) → IsRun characters a n → IsRun characters b m
    → a ≤ i → i < a + n → b ≤ i → i < b + m → (a ≡ b) × (a + n ≡ b + m)
same-run characters a n b m i p q la ha lb hb = (
  from-no a b (no-start characters b m a n i q p lb hb la ha) (no-start characters a n b m i p q la ha lb hb),
  from-no (a + n) (b + m) (no-end characters a n b m i p q la ha lb hb) (no-end characters b m a n i q p lb hb la ha),
) where
  from-no : (x y : ℕ) → (x < y → ⊥) → (y < x → ⊥) → x ≡ y
  from-no x y f g = by (cases_lt x y) (cases_lt y x) where
    by : (x < y) ⊎ (y ≤ x) → (y < x) ⊎ (x ≤ y) → x ≡ y
    by (inl h) k = absurd (f h)
    by (inr h) (inl k) = absurd (g k)
    by (inr h) (inr k) = omega (arith, h, k)

-- a word is a run
module _ (before word : List ℕ) where
  pub run-of : (after : List ℕ) → IsWord before word after → IsRun (before ++ (word ++ after)) (length before) (length word)
  run-of after w = record {
    inside = omega (arith, length-append before (word ++ after), length-append word after);
    letters = λ i low high. let inside : i - length before < length word = omega (arith, low, high) in
        ap is_letter (get_or-append_right before (word ++ after) (length before) i 0 refl low ∙ get_or_append_left word after 0 (i - length before) inside)
        ∙ w.letters (i - length before) 0 inside;
    starts = starts;
    ends = λ h. ends after w.ends h;
  } where
    starts : (i : ℕ) → i + 1 ≡ length before → is_letter (get_or (before ++ (word ++ after)) i 0) ≡ false
    starts i h =
        let inside : i < length before = omega (arith, h) in
        let gone : drop (i + 1) before ≡ [] = drop_all (i + 1) before (omega (arith, h)) in
        let split : before ≡ take i before ++ get_or before i 0 ∷ [] =
        sym (take-append-drop i before) ∙ ap (λ xs. take i before ++ xs) (drop_more before i 0 inside ∙ ap (λ xs. get_or before i 0 ∷ xs) gone) in
        ap is_letter (get_or_append_left before (word ++ after) 0 i inside) ∙ w.starts (take i before) (get_or before i 0) split

    ends : (after : List ℕ) → ((c : ℕ) (others : List ℕ) → after ≡ c ∷ others → is_letter c ≡ false)
        → length before + length word < length (before ++ (word ++ after)) → is_letter (get_or (before ++ (word ++ after)) (length before + length word) 0) ≡ false
    ends [] none h = absurd (omega (arith, h, length-append before (word ++ []), length-append word []))
    ends (c ∷ others) none h =
        ap is_letter (ap (λ xs. get_or xs (length before + length word) 0) (sym (append_assoc before word (c ∷ others)))
        ∙ get_or_at (before ++ word) c others 0 (length before + length word) (length-append before word)) ∙ none c others refl

-- a run is a word
module _ (characters : List ℕ) (start count : ℕ) (run : IsRun characters start count) where
  abbrev word : List ℕ
  word = take count (drop start characters)

  word-of : IsWord (take start characters) word (drop (start + count) characters)
  word-of = record {
    letters = λ k d h. let inside : k < count = omega (arith, h, length-take count (drop start characters)) in
        ap is_letter (get_or-take count (drop start characters) k d inside ∙ get_or-drop start characters k d
        ∙ get_or_default characters (start + k) d 0 (omega (arith, run.inside, inside)))
        ∙ run.letters (start + k) (omega arith) (omega (arith, inside));
    starts = λ others c e.
        let long : length others + 1 ≡ start = omega (arith, ap length e, length-append others (c ∷ []), length-take start characters, run.inside) in
        let at : get_or characters (length others) 0 ≡ c =
        sym (get_or-take start characters (length others) 0 (omega (arith, long))) ∙ ap (λ xs. get_or xs (length others) 0) e ∙ get_or_push others c 0 (length others) refl in
        ap is_letter (sym at) ∙ run.starts (length others) long;
    ends = λ c others e.
        let inside : start + count < length characters = omega (arith, ap length e, length-drop (start + count) characters) in
        let none : start + count + 0 ≡ start + count = omega arith in
        let at : get_or characters (start + count) 0 ≡ c =
        ap (λ n. get_or characters n 0) (sym none) ∙ sym (get_or-drop (start + count) characters 0 0) ∙ ap (λ xs. get_or xs 0 0) e in
        ap is_letter (sym at) ∙ run.ends inside;
  }

  split : characters ≡ take start characters ++ (word ++ drop (start + count) characters)
  split =
      sym (take-append-drop start characters) ∙ ap (λ xs. take start characters ++ xs)
      (sym (take-append-drop count (drop start characters)) ∙ ap (λ xs. word ++ xs) (drop-drop count start characters))

  module _ (hyphenation : Hyphenation) where
    pub to-text : (inside : ℕ) → IsPointInside hyphenation word inside → IsWordPoint hyphenation characters (start + inside)
    to-text inside p = record {
      before = take start characters;
      word = word;
      after = drop (start + count) characters;
      split = split;
      is = word-of;
      inside = inside;
      point = p;
      counted = omega (arith, length-take start characters, run.inside);
    }

    -- the run in which a point of the text stands
    run-at : (place : ℕ) (p : IsWordPoint hyphenation characters place) → IsRun characters (length p.before) (length p.word)
    run-at place p = subst (λ xs. IsRun xs (length p.before) (length p.word)) (sym p.split) (run-of p.before p.word p.after p.is)

    pub from-text : (inside : ℕ) → inside < count → IsWordPoint hyphenation characters (start + inside) → IsPointInside hyphenation word inside
    from-text inside h p =
        let few = inside-word hyphenation p.word p.inside p.point in
        let same = same-run characters start count (length p.before) (length p.word) (start + inside) run (run-at (start + inside) p)
        (omega arith) (omega (arith, h)) (omega (arith, p.counted)) (omega (arith, p.counted, few)) in
        let count-same : length p.word ≡ count = omega (arith, same.0, same.1) in
        let inside-same : p.inside ≡ inside = omega (arith, same.0, p.counted) in
        let rest : drop start characters ≡ p.word ++ p.after = ap (drop start) p.split ∙ drop_at p.before (p.word ++ p.after) start (sym same.0) in
        let word-same : p.word ≡ word = sym (take_at p.word p.after count count-same) ∙ ap (take count) (sym rest) in
        subst (λ xs. IsPointInside hyphenation xs inside) word-same (subst (IsPointInside hyphenation p.word) inside-same p.point)

    -- no point stands right behind a run
    pub none-behind : IsWordPoint hyphenation characters (start + count) → ⊥
    none-behind p =
        let few = inside-word hyphenation p.word p.inside p.point in
        false≢true (sym (run.ends (word-point-within hyphenation characters (start + count) p).1)
        ∙ (run-at (start + count) p).letters (start + count) (omega (arith, p.counted)) (omega (arith, p.counted, few)))

-- the longest run of letters from a place on that no letter stands before
pub run-prefix : (characters : List ℕ) (start : ℕ) → start ≤ length characters → ((i : ℕ) → i + 1 ≡ start → is_letter (get_or characters i 0) ≡ false)
    → IsRun characters start (prefix_len is_letter (drop start characters))
run-prefix characters start few apart = record {
  inside = omega (arith, few, prefix_len-le-length is_letter (drop start characters), length-drop start characters);
  letters = λ i low high.
      let at : start + (i - start) ≡ i = omega (arith, low) in
      ap is_letter (ap (λ n. get_or characters n 0) (sym at) ∙ sym (get_or-drop start characters (i - start) 0))
      ∙ prefix_len_passes is_letter (drop start characters) (i - start) 0 (omega (arith, low, high));
  starts = apart;
  ends = λ h.
      ap is_letter (sym (get_or-drop start characters (prefix_len is_letter (drop start characters)) 0))
      ∙ prefix_len_stops is_letter (drop start characters) 0 (omega (arith, h, length-drop start characters));
}
