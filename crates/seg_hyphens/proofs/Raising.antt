-- Values that are raised.
use Rattle.std.proofs.Common.{◌≡◌, ℕ, ◌+◌, ◌-◌, ◌<◌, ◌≤◌, ◌⊎◌, inl, inr, Bool, true, false, nat_lt, max, Option, Some, None, List, [], ◌∷◌, ◌++◌, length, get_or, take, drop, refl, sym, ap, subst, ◌∙◌, arith}
use Rattle.std.proofs.lemmas.Bool.Decides.{nat_tests}
use Rattle.std.proofs.lemmas.List.{length-append, length-drop, length-take, length-take-le, take_more, get_or-drop, take-append-drop, take-take}
use Rattle.std.proofs.Math.ListN.{get_or-eq_default}
use Rattle.std.specs.Option.{option_map_or}
use Rattle.seg_hyphens.specs.declared.trie.Trie.{Trie}
use Rattle.seg_hyphens.specs.Liang.{Fits, HasDigit, IsValue, Pattern}
use Rattle.seg_hyphens.specs.Tries.{IsSound, Keeps, child, kept, node_digits, walk}
use Rattle.seg_hyphens.specs.Values.{AreRaised, IsDone, IsFound, IsNode, digit_from}
use Rattle.seg_hyphens.proofs.Growing.{either}
use Rattle.seg_hyphens.proofs.Nodes.{walk-append, walk-none, walk-one}

-- ---- cases of two numbers

pub below-or : (m n : ℕ) → (m < n) ⊎ (n ≤ m)
below-or m n = by (nat_lt m n) refl where
  by : (b : Bool) → nat_lt m n ≡ b → (m < n) ⊎ (n ≤ m)
  by true e = inl (grind (arith, nat_tests))
  by false e = inr (grind (arith, nat_tests))

-- ---- nothing was looked up

not-done : (letters : List ℕ) (start count : ℕ) → IsDone letters 0 0 start count → ⊥
not-done letters start count (h, inl a) = absurd (omega (arith, a))
not-done letters start count (h, inr a) = absurd (omega (arith, a.1))

pub raised-none : (trie : Trie) (letters values : List ℕ) → ((place : ℕ) → get_or values place 0 ≡ 0) → AreRaised trie letters 0 0 values
raised-none trie letters values zero = record {
  greatest = λ start count offset done h. absurd (not-done letters start count done);
  are = λ place h. absurd (omega (arith, h, zero place));
}

-- ---- one node more

module _ (trie : Trie) (letters old new digits : List ℕ) (bound fewer node : ℕ) (raised : AreRaised trie letters bound fewer old)
    (inside : bound + fewer ≤ length letters) (at : walk (child trie) 0 (take fewer (drop bound letters)) ≡ Some node)
    (are : digits ≡ node_digits trie.ranges.items trie.digits.items node) (long : length new ≡ length old)
    (behind : (offset : ℕ) → bound + offset < length old → get_or new (bound + offset) 0 ≡ max (get_or old (bound + offset) 0) (get_or digits offset 0))
    (before : (place : ℕ) → place < bound → get_or new place 0 ≡ get_or old place 0) where
  same-digits : (offset : ℕ) → digit_from trie letters bound fewer offset ≡ get_or digits offset 0
  same-digits offset =
      ap (λ o. get_or (option_map_or (node_digits trie.ranges.items trie.digits.items) o []) offset 0) at ∙ ap (λ d. get_or d offset 0) (sym are)

  behind-at : (place : ℕ) → bound ≤ place → place < length old → get_or new place 0 ≡ max (get_or old place 0) (get_or digits (place - bound) 0)
  behind-at place h k =
      let e : bound + (place - bound) ≡ place = omega (arith, h) in
      subst (λ p. get_or new p 0 ≡ max (get_or old p 0) (get_or digits (place - bound) 0)) e (behind (place - bound) (omega (arith, e, k)))

  grows-by : (place : ℕ) → place < length old → (place < bound) ⊎ (bound ≤ place) → get_or old place 0 ≤ get_or new place 0
  grows-by place h (inl k) = omega (arith, before place k)
  grows-by place h (inr k) = omega (arith, behind-at place k h)

  grows : (place : ℕ) → place < length old → get_or old place 0 ≤ get_or new place 0
  grows place h = grows-by place h (below-or place bound)

  greatest-by : (start count offset : ℕ) → start + count ≤ length letters → ((start < bound) ⊎ ((start ≡ bound) × (count < fewer + 1)))
      → (count < fewer) ⊎ (fewer ≤ count) → start + offset < length old → digit_from trie letters start count offset ≤ get_or new (start + offset) 0
  greatest-by start count offset fits (inl a) c h = omega (arith, raised.greatest start count offset (fits, inl a) h, grows (start + offset) h)
  greatest-by start count offset fits (inr a) (inl c) h = omega (arith, raised.greatest start count offset (fits, inr (a.0, c)) h, grows (start + offset) h)
  greatest-by start count offset fits (inr a) (inr c) h =
      let here : bound + offset < length old = omega (arith, h, a.0) in
      let most : digit_from trie letters bound fewer offset ≤ get_or new (bound + offset) 0 = omega (arith, same-digits offset, behind offset here) in
      let e : count ≡ fewer = omega (arith, a.1, c) in
      subst (λ s. digit_from trie letters s count offset ≤ get_or new (s + offset) 0) (sym a.0)
      (subst (λ n. digit_from trie letters bound n offset ≤ get_or new (bound + offset) 0) (sym e) most)

  more-done : (start count : ℕ) → IsDone letters bound fewer start count → IsDone letters bound (fewer + 1) start count
  more-done start count (h, inl a) = (h, inl a)
  more-done start count (h, inr a) = (h, inr (a.0, omega (arith, a.1)))

  found-old : (place value : ℕ) → value ≡ get_or old place 0 → 0 < value → IsFound trie letters bound (fewer + 1) place value
  found-old place value e some =
      let f = raised.are place (omega (arith, e, some)) in
      record { start = f.start; count = f.count; offset = f.offset; done = more-done f.start f.count f.done; at = f.at; is = f.is ∙ sym e }

  found-new : (place value : ℕ) → bound ≤ place → value ≡ get_or digits (place - bound) 0 → IsFound trie letters bound (fewer + 1) place value
  found-new place value h e = record {
    start = bound;
    count = fewer;
    offset = place - bound;
    done = (inside, inr (refl, omega arith));
    at = omega (arith, h);
    is = same-digits (place - bound) ∙ sym e;
  }

  are-max : (place value : ℕ) → bound ≤ place → 0 < value → value ≡ max (get_or old place 0) (get_or digits (place - bound) 0)
      → (max (get_or old place 0) (get_or digits (place - bound) 0) ≡ get_or old place 0)
      ⊎ (max (get_or old place 0) (get_or digits (place - bound) 0) ≡ get_or digits (place - bound) 0) → IsFound trie letters bound (fewer + 1) place value
  are-max place value h some e (inl m) = found-old place value (e ∙ m) some
  are-max place value h some e (inr m) = found-new place value h (e ∙ m)

  are-by : (place : ℕ) → 0 < get_or new place 0 → (place < bound) ⊎ (bound ≤ place) → (place < length old) ⊎ (length old ≤ place)
      → IsFound trie letters bound (fewer + 1) place (get_or new place 0)
  are-by place some (inl k) l = found-old place (get_or new place 0) (before place k) some
  are-by place some (inr k) (inl l) =
      are-max place (get_or new place 0) k some (behind-at place k l) (either (get_or old place 0) (get_or digits (place - bound) 0))
  are-by place some (inr k) (inr l) =
      let none : get_or new place 0 ≡ 0 = get_or-eq_default new 0 (omega (arith, l, long)) in absurd (omega (arith, some, none))

  pub raised-more : AreRaised trie letters bound (fewer + 1) new
  raised-more = record {
    greatest = λ start count offset done h. greatest-by start count offset done.0 done.1 (below-or count fewer) (omega (arith, h, long));
    are = λ place some. are-by place some (below-or place bound) (below-or place (length old));
  }

-- ---- one letter more

module _ (trie : Trie) (letters : List ℕ) (start count node : ℕ) (sound : IsSound trie) (inside : start + count ≤ length letters)
    (at : walk (child trie) 0 (take count (drop start letters)) ≡ Some node) where
  more-letters : start + count < length letters → walk (child trie) 0 (take (count + 1) (drop start letters)) ≡ child trie node (get_or letters (start + count) 0)
  more-letters h =
      ap (walk (child trie) 0) (take_more (drop start letters) count 0 (omega (arith, h, length-drop start letters)))
      ∙ walk-append (child trie) 0 node (take count (drop start letters)) (get_or (drop start letters) count 0 ∷ []) at
      ∙ walk-one (child trie) node (get_or (drop start letters) count 0) ∙ ap (child trie node) (get_or-drop start letters count 0)

  none-more : (more : ℕ) → count + 1 ≤ more → walk (child trie) 0 (take (count + 1) (drop start letters)) ≡ None
      → walk (child trie) 0 (take more (drop start letters)) ≡ None
  none-more more h e =
      let all : List ℕ = take more (drop start letters) in
      let split : take (count + 1) (drop start letters) ++ drop (count + 1) (take more (drop start letters)) ≡ take more (drop start letters) =
      ap (λ xs. xs ++ drop (count + 1) (take more (drop start letters))) (sym (take-take (count + 1) more (drop start letters) h))
      ∙ take-append-drop (count + 1) (take more (drop start letters)) in
      ap (walk (child trie) 0) (sym split) ∙ walk-none (child trie) 0 (take (count + 1) (drop start letters)) (drop (count + 1) (take more (drop start letters))) e

  node-by : (next : Option ℕ) → start + count < length letters → next ≡ child trie node (get_or letters (start + count) 0) → IsNode trie letters start (count + 1) next
  node-by None h e = λ more least fits. none-more more least (more-letters h ∙ sym e)
  node-by (Some m) h e = (sound.known node (get_or letters (start + count) 0) m (sym e), omega (arith, h), more-letters h ∙ sym e)

  end-by : (next : Option ℕ) → length letters ≤ start + count → next ≡ None → IsNode trie letters start (count + 1) next
  end-by None h e = λ more least fits. absurd (omega (arith, h, least, fits))
  end-by (Some m) h e = cc

  next-by : (next : Option ℕ) → (start + count < length letters) ⊎ (length letters ≤ start + count)
      → (start + count < length letters → next ≡ child trie node (get_or letters (start + count) 0)) → (length letters ≤ start + count → next ≡ None)
      → IsNode trie letters start (count + 1) next
  next-by next (inl h) some none = node-by next h (some h)
  next-by next (inr h) some none = end-by next h (none h)

  pub next-node : (next : Option ℕ) → (start + count < length letters → next ≡ child trie node (get_or letters (start + count) 0))
      → (length letters ≤ start + count → next ≡ None) → IsNode trie letters start (count + 1) next
  next-node next some none = next-by next (below-or (start + count) (length letters)) some none

-- ---- all letters from a start on

module _ (trie : Trie) (letters values : List ℕ) (bound count : ℕ) (raised : AreRaised trie letters bound count values)
    (none : (more : ℕ) → count ≤ more → bound + more ≤ length letters → walk (child trie) 0 (take more (drop bound letters)) ≡ None) where
  nothing-kept : (more offset : ℕ) → count ≤ more → bound + more ≤ length letters → digit_from trie letters bound more offset ≡ 0
  nothing-kept more offset h fits = ap (λ o. get_or (option_map_or (node_digits trie.ranges.items trie.digits.items) o []) offset 0) (none more h fits)

  all-by : (start n offset : ℕ) → start + n ≤ length letters → (start < bound) ⊎ (bound ≤ start) → (n < count) ⊎ (count ≤ n) → start < bound + 1
      → start + offset < length values → digit_from trie letters start n offset ≤ get_or values (start + offset) 0
  all-by start n offset fits (inl a) c b h = raised.greatest start n offset (fits, inl a) h
  all-by start n offset fits (inr a) (inl c) b h = raised.greatest start n offset (fits, inr (omega (arith, a, b), c)) h
  all-by start n offset fits (inr a) (inr c) b h =
      let e : start ≡ bound = omega (arith, a, b) in
      let zero : digit_from trie letters start n offset ≡ 0 =
      ap (λ s. digit_from trie letters s n offset) e ∙ nothing-kept n offset c (omega (arith, fits, e)) in
      omega (arith, zero)

  bounded : (start n : ℕ) → IsDone letters (bound + 1) 0 start n → start < bound + 1
  bounded start n (h, inl a) = a
  bounded start n (h, inr a) = absurd (omega (arith, a.1))

  all-done : (start n : ℕ) → IsDone letters bound count start n → IsDone letters (bound + 1) 0 start n
  all-done start n (h, inl a) = (h, inl (omega (arith, a)))
  all-done start n (h, inr a) = (h, inl (omega (arith, a.0)))

  all-found : (place value : ℕ) → IsFound trie letters bound count place value → IsFound trie letters (bound + 1) 0 place value
  all-found place value f = record { start = f.start; count = f.count; offset = f.offset; done = all-done f.start f.count f.done; at = f.at; is = f.is }

  pub raised-all : AreRaised trie letters (bound + 1) 0 values
  raised-all = record {
    greatest = λ start n offset done h. all-by start n offset done.0 (below-or start bound) (below-or n count) (bounded start n done) h;
    are = λ place some. all-found place (get_or values place 0) (raised.are place some);
  }

-- ---- the values of patterns

module _ (trie : Trie) (patterns : List Pattern) (letters values : List ℕ) (bound : ℕ) (keeps : Keeps trie patterns) (raised : AreRaised trie letters bound 0 values)
    (whole : bound ≡ length letters + 1) (long : length values ≡ length letters + 1) where
  fits-inside : (pattern : Pattern) (start : ℕ) → start < length letters + 1 → Fits pattern letters start → start + length pattern.letters ≤ length letters
  fits-inside pattern start h fits =
      omega (arith, h, sym (ap length fits), length-take (length pattern.letters) (drop start letters), length-drop start letters)

  greatest-digit : (place digit : ℕ) → place < length letters + 1 → HasDigit patterns letters place digit → digit ≤ get_or values place 0
  greatest-digit place digit h d =
      let inside = fits-inside d.pattern d.start (omega (arith, h, d.at)) d.fits in
      let most : digit_from trie letters d.start (length d.pattern.letters) d.offset ≤ get_or values (d.start + d.offset) 0 =
      raised.greatest d.start (length d.pattern.letters) d.offset (inside, inl (omega (arith, h, d.at, whole))) (omega (arith, h, d.at, long)) in
      let kept-as : get_or (kept trie d.pattern.letters) d.offset 0 ≡ digit_from trie letters d.start (length d.pattern.letters) d.offset =
      ap (λ xs. get_or (kept trie xs) d.offset 0) (sym d.fits) in
      let at : get_or values (d.start + d.offset) 0 ≡ get_or values place 0 = ap (λ p. get_or values p 0) d.at in
      omega (arith, most, kept-as, at, keeps.greatest d.pattern d.is d.offset, d.has)

  found-digit : (place : ℕ) → 0 < get_or values place 0 → HasDigit patterns letters place (get_or values place 0)
  found-digit place some =
      let f = raised.are place some in
      let some' : 0 < get_or (kept trie (take f.count (drop f.start letters))) f.offset 0 = omega (arith, some, f.is) in
      let p = keeps.are (take f.count (drop f.start letters)) f.offset some' in
      let few : length (take f.count (drop f.start letters)) ≡ f.count =
      length-take-le f.count (drop f.start letters) (omega (arith, f.done.0, length-drop f.start letters)) in
      record {
        pattern = p.0;
        is = p.1.0;
        start = f.start;
        fits = ap (λ n. take n (drop f.start letters)) (ap length p.1.1 ∙ few) ∙ sym p.1.1;
        offset = f.offset;
        at = f.at;
        has = p.1.2 ∙ f.is;
      }

  pub values-are : (place : ℕ) → place < length letters + 1 → IsValue patterns letters place (get_or values place 0)
  values-are place h = record { greatest = λ digit d. greatest-digit place digit h d; is = λ some. found-digit place some }

-- ---- words with their edges

pub length-edged : (word : List ℕ) → length (46 ∷ word ++ 46 ∷ []) ≡ length word + 2
length-edged word = omega (arith, length-append word (46 ∷ []))

pub first-node : (trie : Trie) (letters : List ℕ) (start : ℕ) → IsSound trie → start ≤ length letters → IsNode trie letters start 0 (Some 0)
unfolding walk
first-node trie letters start sound h = (sound.some, omega (arith, h), refl)
