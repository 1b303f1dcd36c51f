-- Words in order, group by group.
use Rattle.std.proofs.Common.{◌≡◌, ℕ, zero, suc, ◌+◌, ◌-◌, ◌<◌, ◌≤◌, true, false, cond, ltb, List, [], ◌∷◌, ◌++◌, length, map, drop, refl, sym, ap, ◌∙◌, inl, inr, arith}
use Rattle.std.proofs.lemmas.Bool.{cases_lt, eq-eqb, ne_eqb, ltb-true, false≢true}
use Rattle.std.proofs.lemmas.List.{drop_more, drop_all}
use Rattle.seg_data.specs.WordSets.{Words, is_before}
use Rattle.seg_data.specs.Building.{word_at, letter, rests, IsRange, AreLonger, IsGroup, total, owed}

pub rests-split : (words : Words) (depth first a b : ℕ) → rests words depth first (a + b) ≡ rests words depth first a ++ rests words depth (first + a) b
unfolding rests
rests-split words depth first zero b =
    let none : 0 + b ≡ b = omega arith in
    let here : first ≡ first + 0 = omega arith in
    ap (rests words depth first) none ∙ ap (λ n. rests words depth n b) here
rests-split words depth first (suc a) b =
    let more : suc a + b ≡ suc (a + b) = omega arith in
    let there : first + 1 + a ≡ first + suc a = omega arith in
    ap (rests words depth first) more
    ∙ ap (λ later. drop depth (word_at words first) ∷ later)
    (rests-split words depth (first + 1) a b ∙ ap (λ n. rests words depth (first + 1) a ++ rests words depth n b) there)

pub rests-count : (words : Words) (depth first count : ℕ) → length (rests words depth first count) ≡ count
unfolding rests
rests-count words depth first zero = refl
rests-count words depth first (suc count) = ap suc (rests-count words depth (first + 1) count)

-- the first code point behind the depth, and what follows it
pub drop-letter : (words : Words) (depth k : ℕ) → depth < length (word_at words k)
    → drop depth (word_at words k) ≡ letter words depth k ∷ drop (depth + 1) (word_at words k)
drop-letter words depth k longer = drop_more (word_at words k) depth 0 longer

-- words of one code point at the depth
pub rests-same : (words : Words) (depth code_point first count : ℕ)
    → ((k : ℕ) → first ≤ k → k < first + count → depth < length (word_at words k))
    → ((k : ℕ) → first ≤ k → k < first + count → letter words depth k ≡ code_point)
    → rests words depth first count ≡ map (λ word. code_point ∷ word) (rests words (depth + 1) first count)
unfolding rests
rests-same words depth code_point first zero longer same = refl
rests-same words depth code_point first (suc count) longer same =
    ap (λ word. word ∷ rests words depth (first + 1) count)
    (drop-letter words depth first (longer first (omega arith) (omega arith))
    ∙ ap (λ c. c ∷ drop (depth + 1) (word_at words first)) (same first (omega arith) (omega arith)))
    ∙ ap (λ later. (code_point ∷ drop (depth + 1) (word_at words first)) ∷ later)
    (rests-same words depth code_point (first + 1) count (λ k low high. longer k (omega arith) (omega arith)) (λ k low high. same k (omega arith) (omega arith)))

pub total-append : (xs ys : Words) → total (xs ++ ys) ≡ total xs + total ys
total-append [] ys = omega arith
total-append (x ∷ xs) ys = omega (arith, total-append xs ys)

pub total-extended : (code_point : ℕ) (words : Words) → total (map (λ word. code_point ∷ word) words) ≡ length words + total words
total-extended code_point [] = refl
total-extended code_point (word ∷ words) = omega (arith, total-extended code_point words)

pub owed-append : (words : Words) (xs ys : List (ℕ × ℕ × ℕ)) → owed words (xs ++ ys) ≡ owed words xs + owed words ys
owed-append words [] ys = omega arith
owed-append words (x ∷ xs) ys = omega (arith, owed-append words xs ys)

-- two words that begin alike are in the order of what follows
before-same : (code_point : ℕ) (xs ys : List ℕ) → is_before (code_point ∷ xs) (code_point ∷ ys) ≡ is_before xs ys
before-same code_point xs ys = ap (λ b. cond b (is_before xs ys) (ltb code_point code_point)) (eq-eqb code_point code_point refl)

-- different ones say all
before-differs : (x y : ℕ) (xs ys : List ℕ) → is_before (x ∷ xs) (y ∷ ys) ≡ true → (x ≡ y → ⊥) → x < y
before-differs x y xs ys before differs =
    ltb-true x y (sym (ap (λ b. cond b (is_before xs ys) (ltb x y)) (ne_eqb x y differs)) ∙ before)

-- a group's words are in order behind its code point
pub group-range : (words : Words) (depth begin first end next : ℕ) → IsRange words (begin, end, depth) → begin ≤ first → AreLonger words depth begin end
    → IsGroup words depth first end next → IsRange words (first, next, depth + 1)
group-range words depth begin first end next range after longer group = record {
  order = omega (arith, group.more);
  within = omega (arith, group.within, range.within);
  long = λ k low high. let long = longer k (omega arith) (omega (arith, group.within)) in omega arith;
  rises = λ j k low less high.
      let here : drop depth (word_at words j) ≡ letter words depth first ∷ drop (depth + 1) (word_at words j)
      = drop-letter words depth j (longer j (omega arith) (omega (arith, group.within)))
      ∙ ap (λ c. c ∷ drop (depth + 1) (word_at words j)) (group.same j low (omega arith)) in
      let there : drop depth (word_at words k) ≡ letter words depth first ∷ drop (depth + 1) (word_at words k)
      = drop-letter words depth k (longer k (omega arith) (omega (arith, group.within)))
      ∙ ap (λ c. c ∷ drop (depth + 1) (word_at words k)) (group.same k (omega arith) high) in
      sym (before-same (letter words depth first) (drop (depth + 1) (word_at words j)) (drop (depth + 1) (word_at words k)))
      ∙ sym (ap (λ xs. is_before xs (drop depth (word_at words k))) here ∙ ap (λ ys. is_before (letter words depth first ∷ drop (depth + 1) (word_at words j)) ys) there)
      ∙ range.rises j k (omega arith) less (omega (arith, group.within));
}

-- the next group has a higher code point
pub group-above : (words : Words) (depth begin first end next : ℕ) → IsRange words (begin, end, depth) → begin ≤ first → AreLonger words depth begin end
    → IsGroup words depth first end next → next < end → letter words depth first < letter words depth next
group-above words depth begin first end next range after longer group more =
    before-differs (letter words depth first) (letter words depth next) (drop (depth + 1) (word_at words first)) (drop (depth + 1) (word_at words next))
    (sym (ap (λ xs. is_before xs (drop depth (word_at words next))) (drop-letter words depth first (longer first (omega arith) (omega (arith, group.more))))
    ∙ ap (λ ys. is_before (letter words depth first ∷ drop (depth + 1) (word_at words first)) ys) (drop-letter words depth next (longer next (omega (arith, group.more)) more)))
    ∙ range.rises first next after group.more more)
    (λ same. group.differs more (sym same))

-- nothing is before the empty word
before-none : (xs : List ℕ) → is_before xs [] ≡ false
before-none [] = refl
before-none (x ∷ xs) = refl

-- no word of a range but the first ends at the depth
pub longer-after : (words : Words) (first end depth : ℕ) → IsRange words (first, end, depth) → AreLonger words depth (first + 1) end
longer-after words first end depth range k low high =
    let before = range.rises first k (omega arith) (omega arith) high in
    let long = range.long k (omega arith) high in
    elim (cases_lt depth (length (word_at words k))) [
      | inl longer ↦ longer
      | inr short ↦ absurd (false≢true (sym (before-none (drop depth (word_at words first)))
          ∙ ap (λ ys. is_before (drop depth (word_at words first)) ys) (sym (drop_all depth (word_at words k) short)) ∙ before))
    ]

-- nor the first, if it doesn't
pub longer-all : (words : Words) (first end depth : ℕ) → IsRange words (first, end, depth)
    → (first < end → length (word_at words first) ≡ depth → ⊥) → AreLonger words depth first end
longer-all words first end depth range first_longer k low high =
    elim (cases_lt first k) [
      | inl less ↦ longer-after words first end depth range k (omega arith) high
      | inr least ↦
          let e : k ≡ first = omega arith in
          let long = range.long k low high in
          elim (cases_lt depth (length (word_at words k))) [
            | inl longer ↦ longer
            | inr short ↦ absurd (first_longer (omega arith) (ap (λ n. length (word_at words n)) (sym e) ∙ omega arith))
          ]
    ]

pub range-after : (words : Words) (first end depth : ℕ) → first < end → IsRange words (first, end, depth) → IsRange words (first + 1, end, depth)
range-after words first end depth some range = record {
  order = omega arith;
  within = range.within;
  long = λ k low high. range.long k (omega arith) high;
  rises = λ j k low less high. range.rises j k (omega arith) less high;
}

-- all that is left of words from one on
pub rests-all : (words : Words) (first count : ℕ) → first + count ≡ length words → rests words 0 first count ≡ drop first words
unfolding rests
rests-all words first zero all = sym (drop_all first words (omega arith))
rests-all words first (suc count) all =
    ap (λ later. word_at words first ∷ later) (rests-all words (first + 1) count (omega arith))
    ∙ sym (drop_more words first [] (omega arith))

pub rests-none : (words : Words) (depth first end : ℕ) → end ≤ first → rests words depth first (end - first) ≡ []
unfolding rests
rests-none words depth first end none =
    let e : end - first ≡ 0 = omega arith in
    ap (rests words depth first) e

-- the first word of a range that isn't empty, and the others
pub rests-more : (words : Words) (depth first end : ℕ) → first < end
    → rests words depth first (end - first) ≡ drop depth (word_at words first) ∷ rests words depth (first + 1) (end - (first + 1))
unfolding rests
rests-more words depth first end some =
    let e : end - first ≡ suc (end - (first + 1)) = omega arith in
    ap (rests words depth first) e
