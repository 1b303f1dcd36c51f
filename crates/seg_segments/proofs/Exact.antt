-- The test of abbreviations says what the definition does.
use Rattle.std.proofs.Common.{◌≡◌, ℕ, zero, suc, ◌<◌, ◌⊎◌, Bool, true, false, List, [], ◌∷◌, ◌++◌, length, Contains, inl, inr, refl, sym, ap, subst, ◌∙◌, arith}
use Rattle.std.specs.Prelude.{◌&&◌, ◌||◌, ◌==◌, ◌↔◌, not, All, IsTrue, if◌then◌else◌}
use Rattle.std.specs.List.{list_all}
use Rattle.std.proofs.lemmas.Bool.{eq-eqb, eqb-true, false≢true}
use Rattle.seg_data.specs.WordSets.{Words, has_empty, tails_after}
use Rattle.seg_segments.specs.Suppression.{is_abbreviated, is_abbreviated_after, is_letter_or_digit, is_space, is_word_and_spaces, EndsWithAbbreviation, IsApart}

-- ---- tests

or-cases : (a b : Bool) → (a || b) ≡ true → (a ≡ true) ⊎ (b ≡ true)
or-cases true b is = inl refl
or-cases false b is = inr is

and-both : (a b : Bool) → (a && b) ≡ true → (a ≡ true) × (b ≡ true)
and-both true b is = (refl, is)
and-both false b is = absurd (false≢true is)

or-later : (a b : Bool) → b ≡ true → (a || b) ≡ true
or-later true b is = refl
or-later false b is = is

not-true : (b : Bool) → not b ≡ true → b ≡ false
not-true true is = absurd (false≢true is)
not-true false is = refl

all-from : (test : ℕ → Bool) (cs : List ℕ) → list_all test cs ≡ true → All (λ c. IsTrue (test c)) cs
all-from test [] is k d inside = absurd (omega (arith, inside))
all-from test (c ∷ cs) is zero d inside = (and-both (test c) (list_all test cs) is).0
all-from test (c ∷ cs) is (suc k) d inside = all-from test cs (and-both (test c) (list_all test cs) is).1 k d (omega (arith, inside))

all-to : (test : ℕ → Bool) (cs : List ℕ) → All (λ c. IsTrue (test c)) cs → list_all test cs ≡ true
all-to test [] all = refl
all-to test (c ∷ cs) all = rw (first, all-to test cs (λ k d inside. all (suc k) d (omega (arith, inside)))) refl
  where
    first : test c ≡ true
    first = all 0 c (omega arith)

-- ---- words

here : {X : Type 0} (y : X) (ys : List X) (x : X) → y ≡ x → Contains (y ∷ ys) x
here y ys x is = (0, omega arith, is)

later : {X : Type 0} (y : X) (ys : List X) (x : X) → Contains ys x → Contains (y ∷ ys) x
later y ys x has = (suc has.0, omega (arith, has.1), has.2)

cases : {X : Type 0} (y : X) (ys : List X) (x : X) → Contains (y ∷ ys) x → (y ≡ x) ⊎ Contains ys x
cases y ys x (zero, inside, is) = inl is
cases y ys x (suc k, inside, is) = inr (k, omega (arith, inside), is)

nothing : {X : Type 0} (x : X) → Contains [] x → ⊥
nothing x (k, inside, is) = absurd (omega (arith, inside))

to-after : (c : ℕ) (word : List ℕ) (words : Words) → Contains words (c ∷ word) → Contains (tails_after c words) word
to-after c word [] has = absurd (nothing (c ∷ word) has)
to-after c word ([] ∷ words) has = on (cases [] words (c ∷ word) has) (to-after c word words)
  where
    on : ([] ≡ c ∷ word) ⊎ Contains words (c ∷ word) → (Contains words (c ∷ word) → Contains (tails_after c words) word) → Contains (tails_after c words) word
    on (inl is) more = absurd cc
    on (inr rest) more = more rest
to-after c word ((first ∷ rest) ∷ words) has = on (first == c) refl (cases (first ∷ rest) words (c ∷ word) has) (to-after c word words)
  where
    on : (b : Bool) → (first == c) ≡ b → (first ∷ rest ≡ c ∷ word) ⊎ Contains words (c ∷ word)
        → (Contains words (c ∷ word) → Contains (tails_after c words) word)
        → Contains (if b then rest ∷ tails_after c words else tails_after c words) word
    on true is (inl same) more = here rest (tails_after c words) word cc
    on true is (inr behind) more = later rest (tails_after c words) word (more behind)
    on false is (inl same) more = let head : first ≡ c = cc in absurd (false≢true (sym is ∙ eq-eqb first c head))
    on false is (inr behind) more = more behind

from-after : (c : ℕ) (word : List ℕ) (words : Words) → Contains (tails_after c words) word → Contains words (c ∷ word)
from-after c word [] has = absurd (nothing word has)
from-after c word ([] ∷ words) has = later [] words (c ∷ word) (from-after c word words has)
from-after c word ((first ∷ rest) ∷ words) has = on (first == c) refl (from-after c word words) has
  where
    either : first ≡ c → (rest ≡ word) ⊎ Contains (tails_after c words) word → (Contains (tails_after c words) word → Contains words (c ∷ word))
        → Contains ((first ∷ rest) ∷ words) (c ∷ word)
    either head (inl same) more = here (first ∷ rest) words (c ∷ word) (rw (head, same) refl)
    either head (inr behind) more = later (first ∷ rest) words (c ∷ word) (more behind)

    on : (b : Bool) → (first == c) ≡ b → (Contains (tails_after c words) word → Contains words (c ∷ word))
        → Contains (if b then rest ∷ tails_after c words else tails_after c words) word → Contains ((first ∷ rest) ∷ words) (c ∷ word)
    on true is more has = either (eqb-true first c is) (cases rest (tails_after c words) word has) more
    on false is more has = later (first ∷ rest) words (c ∷ word) (more has)

empty-to : (words : Words) → Contains words [] → has_empty words ≡ true
empty-to [] has = absurd (nothing [] has)
empty-to ([] ∷ words) has = refl
empty-to ((first ∷ rest) ∷ words) has = on (cases (first ∷ rest) words [] has) (empty-to words)
  where
    on : (first ∷ rest ≡ []) ⊎ Contains words [] → (Contains words [] → has_empty words ≡ true) → has_empty words ≡ true
    on (inl is) more = absurd cc
    on (inr behind) more = more behind

empty-from : (words : Words) → has_empty words ≡ true → Contains words []
empty-from [] is = absurd (false≢true is)
empty-from ([] ∷ words) is = here [] words [] refl
empty-from ((first ∷ rest) ∷ words) is = later (first ∷ rest) words [] (empty-from words is)

-- ---- a word and spaces

record IsWord (words : Words) (cs : List ℕ) : Type 0 where
  pub word : List ℕ
  pub spaces : List ℕ
  pub is : cs ≡ word ++ spaces
  pub listed : Contains words word
  pub some : 0 < length word
  pub spaced : All (λ c. IsTrue (is_space c)) spaces

word-from : (words : Words) (cs : List ℕ) → is_word_and_spaces words cs ≡ true → IsWord words cs
unfolding is_word_and_spaces
word-from words [] is = absurd (false≢true is)
word-from words (c ∷ cs) is =
    on (or-cases (has_empty (tails_after c words) && list_all is_space cs) (is_word_and_spaces (tails_after c words) cs) is) (word-from (tails_after c words) cs)
  where
    on : ((has_empty (tails_after c words) && list_all is_space cs) ≡ true) ⊎ (is_word_and_spaces (tails_after c words) cs ≡ true)
        → (is_word_and_spaces (tails_after c words) cs ≡ true → IsWord (tails_after c words) cs) → IsWord words (c ∷ cs)
    on (inl ends) more =
        let both = and-both (has_empty (tails_after c words)) (list_all is_space cs) ends in
        record {
          word = c ∷ [];
          spaces = cs;
          is = refl;
          listed = from-after c [] words (empty-from (tails_after c words) both.0);
          some = omega arith;
          spaced = all-from is_space cs both.1;
        }
    on (inr goes) more =
        let rest = more goes in
        record {
          word = c ∷ rest.word;
          spaces = rest.spaces;
          is = ap (λ (cs : List ℕ). c ∷ cs) rest.is;
          listed = from-after c rest.word words rest.listed;
          some = omega arith;
          spaced = rest.spaced;
        }

word-to : (words : Words) (word spaces : List ℕ) → Contains words word → 0 < length word → All (λ c. IsTrue (is_space c)) spaces
    → is_word_and_spaces words (word ++ spaces) ≡ true
unfolding is_word_and_spaces
word-to words [] spaces listed some spaced = absurd (omega (arith, some))
word-to words (c ∷ []) spaces listed some spaced =
    rw (empty-to (tails_after c words) (to-after c [] words listed), all-to is_space spaces spaced) refl
word-to words (c ∷ next ∷ word) spaces listed some spaced =
    or-later (has_empty (tails_after c words) && list_all is_space ((next ∷ word) ++ spaces)) (is_word_and_spaces (tails_after c words) ((next ∷ word) ++ spaces))
    (word-to (tails_after c words) (next ∷ word) spaces (to-after c (next ∷ word) words listed) (omega arith) spaced)

-- ---- what stands before it

-- the last of these is neither a letter nor a digit, or else what `joined` says is before them
abbrev Apart : Bool → List ℕ → Type 0
Apart joined [] = joined ≡ false
Apart joined (c ∷ front) = Apart (is_letter_or_digit c) front

apart-push : (joined : Bool) (others : List ℕ) (last : ℕ) → is_letter_or_digit last ≡ false → Apart joined (others ++ last ∷ [])
apart-push joined [] last is = is
apart-push joined (c ∷ others) last is = apart-push (is_letter_or_digit c) others last is

apart-to : (front : List ℕ) → IsApart front → Apart false front
apart-to front (inl is) = subst (Apart false) (sym is) refl
apart-to front (inr (others, last, is, none)) = subst (Apart false) (sym is) (apart-push false others last none)

abbrev EndsApart : List ℕ → Type 0
EndsApart front = (others : List ℕ) × (last : ℕ) × (front ≡ others ++ last ∷ []) × (is_letter_or_digit last ≡ false)

apart-cases : (joined : Bool) (front : List ℕ) → Apart joined front → ((front ≡ []) × (joined ≡ false)) ⊎ EndsApart front
apart-cases joined [] apart = inl (refl, apart)
apart-cases joined (c ∷ front) apart = on (apart-cases (is_letter_or_digit c) front apart)
  where
    on : ((front ≡ []) × (is_letter_or_digit c ≡ false)) ⊎ EndsApart front → ((c ∷ front ≡ []) × (joined ≡ false)) ⊎ EndsApart (c ∷ front)
    on (inl (none, is)) = inr ([], c, ap (λ (cs : List ℕ). c ∷ cs) none, is)
    on (inr (others, last, is, none)) = inr (c ∷ others, last, ap (λ (cs : List ℕ). c ∷ cs) is, none)

apart-from : (front : List ℕ) → Apart false front → IsApart front
apart-from front apart = on (apart-cases false front apart)
  where
    on : ((front ≡ []) × (false ≡ false)) ⊎ EndsApart front → IsApart front
    on (inl (none, is)) = inl none
    on (inr ends) = inr ends

record IsFound (words : Words) (joined : Bool) (cs : List ℕ) : Type 0 where
  pub front : List ℕ
  pub rest : List ℕ
  pub is : cs ≡ front ++ rest
  pub apart : Apart joined front
  pub word : IsWord words rest

found-from : (joined : Bool) (words : Words) (cs : List ℕ) → is_abbreviated_after joined words cs ≡ true → IsFound words joined cs
unfolding is_abbreviated_after
found-from joined words [] is = absurd (false≢true is)
found-from joined words (c ∷ cs) is =
    on (or-cases (not joined && is_word_and_spaces words (c ∷ cs)) (is_abbreviated_after (is_letter_or_digit c) words cs) is) (found-from (is_letter_or_digit c) words cs)
  where
    on : ((not joined && is_word_and_spaces words (c ∷ cs)) ≡ true) ⊎ (is_abbreviated_after (is_letter_or_digit c) words cs ≡ true)
        → (is_abbreviated_after (is_letter_or_digit c) words cs ≡ true → IsFound words (is_letter_or_digit c) cs) → IsFound words joined (c ∷ cs)
    on (inl begins) more =
        let both = and-both (not joined) (is_word_and_spaces words (c ∷ cs)) begins in
        record { front = []; rest = c ∷ cs; is = refl; apart = not-true joined both.0; word = word-from words (c ∷ cs) both.1 }
    on (inr behind) more =
        let found = more behind in
        record { front = c ∷ found.front; rest = found.rest; is = ap (λ (cs : List ℕ). c ∷ cs) found.is; apart = found.apart; word = found.word }

found-here : (joined : Bool) (words : Words) (cs : List ℕ) → joined ≡ false → is_word_and_spaces words cs ≡ true → is_abbreviated_after joined words cs ≡ true
unfolding is_abbreviated_after is_word_and_spaces
found-here joined words [] apart word = absurd (false≢true word)
found-here joined words (c ∷ cs) apart word = rw (apart, word) refl

found-to : (front : List ℕ) (joined : Bool) (words : Words) (rest : List ℕ) → Apart joined front → is_word_and_spaces words rest ≡ true
    → is_abbreviated_after joined words (front ++ rest) ≡ true
unfolding is_abbreviated_after
found-to [] joined words rest apart word = found-here joined words rest apart word
found-to (c ∷ front) joined words rest apart word =
    or-later (not joined && is_word_and_spaces words (c ∷ (front ++ rest))) (is_abbreviated_after (is_letter_or_digit c) words (front ++ rest))
    (found-to front (is_letter_or_digit c) words rest apart word)

pub exact : (words : Words) (before : List ℕ) → IsTrue (is_abbreviated words before) ↔ EndsWithAbbreviation words before
exact words before = (
  λ is.
      let found = found-from false words before is in
      record {
        front = found.front;
        word = found.word.word;
        spaces = found.word.spaces;
        is = found.is ∙ ap (λ (rest : List ℕ). found.front ++ rest) found.word.is;
        listed = found.word.listed;
        some = found.word.some;
        apart = apart-from found.front found.apart;
        spaced = found.word.spaced;
      },
  λ ends.
      ap (is_abbreviated words) ends.is
      ∙ found-to ends.front false words (ends.word ++ ends.spaces) (apart-to ends.front ends.apart) (word-to words ends.word ends.spaces ends.listed ends.some ends.spaced),
)
