-- What follows the code points that were read, in the words that begin with them.
use Rattle.std.proofs.Common.{◌≡◌, ℕ, zero, suc, ◌⊎◌, inl, inr, Bool, true, false, ◌==◌, List, [], ◌∷◌, ◌++◌, Contains, refl, sym, ◌∙◌, subst, arith, append-nil}
use Rattle.std.specs.Prelude.{if◌then◌else◌}
use Rattle.std.proofs.lemmas.Bool.{eq-eqb, eqb-true, false≢true}
use Rattle.seg_data.specs.WordSets.{Words, tails_after, tails, has_empty, has_nonempty}
use Rattle.seg_clusters.specs.DictionaryCuts.{IsProperPrefix, is_word, goes_on}

-- members

pub contains-cases : {X : Type 0} (y : X) (ys : List X) (x : X) → Contains (y ∷ ys) x → (y ≡ x) ⊎ Contains ys x
contains-cases y ys x (zero, inside, is) = inl is
contains-cases y ys x (suc k, inside, is) = inr (k, omega (arith, inside), is)

pub contains-here : {X : Type 0} (y : X) (ys : List X) (x : X) → y ≡ x → Contains (y ∷ ys) x
contains-here y ys x is = (0, omega arith, is)

pub contains-later : {X : Type 0} (y : X) (ys : List X) (x : X) → Contains ys x → Contains (y ∷ ys) x
contains-later y ys x among = (suc among.0, omega (arith, among.1), among.2)

pub contains-nil : {X : Type 0} (x : X) → Contains [] x → ⊥
contains-nil x (k, inside, is) = absurd (omega (arith, inside))

-- the words that begin with a code point are its tails

to-after : (c : ℕ) (word : List ℕ) (words : Words) → Contains words (c ∷ word) → Contains (tails_after c words) word
to-after c word [] among = absurd (contains-nil (c ∷ word) among)
to-after c word ([] ∷ words) among = on (contains-cases [] words (c ∷ word) among) (to-after c word words)
  where
    on : ([] ≡ c ∷ word) ⊎ Contains words (c ∷ word) → (Contains words (c ∷ word) → Contains (tails_after c words) word) → Contains (tails_after c words) word
    on (inl is) more = absurd cc
    on (inr later) more = more later
to-after c word ((first ∷ rest) ∷ words) among = on (first == c) refl (contains-cases (first ∷ rest) words (c ∷ word) among) (to-after c word words)
  where
    on : (b : Bool) → (first == c) ≡ b → (first ∷ rest ≡ c ∷ word) ⊎ Contains words (c ∷ word)
        → (Contains words (c ∷ word) → Contains (tails_after c words) word)
        → Contains (if b then rest ∷ tails_after c words else tails_after c words) word
    on true is (inl same) more = contains-here rest (tails_after c words) word cc
    on true is (inr later) more = contains-later rest (tails_after c words) word (more later)
    on false is (inl same) more = let head : first ≡ c = cc in absurd (false≢true (sym is ∙ eq-eqb first c head))
    on false is (inr later) more = more later

from-after : (c : ℕ) (word : List ℕ) (words : Words) → Contains (tails_after c words) word → Contains words (c ∷ word)
from-after c word [] among = absurd (contains-nil word among)
from-after c word ([] ∷ words) among = contains-later [] words (c ∷ word) (from-after c word words among)
from-after c word ((first ∷ rest) ∷ words) among = on (first == c) refl (from-after c word words) among
  where
    either : first ≡ c → (rest ≡ word) ⊎ Contains (tails_after c words) word → (Contains (tails_after c words) word → Contains words (c ∷ word))
        → Contains ((first ∷ rest) ∷ words) (c ∷ word)
    either head (inl same) more = contains-here (first ∷ rest) words (c ∷ word) (rw (head, same) refl)
    either head (inr later) more = contains-later (first ∷ rest) words (c ∷ word) (more later)

    on : (b : Bool) → (first == c) ≡ b → (Contains (tails_after c words) word → Contains words (c ∷ word))
        → Contains (if b then rest ∷ tails_after c words else tails_after c words) word → Contains ((first ∷ rest) ∷ words) (c ∷ word)
    on true is more among = either (eqb-true first c is) (contains-cases rest (tails_after c words) word among) more
    on false is more among = contains-later (first ∷ rest) words (c ∷ word) (more among)

tails-to : (read word : List ℕ) (words : Words) → Contains words (read ++ word) → Contains (tails read words) word
tails-to [] word words among = among
tails-to (c ∷ read) word words among = tails-to read word (tails_after c words) (to-after c (read ++ word) words among)

tails-from : (read word : List ℕ) (words : Words) → Contains (tails read words) word → Contains words (read ++ word)
tails-from [] word words among = among
tails-from (c ∷ read) word words among = from-after c (read ++ word) words (tails-from read word (tails_after c words) among)

-- one code point more
pub tails-one : (read : List ℕ) (c : ℕ) (words : Words) → tails (read ++ c ∷ []) words ≡ tails_after c (tails read words)
tails-one [] c words = refl
tails-one (first ∷ read) c words = tails-one read c (tails_after first words)

-- the two tests

empty-to : (words : Words) → Contains words [] → has_empty words ≡ true
empty-to [] among = absurd (contains-nil [] among)
empty-to ([] ∷ words) among = refl
empty-to ((first ∷ rest) ∷ words) among = on (contains-cases (first ∷ rest) words [] among) (empty-to words)
  where
    on : (first ∷ rest ≡ []) ⊎ Contains words [] → (Contains words [] → has_empty words ≡ true) → has_empty words ≡ true
    on (inl is) more = absurd cc
    on (inr later) more = more later

empty-from : (words : Words) → has_empty words ≡ true → Contains words []
empty-from [] is = absurd (false≢true is)
empty-from ([] ∷ words) is = contains-here [] words [] refl
empty-from ((first ∷ rest) ∷ words) is = contains-later (first ∷ rest) words [] (empty-from words is)

nonempty-to : (words : Words) (next : ℕ) (tail : List ℕ) → Contains words (next ∷ tail) → has_nonempty words ≡ true
nonempty-to [] next tail among = absurd (contains-nil (next ∷ tail) among)
nonempty-to ((first ∷ rest) ∷ words) next tail among = refl
nonempty-to ([] ∷ words) next tail among = on (contains-cases [] words (next ∷ tail) among) (nonempty-to words next tail)
  where
    on : ([] ≡ next ∷ tail) ⊎ Contains words (next ∷ tail) → (Contains words (next ∷ tail) → has_nonempty words ≡ true) → has_nonempty words ≡ true
    on (inl is) more = absurd cc
    on (inr later) more = more later

nonempty-from : (words : Words) → has_nonempty words ≡ true → (next : ℕ) × ((tail : List ℕ) × Contains words (next ∷ tail))
nonempty-from [] is = absurd (false≢true is)
nonempty-from ((first ∷ rest) ∷ words) is = (first, (rest, contains-here (first ∷ rest) words (first ∷ rest) refl))
nonempty-from ([] ∷ words) is =
    let more = nonempty-from words is in (more.0, (more.1.0, contains-later [] words (more.0 ∷ more.1.0) more.1.1))

pub word-to : (words : Words) (read : List ℕ) → Contains words read → is_word words read ≡ true
word-to words read among = empty-to (tails read words) (tails-to read [] words (subst (λ (word : List ℕ). Contains words word) (sym (append-nil read)) among))

pub word-from : (words : Words) (read : List ℕ) → is_word words read ≡ true → Contains words read
word-from words read is = subst (λ (word : List ℕ). Contains words word) (append-nil read) (tails-from read [] words (empty-from (tails read words) is))

pub prefix-to : (words : Words) (read : List ℕ) → IsProperPrefix words read → goes_on words read ≡ true
prefix-to words read (next, (tail, among)) = nonempty-to (tails read words) next tail (tails-to read (next ∷ tail) words among)

pub prefix-from : (words : Words) (read : List ℕ) → goes_on words read ≡ true → IsProperPrefix words read
prefix-from words read is =
    let more = nonempty-from (tails read words) is in (more.0, (more.1.0, tails-from read (more.0 ∷ more.1.0) words more.1.1))
