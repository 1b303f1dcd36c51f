-- The first cut, as it is computed, is the only one that the words and the ends of the clusters tell.
use Rattle.std.proofs.Common.{◌≡◌, ℕ, zero, suc, ◌+◌, ◌<◌, ◌≤◌, ◌⊎◌, inl, inr, Bool, true, false, ◌==◌, nat_le, List, [], ◌∷◌, ◌++◌, length, take, Contains, refl, sym, ap, ◌∙◌, subst, arith}
use Rattle.std.specs.Prelude.{◌&&◌, ◌||◌, if◌then◌else◌, Option, None, Some, unwrap_or}
use Rattle.std.proofs.lemmas.Bool.{cases_lt, eq-eqb, eqb-true, le-leb, lt-leb, and_parts, or_cases, or_left, or_right, false≢true}
use Rattle.seg_text.specs.Boundaries.{RisesTo, with_status}
use Rattle.seg_data.specs.WordSets.{Words}
use Rattle.seg_clusters.specs.DictionaryCuts.{IsGreatest, IsLeast, HoldsOfNone, IsWordEnd, IsDeadEnd, IsNextCut, is_word, goes_on, is_end, end_from, longest_word, read_from, read_all, first_cut}
use Rattle.seg_clusters.proofs.Tails.{contains-cases, contains-here, contains-later, contains-nil, word-to, word-from, prefix-to, prefix-from}

-- offsets rise strictly, from one on to the end
abbrev pub Rises : ℕ → List ℕ → ℕ → Type 0
Rises from ends end = RisesTo from (with_status 0 ends) end

-- one only

least-one : (Holds : ℕ → Type 0) (n m : ℕ) → IsLeast Holds n → IsLeast Holds m → n ≡ m
least-one Holds n m one other = omega (arith, one.1 m other.0, other.1 n one.0)

greatest-one : (Holds : ℕ → Type 0) (n m : ℕ) → IsGreatest Holds n → IsGreatest Holds m → n ≡ m
greatest-one Holds n m one other = omega (arith, one.1 m other.0, other.1 n one.0)

-- what no longer word tells
abbrev Otherwise : Words → (ℕ → Type 0) → List ℕ → ℕ → Type 0
Otherwise words Ends rest cut =
    ((dead : ℕ) × (IsLeast (IsDeadEnd words rest) dead × IsLeast (λ n. Ends n × (dead ≤ n)) cut))
    ⊎ (HoldsOfNone (IsDeadEnd words rest) × (cut ≡ length rest))

otherwise-one : (words : Words) (Ends : ℕ → Type 0) (rest : List ℕ) (n m : ℕ) → Otherwise words Ends rest n → Otherwise words Ends rest m → n ≡ m
otherwise-one words Ends rest n m (inl (dead, (least, cut))) (inl (end, (lowest, other))) =
    let same : dead ≡ end = least-one (IsDeadEnd words rest) dead end least lowest in
    let above : dead ≤ m = omega (arith, same, other.0.1) in
    let over : end ≤ n = omega (arith, same, cut.0.1) in
    omega (arith, cut.1 m (other.0.0, above), other.1 n (cut.0.0, over))
otherwise-one words Ends rest n m (inl (dead, (least, cut))) (inr (none, end)) = absurd (none dead least.0)
otherwise-one words Ends rest n m (inr (none, end)) (inl (dead, (least, cut))) = absurd (none dead least.0)
otherwise-one words Ends rest n m (inr (none, end)) (inr (never, other)) = end ∙ sym other

pub next-one : (words : Words) (Ends : ℕ → Type 0) (rest : List ℕ) (n m : ℕ) → IsNextCut words Ends rest n → IsNextCut words Ends rest m → n ≡ m
next-one words Ends rest n m (inl one) (inl other) = greatest-one (IsWordEnd words Ends rest) n m one other
next-one words Ends rest n m (inl one) (inr (none, other)) = absurd (none n one.0)
next-one words Ends rest n m (inr (none, one)) (inl other) = absurd (none m other.0)
next-one words Ends rest n m (inr (none, one)) (inr (never, other)) = otherwise-one words Ends rest n m one other

-- only where clusters end counts, and not how it is said

word-other : (words : Words) (Ends Others : ℕ → Type 0) (rest : List ℕ) → ((n : ℕ) → Ends n → Others n)
    → (n : ℕ) → IsWordEnd words Ends rest n → IsWordEnd words Others rest n
word-other words Ends Others rest to n is = record { some = is.some; within = is.within; word = is.word; ends = to n is.ends }

pub next-other : (words : Words) (Ends Others : ℕ → Type 0) (rest : List ℕ) → ((n : ℕ) → Ends n → Others n) → ((n : ℕ) → Others n → Ends n)
    → (n : ℕ) → IsNextCut words Ends rest n → IsNextCut words Others rest n
next-other words Ends Others rest to back n (inl is) =
    inl (word-other words Ends Others rest to n is.0, λ m other. is.1 m (word-other words Others Ends rest back m other))
next-other words Ends Others rest to back n (inr (none, inl (dead, (least, cut)))) =
    inr (
      λ m other. none m (word-other words Others Ends rest back m other),
      inl (dead, (least, ((to n cut.0.0, cut.0.1), λ m other. cut.1 m (back m other.0, other.1)))),
    )
next-other words Ends Others rest to back n (inr (none, inr (never, end))) =
    inr (λ m other. none m (word-other words Others Ends rest back m other), inr (never, end))

-- a cut is where a cluster ends
pub next-ends : (words : Words) (Ends : ℕ → Type 0) (rest : List ℕ) (n : ℕ) → Ends (length rest) → IsNextCut words Ends rest n → Ends n
next-ends words Ends rest n last (inl is) = is.0.ends
next-ends words Ends rest n last (inr (none, inl (dead, (least, cut)))) = cut.0.0
next-ends words Ends rest n last (inr (none, inr (never, end))) = subst Ends (sym end) last

-- ends of clusters

pub rising-above : (from to : ℕ) (ends : List ℕ) → Rises from ends to → (n : ℕ) → Contains ends n → from < n
rising-above from to [] rises n among = absurd (contains-nil n among)
rising-above from to (end ∷ ends) rises n among = on (contains-cases end ends n among) (rising-above end to ends rises.1 n)
  where
    on : (end ≡ n) ⊎ Contains ends n → (Contains ends n → end < n) → from < n
    on (inl same) more = omega (arith, same, rises.0)
    on (inr later) more = omega (arith, more later, rises.0)

pub rising-to : (from to : ℕ) (ends : List ℕ) → Rises from ends to → from ≤ to
rising-to from to [] rises = omega (arith, rises)
rising-to from to (end ∷ ends) rises = omega (arith, rises.0, rising-to end to ends rises.1)

pub rising-within : (from to : ℕ) (ends : List ℕ) → Rises from ends to → (n : ℕ) → Contains (from ∷ ends) n → n ≤ to
rising-within from to ends rises n among = on ends rises (contains-cases from ends n among)
  where
    later : (from : ℕ) (ends : List ℕ) → Rises from ends to → Contains ends n → n ≤ to
    later from [] rises among = absurd (contains-nil n among)
    later from (end ∷ ends) rises among = either (contains-cases end ends n among) (later end ends rises.1)
      where
        either : (end ≡ n) ⊎ Contains ends n → (Contains ends n → n ≤ to) → n ≤ to
        either (inl same) more = omega (arith, same, rising-to end to ends rises.1)
        either (inr among) more = more among

    on : (ends : List ℕ) → Rises from ends to → (from ≡ n) ⊎ Contains ends n → n ≤ to
    on ends rises (inl same) = omega (arith, same, rising-to from to ends rises)
    on ends rises (inr among) = later from ends rises among

pub last-among : (from to : ℕ) (ends : List ℕ) → Rises from ends to → Contains (from ∷ ends) to
last-among from to [] rises = contains-here from [] to rises
last-among from to (end ∷ ends) rises = contains-later from (end ∷ ends) to (last-among end to ends rises.1)

end-among : (ends : List ℕ) (n : ℕ) → is_end ends n ≡ true → Contains ends n
unfolding is_end
end-among [] n is = absurd (false≢true is)
end-among (end ∷ ends) n is = on (or_cases (end == n) (is_end ends n) is) (end-among ends n)
  where
    on : ((end == n) ≡ true) ⊎ (is_end ends n ≡ true) → (is_end ends n ≡ true → Contains ends n) → Contains (end ∷ ends) n
    on (inl here) more = contains-here end ends n (eqb-true end n here)
    on (inr later) more = contains-later end ends n (more later)

among-end : (ends : List ℕ) (n : ℕ) → Contains ends n → is_end ends n ≡ true
unfolding is_end
among-end [] n among = absurd (contains-nil n among)
among-end (end ∷ ends) n among = on (contains-cases end ends n among) (among-end ends n)
  where
    on : (end ≡ n) ⊎ Contains ends n → (Contains ends n → is_end ends n ≡ true) → ((end == n) || is_end ends n) ≡ true
    on (inl same) more = or_left (end == n) (is_end ends n) (eq-eqb end n same)
    on (inr later) more = or_right (end == n) (is_end ends n) (more later)

-- the first end that isn't before n
abbrev pub IsFrom : List ℕ → ℕ → ℕ → Type 0
IsFrom ends n found = IsLeast (λ m. Contains ends m × (n ≤ m)) found

from-here : (end to n : ℕ) (ends : List ℕ) → Rises end ends to → n ≤ end → IsFrom (end ∷ ends) n end
from-here end to n ends rises most = ((contains-here end ends end refl, most), λ m other. on m (contains-cases end ends m other.0))
  where
    on : (m : ℕ) → (end ≡ m) ⊎ Contains ends m → end ≤ m
    on m (inl same) = omega (arith, same)
    on m (inr later) = omega (arith, rising-above end to ends rises m later)

from-later : (end n found : ℕ) (ends : List ℕ) → end < n → IsFrom ends n found → IsFrom (end ∷ ends) n found
from-later end n found ends below is = ((contains-later end ends found is.0.0, is.0.1), λ m other. on m (contains-cases end ends m other.0) other.1)
  where
    on : (m : ℕ) → (end ≡ m) ⊎ Contains ends m → n ≤ m → found ≤ m
    on m (inl same) above = absurd (omega (arith, same, above, below))
    on m (inr later) above = is.1 m (later, above)

least-from : (end to n : ℕ) (ends : List ℕ) → Rises end ends to → n ≤ to → IsFrom (end ∷ ends) n (end_from (end ∷ ends) n)
unfolding end_from
least-from end to n [] rises most =
    let here : n ≤ end = omega (arith, rises, most) in rw (le-leb n end here) (from-here end to n [] rises here)
least-from end to n (next ∷ ends) rises most = on (cases_lt end n) (least-from next to n ends rises.1 most)
  where
    on : (end < n) ⊎ (n ≤ end) → IsFrom (next ∷ ends) n (end_from (next ∷ ends) n)
        → IsFrom (end ∷ next ∷ ends) n (if nat_le n end then end else end_from (next ∷ ends) n)
    on (inl below) more = rw (lt-leb n end below) (from-later end n (end_from (next ∷ ends) n) (next ∷ ends) below more)
    on (inr above) more = rw (le-leb n end above) (from-here end to n (next ∷ ends) rises above)

-- what is read

record Reads (words : Words) (xs : List ℕ) (read left reach : ℕ) : Type 0 where
  pub low : read ≤ reach
  pub some : 0 < left → read < reach
  pub high : reach ≤ read + left
  pub before : (m : ℕ) → read < m → m < reach → goes_on words (take m xs) ≡ true
  pub stop : goes_on words (take reach xs) ≡ true → reach ≡ read + left

reads : (words : Words) (xs : List ℕ) (read left : ℕ) → Reads words xs read left (read_from words xs read left)
unfolding read_from
reads words xs read zero = record {
  low = omega arith;
  some = λ more. absurd (omega (arith, more));
  high = omega arith;
  before = λ m above below. absurd (omega (arith, above, below));
  stop = λ goes. omega arith;
}
reads words xs read (suc left) = on (goes_on words (take (suc read) xs)) refl (reads words xs (suc read) left)
  where
    here : goes_on words (take (suc read) xs) ≡ true → (m : ℕ) → read < m → (suc read < m) ⊎ (m ≤ suc read)
        → (suc read < m → goes_on words (take m xs) ≡ true) → goes_on words (take m xs) ≡ true
    here is m above (inl beyond) more = more beyond
    here is m above (inr low) more = let same : suc read ≡ m = omega (arith, above, low) in subst (λ k. goes_on words (take k xs) ≡ true) same is

    on : (b : Bool) → goes_on words (take (suc read) xs) ≡ b → Reads words xs (suc read) left (read_from words xs (suc read) left)
        → Reads words xs read (suc left) (if b then read_from words xs (suc read) left else suc read)
    on true is more = record {
      low = omega (arith, more.low);
      some = λ any. omega (arith, more.low);
      high = omega (arith, more.high);
      before = λ m above below. here is m above (cases_lt (suc read) m) (λ beyond. more.before m beyond below);
      stop = λ goes. omega (arith, more.stop goes);
    }
    on false is more = record {
      low = omega arith;
      some = λ any. omega arith;
      high = omega arith;
      before = λ m above below. absurd (omega (arith, above, below));
      stop = λ goes. absurd (false≢true (sym is ∙ goes));
    }

-- the longest word

abbrev ends_word : Words → List ℕ → List ℕ → ℕ → Bool
ends_word words ends xs m = is_word words (take m xs) && is_end ends m

-- the greatest number up to n that passes
abbrev Longest : (ℕ → Bool) → ℕ → Option ℕ → Type 0
Longest test n None = (m : ℕ) → 0 < m → m ≤ n → test m ≡ false
Longest test n (Some k) = (0 < k) × (k ≤ n) × (test k ≡ true) × ((m : ℕ) → k < m → m ≤ n → test m ≡ false)

one-more : (test : ℕ → Bool) (n : ℕ) → test (suc n) ≡ false → (m : ℕ) → m ≤ suc n → (m ≤ n → test m ≡ false) → test m ≡ false
one-more test n last m most more = on (cases_lt n m)
  where
    on : (n < m) ⊎ (m ≤ n) → test m ≡ false
    on (inl above) = let same : suc n ≡ m = omega (arith, above, most) in subst (λ k. test k ≡ false) same last
    on (inr within) = more within

longest : (words : Words) (ends xs : List ℕ) (n : ℕ) → Longest (ends_word words ends xs) n (longest_word words ends xs n)
unfolding longest_word
longest words ends xs zero = λ m some most. absurd (omega (arith, some, most))
longest words ends xs (suc n) = on (ends_word words ends xs (suc n)) refl (longest_word words ends xs n) (longest words ends xs n)
  where
    on : (b : Bool) → ends_word words ends xs (suc n) ≡ b → (found : Option ℕ) → Longest (ends_word words ends xs) n found
        → Longest (ends_word words ends xs) (suc n) (if b then Some (suc n) else found)
    on true is found before = (omega arith, omega arith, is, λ m above most. absurd (omega (arith, above, most)))
    on false is None before = λ m some most. one-more (ends_word words ends xs) n is m most (before m some)
    on false is (Some k) before =
        (before.0, omega (arith, before.1), before.2, λ m above most. one-more (ends_word words ends xs) n is m most (before.3 m above))

split-take : (n m : ℕ) (xs : List ℕ) → n < m → m ≤ length xs → (next : ℕ) × ((tail : List ℕ) × (take m xs ≡ take n xs ++ next ∷ tail))
split-take n zero xs less inside = absurd (omega (arith, less))
split-take n (suc m) [] less inside = absurd (omega (arith, inside))
split-take zero (suc m) (x ∷ xs) less inside = (x, (take m xs, refl))
split-take (suc n) (suc m) (x ∷ xs) less inside =
    let rest = split-take n m xs (omega (arith, less)) (omega (arith, inside)) in
    (rest.0, (rest.1.0, ap (λ (later : List ℕ). x ∷ later) rest.1.1))

-- the cut that is computed is the one that is told

module _ (words : Words) (ends xs : List ℕ) (rises : Rises 0 ends (length xs)) (some : 0 < length xs) where
  abbrev Ends : ℕ → Type 0
  Ends n = Contains (0 ∷ ends) n

  abbrev reach : ℕ
  reach = read_all words xs

  reading : Reads words xs 0 (length xs) reach
  unfolding read_all
  reading = reads words xs 0 (length xs)

  reach-within : reach ≤ length xs
  reach-within = omega (arith, reading.high)

  -- no word is longer than what is read
  word-within : (m : ℕ) → IsWordEnd words Ends xs m → m ≤ reach
  word-within m is = on (cases_lt reach m)
    where
      on : (reach < m) ⊎ (m ≤ reach) → m ≤ reach
      on (inr within) = within
      on (inl beyond) =
          let parts = split-take reach m xs beyond is.within in
          let goes = prefix-to words (take reach xs) (parts.0, (parts.1.0, subst (λ (word : List ℕ). Contains words word) parts.1.1 is.word)) in
          absurd (omega (arith, beyond, is.within, reading.stop goes))

  word-passes : (m : ℕ) → IsWordEnd words Ends xs m → ends_word words (0 ∷ ends) xs m ≡ true
  word-passes m is = rw (word-to words (take m xs) is.word, among-end (0 ∷ ends) m is.ends) refl

  -- no end is dead that isn't read
  dead-from : (m : ℕ) → IsDeadEnd words xs m → reach ≤ m
  dead-from m is = on (cases_lt m reach)
    where
      on : (m < reach) ⊎ (reach ≤ m) → reach ≤ m
      on (inr from) = from
      on (inl before) = absurd (is.dead (prefix-from words (take m xs) (reading.before m is.some before)))

  from-reach : IsFrom (0 ∷ ends) reach (end_from (0 ∷ ends) reach)
  from-reach = least-from 0 (length xs) reach ends rises reach-within

  otherwise : Otherwise words Ends xs (end_from (0 ∷ ends) reach)
  otherwise = on (goes_on words (take reach xs)) refl
    where
      on : (b : Bool) → goes_on words (take reach xs) ≡ b → Otherwise words Ends xs (end_from (0 ∷ ends) reach)
      on false is = inl (
        reach,
        (
          (
            record {
              some = reading.some some;
              within = reach-within;
              dead = λ prefix. false≢true (sym is ∙ prefix-to words (take reach xs) prefix);
            },
            dead-from,
          ),
          from-reach,
        ),
      )
      on true is =
          let all : reach ≡ length xs = omega (arith, reading.stop is) in
          inr (
            λ m end. end.dead (prefix-from words (take m xs)
                (let same : reach ≡ m = omega (arith, dead-from m end, end.within, all) in subst (λ k. goes_on words (take k xs) ≡ true) same is)),
            let low = from-reach.1 (length xs) (last-among 0 (length xs) ends rises, reach-within) in
                omega (arith, low, from-reach.0.1, all),
          )

  found-is : (found : Option ℕ) → Longest (ends_word words (0 ∷ ends) xs) reach found
      → IsNextCut words Ends xs (unwrap_or found (end_from (0 ∷ ends) reach))
  found-is None none =
      inr (λ m is. false≢true (sym (none m is.some (word-within m is)) ∙ word-passes m is), otherwise)
  found-is (Some k) found = inl (
    record {
      some = found.0;
      within = omega (arith, found.1, reach-within);
      word = word-from words (take k xs) passes.0;
      ends = end-among (0 ∷ ends) k passes.1;
    },
    λ m is. on m is (cases_lt k m),
  )
    where
      passes : (is_word words (take k xs) ≡ true) × (is_end (0 ∷ ends) k ≡ true)
      passes = and_parts (is_word words (take k xs)) (is_end (0 ∷ ends) k) found.2

      on : (m : ℕ) → IsWordEnd words Ends xs m → (k < m) ⊎ (m ≤ k) → m ≤ k
      on m is (inr low) = low
      on m is (inl above) = absurd (false≢true (sym (found.3 m above (word-within m is)) ∙ word-passes m is))

  pub first-is : IsNextCut words Ends xs (first_cut words (0 ∷ ends) xs)
  unfolding first_cut
  first-is = found-is (longest_word words (0 ∷ ends) xs reach) (longest words (0 ∷ ends) xs reach)

-- such a cut takes something, and no more than there is
pub next-some : (words : Words) (Ends : ℕ → Type 0) (rest : List ℕ) (n : ℕ) → 0 < length rest → IsNextCut words Ends rest n → 0 < n
next-some words Ends rest n some (inl is) = is.0.some
next-some words Ends rest n some (inr (none, inl (dead, (least, cut)))) = omega (arith, least.0.some, cut.0.1)
next-some words Ends rest n some (inr (none, inr (never, end))) = omega (arith, some, end)
