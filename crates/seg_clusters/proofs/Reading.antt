-- A piece is read code point by code point, to find its first cut.
use Rattle.std.proofs.Common.{◌≡◌, ℕ, zero, suc, ◌+◌, ◌-◌, ◌<◌, ◌≤◌, ◌⊎◌, inl, inr, Bool, true, false, Option, Some, None, List, [], ◌∷◌, ◌++◌, length, map, take, drop, nat_eq, nat_le, refl, sym, ap, ◌∙◌, subst, arith}
use Rattle.std.specs.Prelude.{◌&&◌, ◌||◌, if◌then◌else◌, unwrap_or}
use Rattle.std.specs.Option.{option_map}
use Rattle.std.proofs.lemmas.Bool.{eq-eqb, ne_eqb, cases_lt, le-leb, lt-leb, leb-true}
use Rattle.std.proofs.lemmas.List.{drop-drop, length-drop, length-map}
use Rattle.std.proofs.Math.Dec.{eqb-suc-zero}
use Rattle.seg_text.specs.Items.{Item, Text, place_of, code_points, IsRising}
use Rattle.seg_text.specs.Boundaries.{boundaries_in, offsets}
use Rattle.seg_text.proofs.Places.{IsRising-drop, place_of-drop-lt}
use Rattle.seg_data.specs.WordSets.{Words, tails_after, tails, has_empty, has_nonempty}
use Rattle.seg_clusters.specs.DictionaryCuts.{Clusters, is_word, goes_on, is_end, end_from, longest_word, read_from, read_all, first_cut}
use Rattle.seg_clusters.proofs.Cutting.{places-offsets}
use Rattle.seg_clusters.proofs.Tails.{tails-one}
use Rattle.seg_clusters.proofs.NextCuts.{Rises, rising-to}
use Rattle.seg_clusters.proofs.Restarted.{AreEnds}

-- the place after so many items
abbrev pub at : List Item → ℕ → ℕ → ℕ
at items end n = place_of (drop n items) end

-- places rise with the numbers of items
module _ (items : List Item) (end : ℕ) (rising : IsRising items end) where
  pub at-rises : (n m : ℕ) → n < m → n < length items → at items end n < at items end m
  at-rises n m less inside = on (drop n items) refl (IsRising-drop items end n rising)
    where
      on : (rest : List Item) → drop n items ≡ rest → IsRising rest end → at items end n < at items end m
      on [] is rises = absurd (let long = length-drop n items in let none = ap length is in omega (arith, long, none))
      on (item ∷ rest) is rises =
          let more : n + (m - n) ≡ m = omega (arith, less) in
          let there : drop m items ≡ drop (m - n) (item ∷ rest) = ap (λ k. drop k items) (sym more) ∙ sym (drop-drop (m - n) n items) ∙ ap (drop (m - n)) is in
          rw (is, there) (place_of-drop-lt item rest end (m - n) rises (omega (arith, less)))

  at-same : (n m : ℕ) → n ≤ m → m ≤ length items → nat_eq (at items end m) (at items end n) ≡ nat_eq m n
  at-same n m least most = on (cases_lt n m)
    where
      on : (n < m) ⊎ (m ≤ n) → nat_eq (at items end m) (at items end n) ≡ nat_eq m n
      on (inl less) =
          let higher = at-rises n m less (omega (arith, less, most)) in
          ne_eqb (at items end m) (at items end n) (λ same. omega (arith, higher, same)) ∙ sym (ne_eqb m n (λ same. omega (arith, less, same)))
      on (inr not_less) =
          let same : m ≡ n = omega (arith, least, not_less) in
          rw same (eq-eqb (at items end n) (at items end n) refl ∙ sym (eq-eqb n n refl))

not-end : (ends : List ℕ) (from to n : ℕ) → Rises from ends to → n ≤ from → is_end ends n ≡ false
unfolding is_end
not-end [] from to n rises before = refl
not-end (end ∷ ends) from to n rises before =
    rw (ne_eqb end n (λ same. omega (arith, rises.0, same, before)), not-end ends end to n rises.1 (omega (arith, rises.0, before))) refl

-- an iterator over the ends of clusters stands at the first end from `read` on
pub record IsAt (items : List Item) (end : ℕ) (ends : List ℕ) (read cluster : ℕ) (left : List ℕ) : Type 0 where
  pub first : ℕ
  pub later : List ℕ
  pub here : cluster ≡ at items end first
  pub after : left ≡ map (at items end) later
  pub from : read ≤ first
  pub rises : Rises first later (length items)
  pub same_first : (n : ℕ) → read ≤ n → end_from ends n ≡ end_from (first ∷ later) n
  pub same_ends : (n : ℕ) → read ≤ n → is_end ends n ≡ is_end (first ∷ later) n

pub at-start : (items : List Item) (end : ℕ) (ends all left : List ℕ) (cluster : ℕ) → AreEnds ends (length items)
    → all ≡ map (at items end) ends → all ≡ cluster ∷ left → IsAt items end ends 0 cluster left
at-start items end ends all left cluster covered is first =
    let both : cluster ∷ left ≡ at items end 0 ∷ map (at items end) covered.later = sym first ∙ is ∙ ap (map (at items end)) covered.is in record {
      first = 0;
      later = covered.later;
      here = cc;
      after = cc;
      from = omega arith;
      rises = covered.rises;
      same_first = λ n least. ap (λ (ends : List ℕ). end_from ends n) covered.is;
      same_ends = λ n least. ap (λ (ends : List ℕ). is_end ends n) covered.is;
    }

-- and goes on to the next read
pub at-next : (items : List Item) (end : ℕ) (ends : List ℕ) (read cluster next : ℕ) (left rest : List ℕ) → IsRising items end → read < length items
    → IsAt items end ends read cluster left
    → (at items end (suc read) ≤ cluster → (next ≡ cluster) × (rest ≡ left))
    → (cluster < at items end (suc read) → (left ≡ [] → ⊥) → left ≡ next ∷ rest)
    → IsAt items end ends (suc read) next rest
unfolding end_from is_end
at-next items end ends read cluster next left rest rising inside here stays goes = on (cases_lt read here.first) here.later refl
  where
    on : (read < here.first) ⊎ (here.first ≤ read) → (later : List ℕ) → here.later ≡ later → IsAt items end ends (suc read) next rest
    on (inl before) later is =
        let reached : at items end (suc read) ≤ cluster = rw here.here (up (cases_lt (suc read) here.first)) in
        let same = stays reached in record {
          first = here.first;
          later = here.later;
          here = same.0 ∙ here.here;
          after = same.1 ∙ here.after;
          from = omega (arith, before);
          rises = here.rises;
          same_first = λ n least. here.same_first n (omega (arith, least));
          same_ends = λ n least. here.same_ends n (omega (arith, least));
        }
      where
        up : (suc read < here.first) ⊎ (here.first ≤ suc read) → at items end (suc read) ≤ at items end here.first
        up (inl less) = let higher = at-rises items end rising (suc read) here.first less (omega (arith, less, rising-to here.first (length items) here.later here.rises)) in omega (arith, higher)
        up (inr most) = let same : here.first ≡ suc read = omega (arith, most, before) in rw same (omega arith)
    on (inr reached) [] is =
        let last : here.first ≡ length items = subst (λ (later : List ℕ). Rises here.first later (length items)) is here.rises in
        absurd (omega (arith, last, reached, inside))
    on (inr reached) (end' ∷ later) is =
        let first : here.first ≡ read = omega (arith, reached, here.from) in
        let rises : Rises here.first (end' ∷ later) (length items) = subst (λ (later : List ℕ). Rises here.first later (length items)) is here.rises in
        let below : cluster < at items end (suc read) = rw (here.here, first) (at-rises items end rising read (suc read) (omega arith) inside) in
        let left_is : left ≡ at items end end' ∷ map (at items end) later = here.after ∙ ap (map (at items end)) is in
        let gave : left ≡ next ∷ rest = goes below (λ none. let e : [] ≡ at items end end' ∷ map (at items end) later = sym none ∙ left_is in cc) in
        let both : next ∷ rest ≡ at items end end' ∷ map (at items end) later = sym gave ∙ left_is in record {
          first = end';
          later = later;
          here = cc;
          after = cc;
          from = omega (arith, rises.0, first);
          rises = rises.1;
          same_first = λ n least. here.same_first n (omega (arith, least)) ∙ ap (λ (later : List ℕ). end_from (here.first ∷ later) n) is
              ∙ passed-first n (omega (arith, first, least));
          same_ends = λ n least. here.same_ends n (omega (arith, least)) ∙ ap (λ (later : List ℕ). is_end (here.first ∷ later) n) is
              ∙ passed-end n (omega (arith, first, least));
        }
      where
        passed-first : (n : ℕ) → here.first < n → end_from (here.first ∷ end' ∷ later) n ≡ end_from (end' ∷ later) n
        passed-first n less = rw (lt-leb n here.first less) refl

        passed-end : (n : ℕ) → here.first < n → is_end (here.first ∷ end' ∷ later) n ≡ is_end (end' ∷ later) n
        passed-end n less = rw (ne_eqb here.first n (λ same. omega (arith, less, same))) refl

-- what was read so far

take-one : (k : ℕ) (items : List Item) (item : Item) (after : List Item) → drop k items ≡ item ∷ after
    → take (suc k) (code_points items) ≡ take k (code_points items) ++ item.1 ∷ []
take-one zero [] item after is = absurd cc
take-one zero (first ∷ items) item after is = let same : first ≡ item = cc in ap (λ (item : Item). item.1 ∷ []) same
take-one (suc k) [] item after is = absurd cc
take-one (suc k) (first ∷ items) item after is = ap (λ (rest : List ℕ). first.1 ∷ rest) (take-one k items item after is)

drop-one : (k : ℕ) (items : List Item) (item : Item) (after : List Item) → drop k items ≡ item ∷ after → (after ≡ drop (suc k) items) × (k < length items)
drop-one zero [] item after is = absurd cc
drop-one zero (first ∷ items) item after is = (cc, omega arith)
drop-one (suc k) [] item after is = absurd cc
drop-one (suc k) (first ∷ items) item after is = let more = drop-one k items item after is in (more.0, omega (arith, more.1))

pub length-points : (items : List Item) → length (code_points items) ≡ length items
length-points items = length-map items (λ (item : Item). item.1)

-- so many code points were read: what is left of the words and of the text, where the clusters are, and the longest word
pub record HasRead (words : Words) (ends : List ℕ) (items : List Item) (end : ℕ) (read : ℕ)
    (left : List Item) (now : Words) (cluster : ℕ) (clusters : List ℕ) (longest : Option ℕ) : Type 0 where
  pub within : read ≤ length items
  pub rest : left ≡ drop read items
  pub after : now ≡ tails (take read (code_points items)) words
  pub found : longest ≡ option_map (at items end) (longest_word words ends (code_points items) read)
  pub ends_at : IsAt items end ends read cluster clusters

-- all of them but the last are the beginning of a longer word
pub record IsReading (words : Words) (ends : List ℕ) (items : List Item) (end : ℕ)
    (left : List Item) (now : Words) (cluster : ℕ) (clusters : List ℕ) (longest : Option ℕ) : Type 0 where
  pub read : ℕ
  pub so_far : HasRead words ends items end read left now cluster clusters longest
  pub reach : read_all words (code_points items) ≡ read_from words (code_points items) read (length items - read)

-- one more is read, and it isn't told yet whether a longer word begins with them
pub record IsStep (words : Words) (ends : List ℕ) (items : List Item) (end : ℕ)
    (left : List Item) (now : Words) (cluster : ℕ) (clusters : List ℕ) (longest : Option ℕ) : Type 0 where
  pub read : ℕ
  pub so_far : HasRead words ends items end read left now cluster clusters longest
  pub reach : read_all words (code_points items) ≡ (if has_nonempty now then read_from words (code_points items) read (length items - read) else read)

pub reading-start : (words : Words) (ends : List ℕ) (items : List Item) (end : ℕ) (now : Words) (cluster : ℕ) (clusters : List ℕ)
    → now ≡ words → IsAt items end ends 0 cluster clusters → IsReading words ends items end items now cluster clusters None
unfolding read_all longest_word
reading-start words ends items end now cluster clusters same here = record {
  read = 0;
  so_far = record { within = omega arith; rest = refl; after = same; found = refl; ends_at = here };
  reach = let n : length items - 0 ≡ length (code_points items) = omega (arith, length-points items) in rw n refl;
}

longer-same : (at : ℕ → ℕ) (is : Bool) (n : ℕ) (before : Option ℕ) → (if is then Some (at n) else option_map at before) ≡ option_map at (if is then Some n else before)
longer-same at true n before = refl
longer-same at false n before = refl

tails-next : (words : Words) (read more : List ℕ) (code_point : ℕ) (now next : Words) → more ≡ read ++ code_point ∷ [] → now ≡ tails read words
    → next ≡ tails_after code_point now → next ≡ tails more words
tails-next words read more code_point now next is before step =
    step ∙ ap (tails_after code_point) before ∙ sym (tails-one read code_point words) ∙ ap (λ (read : List ℕ). tails read words) (sym is)

or-false : (b : Bool) → b ≡ b || false
or-false true = refl
or-false false = refl

ends-here : (items : List Item) (end n next reached first : ℕ) (later : List ℕ) → IsRising items end → Rises first later (length items) → n ≤ first
    → next ≡ at items end first → reached ≡ at items end n → nat_eq next reached ≡ is_end (first ∷ later) n
unfolding is_end
ends-here items end n next reached first later rising rises from next_is reached_is =
    rw (next_is, reached_is, at-same items end rising n first from (rising-to first (length items) later rises), not-end later first (length items) n rises from)
    (or-false (nat_eq first n))

pub reading-step : (words : Words) (ends : List ℕ) (items : List Item) (end : ℕ)
    (left after : List Item) (item : Item) (now next : Words) (cluster next_cluster reached : ℕ) (clusters later : List ℕ) (longest next_longest : Option ℕ)
    → IsRising items end → IsReading words ends items end left now cluster clusters longest → left ≡ item ∷ after
    → reached ≡ place_of after end
    → (reached ≤ cluster → (next_cluster ≡ cluster) × (later ≡ clusters))
    → (cluster < reached → (clusters ≡ [] → ⊥) → clusters ≡ next_cluster ∷ later)
    → next ≡ tails_after item.1 now
    → next_longest ≡ (if has_empty next && nat_eq next_cluster reached then Some reached else longest)
    → IsStep words ends items end after next next_cluster later next_longest
unfolding read_from longest_word
reading-step words ends items end left after item now next cluster next_cluster reached clusters later longest next_longest rising reading is place stays goes step found =
    let k = reading.read in
    let s = reading.so_far in
    let one = take-one k items item after (sym s.rest ∙ is) in
    let moved = drop-one k items item after (sym s.rest ∙ is) in
    let there : reached ≡ at items end (suc k) = place ∙ ap (λ (rest : List Item). place_of rest end) moved.0 in
    let here = at-next items end ends k cluster next_cluster clusters later rising moved.1 s.ends_at (rw there at stays) (rw there at goes) in
    let tails_are = tails-next words (take k (code_points items)) (take (suc k) (code_points items)) item.1 now next one s.after step in
    let end_is : nat_eq next_cluster reached ≡ is_end ends (suc k) =
    ends-here items end (suc k) next_cluster reached here.first here.later rising here.rises here.from here.here there ∙ sym (here.same_ends (suc k) (omega arith)) in
    let left_is : length items - k ≡ suc (length items - suc k) = omega (arith, moved.1) in
    record {
      read = suc k;
      so_far = record {
        within = omega (arith, moved.1);
        rest = moved.0;
        after = tails_are;
        found = found ∙ rw (tails_are, end_is, there, s.found)
            (longer-same (at items end) (is_word words (take (suc k) (code_points items)) && is_end ends (suc k)) (suc k) (longest_word words ends (code_points items) k));
        ends_at = here;
      };
      reach = reading.reach ∙ rw (left_is, tails_are) refl;
    }

pub reading-on : (words : Words) (ends : List ℕ) (items : List Item) (end : ℕ)
    (left : List Item) (now : Words) (cluster : ℕ) (clusters : List ℕ) (longest : Option ℕ)
    → IsStep words ends items end left now cluster clusters longest → has_nonempty now ≡ true → IsReading words ends items end left now cluster clusters longest
reading-on words ends items end left now cluster clusters longest step on = record { read = step.read; so_far = step.so_far; reach = step.reach ∙ rw on refl }

at-cut : (at : ℕ → ℕ) (found : Option ℕ) (other : ℕ) → unwrap_or (option_map at found) (at other) ≡ at (unwrap_or found other)
at-cut at None other = refl
at-cut at (Some n) other = refl

found-cut : (words : Words) (ends : List ℕ) (items : List Item) (end read : ℕ)
    (left : List Item) (now : Words) (cluster : ℕ) (clusters : List ℕ) (longest : Option ℕ)
    → HasRead words ends items end read left now cluster clusters longest → read_all words (code_points items) ≡ read
    → unwrap_or longest cluster ≡ at items end (first_cut words ends (code_points items))
unfolding first_cut end_from
found-cut words ends items end read left now cluster clusters longest s all =
    let here = s.ends_at in
    let first : end_from ends read ≡ here.first = here.same_first read (omega arith) ∙ rw (le-leb read here.first here.from) refl in
    rw (all, first, s.found, here.here) (at-cut (at items end) (longest_word words ends (code_points items) read) here.first)

pub reading-stop : (words : Words) (ends : List ℕ) (items : List Item) (end : ℕ)
    (left : List Item) (now : Words) (cluster : ℕ) (clusters : List ℕ) (longest : Option ℕ)
    → IsStep words ends items end left now cluster clusters longest → has_nonempty now ≡ false
    → unwrap_or longest cluster ≡ at items end (first_cut words ends (code_points items))
reading-stop words ends items end left now cluster clusters longest step off =
    found-cut words ends items end step.read left now cluster clusters longest step.so_far (step.reach ∙ rw off refl)

pub reading-end : (words : Words) (ends : List ℕ) (items : List Item) (end : ℕ)
    (left : List Item) (now : Words) (cluster : ℕ) (clusters : List ℕ) (longest : Option ℕ)
    → IsReading words ends items end left now cluster clusters longest → left ≡ []
    → unwrap_or longest cluster ≡ at items end (first_cut words ends (code_points items))
unfolding read_from
reading-end words ends items end left now cluster clusters longest reading none =
    let s = reading.so_far in
    let all : length items - reading.read ≡ 0 = omega (arith, length-drop reading.read items, ap length (sym s.rest ∙ none)) in
    found-cut words ends items end reading.read left now cluster clusters longest s (reading.reach ∙ rw all refl)

-- each cut takes something

read-some : (words : Words) (code_points : List ℕ) (read left : ℕ) → read ≤ read_from words code_points read left
unfolding read_from
read-some words code_points read zero = omega arith
read-some words code_points read (suc left) = on (goes_on words (take (suc read) code_points)) (read-some words code_points (suc read) left)
  where
    on : (b : Bool) → suc read ≤ read_from words code_points (suc read) left → read ≤ (if b then read_from words code_points (suc read) left else suc read)
    on true more = omega (arith, more)
    on false more = omega arith

reads-one : (words : Words) (first : ℕ) (rest : List ℕ) → 0 < read_all words (first ∷ rest)
unfolding read_all read_from
reads-one words first rest = on (goes_on words (first ∷ [])) (read-some words (first ∷ rest) 1 (length rest))
  where
    on : (b : Bool) → 1 ≤ read_from words (first ∷ rest) 1 (length rest) → 0 < (if b then read_from words (first ∷ rest) 1 (length rest) else 1)
    on true more = omega (arith, more)
    on false more = omega arith

from-above : (ends : List ℕ) (n : ℕ) → n ≤ end_from ends n
unfolding end_from
from-above [] n = omega arith
from-above (end ∷ ends) n = on (nat_le n end) refl (from-above ends n)
  where
    on : (b : Bool) → nat_le n end ≡ b → n ≤ end_from ends n → n ≤ (if b then end else end_from ends n)
    on true is later = leb-true n end is
    on false is later = later

longest-above : (words : Words) (ends code_points : List ℕ) (n found : ℕ) → longest_word words ends code_points n ≡ Some found → 0 < found
unfolding longest_word
longest-above words ends code_points zero found is = absurd cc
longest-above words ends code_points (suc n) found is = on (is_word words (take (suc n) code_points) && is_end ends (suc n)) is (longest-above words ends code_points n found)
  where
    on : (b : Bool) → (if b then Some (suc n) else longest_word words ends code_points n) ≡ Some found → (longest_word words ends code_points n ≡ Some found → 0 < found) → 0 < found
    on true is before = let same : suc n ≡ found = cc in omega (arith, same)
    on false is before = before is

pub cut-some : (words : Words) (ends : List ℕ) (first : ℕ) (rest : List ℕ) → 0 < first_cut words ends (first ∷ rest)
unfolding first_cut
cut-some words ends first rest = on (longest_word words ends (first ∷ rest) read) refl
  where
    read : ℕ
    read = read_all words (first ∷ rest)

    on : (found : Option ℕ) → longest_word words ends (first ∷ rest) read ≡ found → 0 < unwrap_or found (end_from ends read)
    on None is = omega (arith, reads-one words first rest, from-above ends read)
    on (Some n) is = longest-above words ends (first ∷ rest) read n is

-- a text with nothing left

pub at_end-none : (items : List Item) (b : Bool) → b ≡ nat_eq (length items) 0 → b ≡ true → items ≡ []
at_end-none [] b is end = refl
at_end-none (item ∷ items) b is end = let e : nat_eq (suc (length items)) 0 ≡ true = sym is ∙ end in absurd (let o = eqb-suc-zero (length items) in cc)

pub not_at_end-some : (items : List Item) (b : Bool) → b ≡ nat_eq (length items) 0 → b ≡ false → items ≡ [] → ⊥
not_at_end-some items b is more none = let e : false ≡ nat_eq 0 0 = sym more ∙ is ∙ ap (λ (items : List Item). nat_eq (length items) 0) none in cc

-- ends of clusters, as places

pub ends-at : (clusters : Clusters) (text : Text) (left : List ℕ) → left ≡ offsets (boundaries_in clusters text)
    → left ≡ map (at text.items text.end) (offsets (clusters (code_points text.items)))
ends-at clusters text left is = is ∙ sym (places-offsets text (clusters (code_points text.items)))
