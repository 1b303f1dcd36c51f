-- Chains of verdicts, where those to go on are stretches without boundaries.
use Rattle.std.proofs.Common.{◌≡◌, ℕ, zero, suc, ◌+◌, ◌<◌, ◌≤◌, List, [], ◌∷◌, ◌++◌, length, map, drop, refl, sym, ap, ◌∙◌, subst, arith}
use Rattle.std.proofs.lemmas.List.{drop-drop, drop-map, length-map}
use Rattle.seg_text.specs.Boundaries.{boundary, shift_all, Stretch, later_boundaries, HasProgress}
use Rattle.seg_text.proofs.Stretches.{later-next}
use Rattle.seg_text.proofs.Places.{shifted-none, shifted-twice}
use Rattle.seg_pairs.specs.Verdict.{Verdict, chain_within, chain, TakesOf, IsForward}
use Rattle.seg_pairs.specs.Verdict.Verdict.{BreakAfter, GoAfter, RunBegins}
use Rattle.seg_pairs.specs.Breaks.{status_of, stretch_of}
use Rattle.seg_pairs.proofs.Chains.{left-after, go_on-same, chain-go, chain-break, chain-run}

-- where a chain ends: all boundaries of the whole are those from there on
pub record Chained {X : Type 0} (first : List X → Stretch) (v : List X → Verdict) (whole : List X) : Type 0 where
  pub gone : ℕ
  pub last : Verdict
  pub chain_is : chain v whole ≡ (gone, last)
  pub element : X
  pub others : List X
  pub there : drop gone whole ≡ element ∷ others
  pub last_is : v (element ∷ others) ≡ last
  pub later_is : later_boundaries first whole ≡ shift_all gone (later_boundaries first (element ∷ others))

module _ {X : Type 0} (first : List X → Stretch) (going : HasProgress first) (v : List X → Verdict) (forward : IsForward v)
    (goes : (x : X) (xs : List X) (n : ℕ) → v (x ∷ xs) ≡ GoAfter n → first (x ∷ xs) ≡ record { extent = n; boundaries = [] }) where
  chained-within : (most : ℕ) (x : X) (xs : List X) → length (x ∷ xs) ≤ most → Chained first v (x ∷ xs)
  chained-within zero x xs bound = absurd (omega arith)
  chained-within (suc most) x xs bound = on (v (x ∷ xs)) refl (forward x xs) (λ y ys less. chained-within most y ys less)
    where
      here : (w : Verdict) → v (x ∷ xs) ≡ w → chain v (x ∷ xs) ≡ (0, w) → Chained first v (x ∷ xs)
      here w is found = record {
        gone = 0;
        last = w;
        chain_is = found;
        element = x;
        others = xs;
        there = refl;
        last_is = is;
        later_is = sym (shifted-none (later_boundaries first (x ∷ xs)));
      }

      on : (w : Verdict) → v (x ∷ xs) ≡ w → TakesOf (length (x ∷ xs)) (v (x ∷ xs)) → ((y : X) (ys : List X) → length (y ∷ ys) ≤ most → Chained first v (y ∷ ys)) → Chained first v (x ∷ xs)
      on (BreakAfter n class) is takes later = here (BreakAfter n class) is (chain-break v forward x xs n class is)
      on RunBegins is takes later = here RunBegins is (chain-run v forward x xs is)
      on (GoAfter n) is takes later =
          let bounds : (0 < n) × (n < length (x ∷ xs)) = subst (TakesOf (length (x ∷ xs))) is takes in
          let left = left-after n (x ∷ xs) bounds.1 in
          let more = later left.first left.others (omega (arith, left.fewer, bounds.0, bound)) in
          let found : chain v (x ∷ xs) ≡ (n + more.gone, more.last) =
          chain-go v forward x xs n is ∙ ap (λ (ys : List X). (n + (chain v ys).0, (chain v ys).1)) left.same ∙ ap (λ (found : ℕ × Verdict). (n + found.0, found.1)) more.chain_is in
          let moved : later_boundaries first (x ∷ xs) ≡ shift_all n (later_boundaries first (drop n (x ∷ xs))) =
          later-next first going x xs ∙ ap (λ (s : Stretch). s.boundaries ++ shift_all s.extent (later_boundaries first (drop s.extent (x ∷ xs)))) (goes x xs n is) in
          record {
            gone = n + more.gone;
            last = more.last;
            chain_is = found;
            element = more.element;
            others = more.others;
            there = sym (drop-drop more.gone n (x ∷ xs)) ∙ ap (drop more.gone) left.same ∙ more.there;
            last_is = more.last_is;
            later_is = moved ∙ ap (λ (ys : List X). shift_all n (later_boundaries first ys)) left.same ∙ ap (shift_all n) more.later_is ∙ shifted-twice n more.gone (later_boundaries first (more.element ∷ more.others));
          }

  pub chained : (x : X) (xs : List X) → Chained first v (x ∷ xs)
  chained x xs = chained-within (length (x ∷ xs)) x xs (omega arith)

-- the boundary that a chain ends in is the first, and those after it are those of what is left
module _ {X : Type 0} (v : List X → Verdict) (forward : IsForward v) (statuses : List ℕ) (first : List X → Stretch)
    (by : (x : X) (xs : List X) → first (x ∷ xs) ≡ stretch_of statuses (length (x ∷ xs)) (v (x ∷ xs))) where
  by-going : HasProgress first
  by-going x xs = rw (by x xs) (on (v (x ∷ xs)) (forward x xs))
    where
      on : (w : Verdict) → TakesOf (length (x ∷ xs)) w → 0 < (stretch_of statuses (length (x ∷ xs)) w).extent
      on (BreakAfter n class) bounds = bounds.0
      on (GoAfter n) bounds = bounds.0
      on RunBegins bounds = omega arith

  pub chain-first : (x : X) (xs : List X) (gone n class : ℕ) → chain v (x ∷ xs) ≡ (gone, BreakAfter n class)
      → later_boundaries first (x ∷ xs)
      ≡ boundary (gone + n) (status_of statuses class) ∷ shift_all (gone + n) (later_boundaries first (drop (gone + n) (x ∷ xs)))
  chain-first x xs gone n class found =
      let ch = chained first by-going v forward (λ y ys m is. by y ys ∙ ap (stretch_of statuses (length (y ∷ ys))) is) x xs in
      let ends = sym ch.chain_is ∙ found in
      let gone_is : ch.gone ≡ gone = ap (λ (found : ℕ × Verdict). found.0) ends in
      let last_is : v (ch.element ∷ ch.others) ≡ BreakAfter n class = ch.last_is ∙ ap (λ (found : ℕ × Verdict). found.1) ends in
      let next = later-next first by-going ch.element ch.others
      ∙ ap (λ (s : Stretch). s.boundaries ++ shift_all s.extent (later_boundaries first (drop s.extent (ch.element ∷ ch.others))))
      (by ch.element ch.others ∙ ap (stretch_of statuses (length (ch.element ∷ ch.others))) last_is) in
      ch.later_is ∙ rw (next, shifted-twice ch.gone n, ← ch.there, drop-drop n ch.gone (x ∷ xs), gone_is) refl

-- what maps the elements first has the same chain

chain_within-map : {X Y : Type 0} (f : X → Y) (v : List Y → Verdict) (most : ℕ) (xs : List X) → chain_within (λ (xs : List X). v (map f xs)) most xs ≡ chain_within v most (map f xs)
unfolding chain_within
chain_within-map f v zero xs = refl
chain_within-map f v (suc most) xs =
    go_on-same _ _ (v (map f xs)) (λ n goes. chain_within-map f v most (drop n xs) ∙ ap (chain_within v most) (sym (drop-map f n xs)))

pub chain-map : {X Y : Type 0} (f : X → Y) (v : List Y → Verdict) (xs : List X) → chain (λ (xs : List X). v (map f xs)) xs ≡ chain v (map f xs)
unfolding chain
chain-map f v xs = rw (length-map xs f) (chain_within-map f v (length xs) xs)
