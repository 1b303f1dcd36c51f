-- The bits of the pairs that a search has found.
use Rattle.std.proofs.Common.{◌≡◌, ◌≢◌, ℕ, ◌+◌, ◌*◌, ◌/◌, ◌%◌, ◌^◌, ◌<◌, ◌==◌, ◌⊎◌, true, ◌++◌, List, [], ◌∷◌, length, replicate, get_or, set, bit_and, bit_or, w8, w64, refl, sym, ap, subst, ◌∙◌, inl, inr, arith, get_or-set_same, get_or-set_other, eq-eqb}
use Rattle.std.specs.Int.{bit_at, bit_not}
use Rattle.std.specs.Prelude.{Contains}
use Rattle.std.proofs.lemmas.Bool.{cases_eq, cases_lt, ne_eqb, false≢true}
use Rattle.std.proofs.lemmas.Nat.{and_le_l}
use Rattle.std.proofs.lemmas.List.Elements.{Contains-append_left, Contains-push_cases}
use Rattle.std.proofs.lemmas.Nat.Bits.{bit_at-zero, bit_at-lt, bit_at_and, bit_at_set_same, bit_at_set_other, bit_at_clear_same}
use Rattle.seg_machine.proofs.Tables.{replicate-reads}
use Rattle.seg_machine.specs.Search.{has, IsBelow, IsMarked, IsQueue, Pair, bit_number}

bit : List ℕ → ℕ → ℕ
bit words number = bit_at (get_or words (number / 64) 0) (number % 64)

-- the words with one bit more
abbrev pub with_bit : List ℕ → ℕ → List ℕ
with_bit words number = set words (number / 64) (bit_or (get_or words (number / 64) 0) (1 * 2 ^ (number % 64) % 2 ^ 64))

module _ (words : List ℕ) (number : ℕ) (within : number / 64 < length words) where
  bit-same : bit (with_bit words number) number ≡ 1
  unfolding bit
  bit-same =
      ap (λ n. bit_at n (number % 64)) (get_or-set_same words (number / 64) _ 0 within)
      ∙ bit_at_set_same w64 (get_or words (number / 64) 0) (number % 64) (omega arith)

  bit-other : (other : ℕ) → other ≢ number → bit (with_bit words number) other ≡ bit words other
  unfolding bit
  bit-other other differs =
      elim (cases_eq (other / 64) (number / 64)) [
        | inl same ↦
            rw (same, get_or-set_same words (number / 64) (bit_or (get_or words (number / 64) 0) (1 * 2 ^ (number % 64) % 2 ^ 64)) 0 within)
            (bit_at_set_other w64 (get_or words (number / 64) 0) (number % 64) (omega arith) (other % 64) (λ index. differs (omega arith)))
        | inr apart ↦ ap (λ n. bit_at n (other % 64)) (get_or-set_other words (number / 64) (other / 64) _ 0 apart)
      ]

module _ (marks : List ℕ) (state kept : ℕ) (few : state < 255) (small : kept < 256) (all : length marks ≡ 1024) where
  within : (kept * 256 + state) / 64 < length marks
  within = omega arith

  pub marked-here : IsMarked (with_bit marks (kept * 256 + state)) (state, kept)
  unfolding bit
  marked-here = record { state = few; kept = small; bit = bit-same marks (kept * 256 + state) within }

  differ : (pair : Pair) → pair.0 < 255 → pair.1 < 256 → bit_number pair ≡ kept * 256 + state → pair ≡ (state, kept)
  differ (other, set) low below same =
      let states : other ≡ state = omega arith in
      let sets : set ≡ kept = omega arith in
      rw (states, sets) refl

  pub marked-keeps : (pair : Pair) → IsMarked marks pair → IsMarked (with_bit marks (kept * 256 + state)) pair
  unfolding bit
  marked-keeps pair marked = record {
    state = marked.state;
    kept = marked.kept;
    bit = elim (cases_eq (bit_number pair) (kept * 256 + state)) [
      | inl same ↦ ap (bit (with_bit marks (kept * 256 + state))) same ∙ bit-same marks (kept * 256 + state) within
      | inr apart ↦ bit-other marks (kept * 256 + state) within (bit_number pair) apart ∙ marked.bit
    ];
  }

  pub marked-only : (pair : Pair) → IsMarked (with_bit marks (kept * 256 + state)) pair → (pair ≡ (state, kept)) ⊎ IsMarked marks pair
  unfolding bit
  marked-only pair marked =
      elim (cases_eq (bit_number pair) (kept * 256 + state)) [
        | inl same ↦ inl (differ pair marked.state marked.kept same)
        | inr apart ↦ inr (record { state = marked.state; kept = marked.kept; bit = sym (bit-other marks (kept * 256 + state) within (bit_number pair) apart) ∙ marked.bit })
      ]

-- no pair is marked where each word is 0

pub unmarked-word : (marks : List ℕ) (pair : Pair) → get_or marks (bit_number pair / 64) 0 ≡ 0 → IsMarked marks pair → ⊥
unmarked-word marks pair none marked =
    let zero_bit = ap (λ (word : ℕ). bit_at word (bit_number pair % 64)) none ∙ bit_at-zero (bit_number pair % 64) in
    let one = marked.bit in
    omega arith

pub unmarked : (n : ℕ) (pair : Pair) → IsMarked (replicate n 0) pair → ⊥
unmarked n pair marked = unmarked-word (replicate n 0) pair (replicate-reads n (bit_number pair / 64) 0) marked

-- a queue that is the same, or has one state more

grown-keeps : (queue longer : List ℕ) (state other : ℕ) → (longer ≡ queue) ⊎ (longer ≡ queue ++ state ∷ []) → Contains queue other → Contains longer other
grown-keeps queue longer state other (inl same) listed = rw same listed
grown-keeps queue longer state other (inr one) listed = rw one (Contains-append_left queue (state ∷ []) other listed)

grown-only : (queue longer : List ℕ) (state other : ℕ) → (longer ≡ queue) ⊎ (longer ≡ queue ++ state ∷ []) → Contains longer other → Contains queue other ⊎ (state ≡ other)
grown-only queue longer state other (inl same) listed = inl (subst (λ (states : List ℕ). Contains states other) same listed)
grown-only queue longer state other (inr one) listed = Contains-push_cases queue state other (subst (λ (states : List ℕ). Contains states other) one listed)

-- a set's queue, with one pair more marked

below-more : (marks after : List ℕ) (state kept : ℕ) → ((pair : Pair) → IsMarked marks pair → IsMarked after pair) → IsBelow marks state kept → IsBelow after state kept
below-more marks after state kept keeps below = record {
  set = below.set;
  subset = below.subset;
  less = below.less;
  marked = keeps (state, below.set) below.marked;
}

-- a set without one of its lookaheads
pub below-from : (marks : List ℕ) (state kept lookahead : ℕ) → lookahead < 8 → has kept lookahead ≡ true
    → IsMarked marks (state, bit_and kept (bit_not w8 (1 * 2 ^ lookahead % 2 ^ 8))) → IsBelow marks state kept
below-from marks state kept lookahead few there marked =
    let mask = bit_not w8 (1 * 2 ^ lookahead % 2 ^ 8) in
    record {
      set = bit_and kept mask;
      subset = λ other has_it.
          let both = bit_at_and kept mask other in
          let small = bit_at-lt kept other in
          let one = is-one (bit_at (bit_and kept mask) other) has_it in
          eq-eqb (bit_at kept other) 1 (omega arith);
      less =
          let cleared = bit_at_clear_same w8 kept lookahead few in
          let one = is-one (bit_at kept lookahead) there in
          let most = and_le_l kept mask in
          elim (cases_lt (bit_and kept mask) kept) [
            | inl less ↦ less
            | inr past ↦ let same : bit_and kept mask ≡ kept = omega arith in let bits = ap (λ (set : ℕ). bit_at set lookahead) same in omega arith
          ];
      marked = marked;
    }
  where
    is-one : (n : ℕ) → (n == 1) ≡ true → n ≡ 1
    is-one n is = elim (cases_eq n 1) [ inl same ↦ same | inr apart ↦ absurd (false≢true (sym (ne_eqb n 1 apart) ∙ is)) ]

pub queue-here : (marks after queue longer : List ℕ) (state kept : ℕ) → IsQueue marks queue kept → IsMarked after (state, kept)
    → ((pair : Pair) → IsMarked marks pair → IsMarked after pair)
    → ((pair : Pair) → IsMarked after pair → (pair ≡ (state, kept)) ⊎ IsMarked marks pair)
    → Contains longer state → (longer ≡ queue) ⊎ (longer ≡ queue ++ state ∷ []) → IsQueue after longer kept
queue-here marks after queue longer state kept old marked keeps only there grown = record {
  listed = λ other other_marked.
      elim (only (other, kept) other_marked) [
        | inl same ↦ inl (subst (Contains longer) (sym (ap (λ (pair : Pair). pair.0) same)) there)
        | inr earlier ↦ still (old.listed other earlier)
      ];
  marked = λ other listed.
      elim (grown-only queue longer state other grown listed) [
        | inl earlier ↦ keeps (other, kept) (old.marked other earlier)
        | inr same ↦ subst (λ (s : ℕ). IsMarked after (s, kept)) same marked
      ];
}
  where
    still : {other : ℕ} → Contains queue other ⊎ IsBelow marks other kept → Contains longer other ⊎ IsBelow after other kept
    still {other} (inl listed) = inl (grown-keeps queue longer state other grown listed)
    still {other} (inr below) = inr (below-more marks after other kept keeps below)

pub queue-apart : (marks after queue : List ℕ) (state set kept : ℕ) → set ≢ kept → IsQueue marks queue kept
    → ((pair : Pair) → IsMarked marks pair → IsMarked after pair)
    → ((pair : Pair) → IsMarked after pair → (pair ≡ (state, set)) ⊎ IsMarked marks pair) → IsQueue after queue kept
queue-apart marks after queue state set kept apart old keeps only = record {
  listed = λ other other_marked.
      elim (only (other, kept) other_marked) [
        | inl same ↦ absurd (apart (sym (ap (λ (pair : Pair). pair.1) same)))
        | inr earlier ↦ still (old.listed other earlier)
      ];
  marked = λ other listed. keeps (other, kept) (old.marked other listed);
}
  where
    still : {other : ℕ} → Contains queue other ⊎ IsBelow marks other kept → Contains queue other ⊎ IsBelow after other kept
    still {other} (inl listed) = inl listed
    still {other} (inr below) = inr (below-more marks after other kept keeps below)

-- the first states that are to be followed with a set, and no others
pub record AreFirst (marks queue : List ℕ) (kept bound : ℕ) : Type 0 where
  pub listed : (state : ℕ) → state < bound → IsMarked marks (state, kept) → Contains queue state ⊎ IsBelow marks state kept
  pub marked : (state : ℕ) → Contains queue state → IsMarked marks (state, kept)

pub first-push : (marks queue longer : List ℕ) (kept bound : ℕ) → AreFirst marks queue kept bound → IsMarked marks (bound, kept)
    → Contains longer bound → (longer ≡ queue) ⊎ (longer ≡ queue ++ bound ∷ []) → AreFirst marks longer kept (bound + 1)
first-push marks queue longer kept bound first marked there grown = record {
  listed = λ state less here.
      elim (cases_eq bound state) [
        | inl last ↦ inl (subst (Contains longer) last there)
        | inr other ↦ still (first.listed state (omega arith) here)
      ];
  marked = λ state listed.
      elim (grown-only queue longer bound state grown listed) [
        | inl earlier ↦ first.marked state earlier
        | inr same ↦ subst (λ (s : ℕ). IsMarked marks (s, kept)) same marked
      ];
}
  where
    still : {state : ℕ} → Contains queue state ⊎ IsBelow marks state kept → Contains longer state ⊎ IsBelow marks state kept
    still {state} (inl listed) = inl (grown-keeps queue longer bound state grown listed)
    still {state} (inr below) = inr below

pub first-skip : (marks queue : List ℕ) (kept bound : ℕ) → AreFirst marks queue kept bound → (IsMarked marks (bound, kept) → IsBelow marks bound kept)
    → AreFirst marks queue kept (bound + 1)
first-skip marks queue kept bound first below = record {
  listed = λ state less here.
      elim (cases_eq bound state) [
        | inl last ↦
            let at : IsMarked marks (bound, kept) = subst (λ (s : ℕ). IsMarked marks (s, kept)) (sym last) here in
            inr (subst (λ (s : ℕ). IsBelow marks s kept) last (below at))
        | inr other ↦ first.listed state (omega arith) here
      ];
  marked = first.marked;
}
