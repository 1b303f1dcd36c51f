-- Sets of lookaheads, by their bits.
use Rattle.std.proofs.Common.{◌≡◌, ℕ, ◌*◌, ◌^◌, ◌%◌, ◌<◌, ◌||◌, ◌==◌, max, Bool, false, sym, ap, ◌∙◌, inl, inr, arith, eq-eqb}
use Rattle.std.specs.Int.{bit_at}
use Rattle.std.specs.Int.Bits.{bit_or}
use Rattle.std.proofs.lemmas.Bool.{cases_eq, ne_eqb}
use Rattle.std.proofs.lemmas.Nat.{or_lt, pow_below}
use Rattle.std.proofs.lemmas.Nat.Bits.{bit_at-zero, bit_at-lt, bit_at_or, bit_at-pow_same, bit_at-pow_other}
use Rattle.seg_data.proofs.Options.{or-false, or-true}
use Rattle.seg_machine.specs.Search.{has}

pub has-none : (lookahead : ℕ) → has 0 lookahead ≡ false
has-none lookahead = ne_eqb (bit_at 0 lookahead) 1 (λ one. let none = bit_at-zero lookahead in omega arith)

has-bit : (a b lookahead bit : ℕ) → bit_at b lookahead ≡ bit → bit_at (bit_or a b) lookahead ≡ max (bit_at a lookahead) bit
has-bit a b lookahead bit is = rw (← is) (bit_at_or a b lookahead)

max-zero : (a : ℕ) → max a 0 ≡ a
max-zero a = omega arith

max-one : (a : ℕ) → a < 2 → max a 1 ≡ 1
max-one a small = omega arith

-- the set with a lookahead has it and what it had
pub has-keep : (kept name lookahead : ℕ) → has (bit_or kept (2 ^ name)) lookahead ≡ (has kept lookahead || name == lookahead)
has-keep kept name lookahead =
    elim (cases_eq name lookahead) [
      | inl same ↦
          let bit : bit_at (2 ^ name) lookahead ≡ 1 = ap (bit_at (2 ^ name)) (sym same) ∙ bit_at-pow_same name in
          let one : bit_at (bit_or kept (2 ^ name)) lookahead ≡ 1 = has-bit kept (2 ^ name) lookahead 1 bit ∙ max-one (bit_at kept lookahead) (bit_at-lt kept lookahead) in
          eq-eqb (bit_at (bit_or kept (2 ^ name)) lookahead) 1 one
          ∙ sym (ap (λ (b : Bool). has kept lookahead || b) (eq-eqb name lookahead same) ∙ or-true (has kept lookahead))
      | inr other ↦
          let bit : bit_at (2 ^ name) lookahead ≡ 0 = bit_at-pow_other name lookahead (λ same. other (sym same)) in
          let kept_bit : bit_at (bit_or kept (2 ^ name)) lookahead ≡ bit_at kept lookahead = has-bit kept (2 ^ name) lookahead 0 bit ∙ max-zero (bit_at kept lookahead) in
          ap (λ (b : ℕ). b == 1) kept_bit
          ∙ sym (ap (λ (b : Bool). has kept lookahead || b) (ne_eqb name lookahead other) ∙ or-false (has kept lookahead))
    ]

-- a set of 8 lookaheads has a number below 256
pub keep-below : (kept name : ℕ) → kept < 256 → name < 8 → bit_or kept (2 ^ name) < 256
keep-below kept name small few = or_lt 8 kept (2 ^ name) small (pow_below name 8 few)

-- the bit as the code makes it
pub bit-made : (name : ℕ) → name < 8 → 1 * 2 ^ name % 256 ≡ 2 ^ name
bit-made name few = let small : 2 ^ name < 256 = pow_below name 8 few in omega arith
