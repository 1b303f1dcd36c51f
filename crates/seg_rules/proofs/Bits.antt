-- The bits of flags.
use Rattle.std.specs.Prelude.{◌≡◌, ℕ, suc, ◌+◌, ◌*◌, ◌/◌, ◌%◌, ◌<◌, ◌≤◌, ◌^◌, ◌==◌, ◌&&◌, ◌||◌, not, zero, Bool, true, false, [], ◌∷◌, length}
use Rattle.std.proofs.Common.{arith, refl, sym, ap, ◌∙◌, inl, inr, eq-eqb}
use Rattle.std.proofs.lemmas.Bool.{eqb-false}
use mir.Val.{bool_byte}
use Rattle.seg_rules.specs.declared.rules.Count.TheVariants.{One, Optional, Star, Pairs}
use Rattle.seg_rules.specs.RowRules.{Pattern, has, flow, is_full, is_live, no_flags, once}
use Rattle.seg_rules.proofs.Soundness.{bool-cases, neq-eqb}
use Rattle.seg_rules.specs.Given.{is_odd, flags_by, width}

pub bit_fits : (b : Bool) (bits width : ℕ) → bits < 2 ^ width → bool_byte b + 2 * bits < 2 ^ suc width
bit_fits true bits width less = omega (arith, less)
bit_fits false bits width less = omega (arith, less)

pub once_is : {X : Type 0} (b : Bool) (f : Bool → X) → once b f ≡ f b
unfolding once
once_is true f = refl
once_is false f = refl

pub odd_of : (b : Bool) (bits : ℕ) → is_odd (bool_byte b + 2 * bits) ≡ b
odd_of true bits = let odd : (1 + 2 * bits) % 2 ≡ 1 = omega arith in eq-eqb _ _ odd
odd_of false bits = let even : (0 + 2 * bits) % 2 ≡ 0 = omega arith in ap (λ n. n == 1) even

pub half_of : (b : Bool) (bits : ℕ) → (bool_byte b + 2 * bits) / 2 ≡ bits
half_of true bits = omega arith
half_of false bits = omega arith

-- the flags of pairs
pub pairs_flags : (here next : Bool) (class : ℕ) (rest : Pattern) (bits : ℕ)
    → flags_by ((class, Pairs) ∷ rest) (bool_byte here + 2 * (bool_byte next + 2 * bits)) ≡ here ∷ (next ∷ flags_by rest bits)
unfolding flags_by
pairs_flags here next class rest bits =
    let h = half_of here (bool_byte next + 2 * bits) in
    let first = odd_of here (bool_byte next + 2 * bits) in
    let second = ap is_odd h ∙ odd_of next bits in
    let third = ap (λ n. n / 2) h ∙ half_of next bits in
    λ i. first i ∷ (second i ∷ flags_by rest (third i))

pub pairs_flow : (begins here next : Bool) (class : ℕ) (rest : Pattern) (live x bits : ℕ)
    → here ≡ (begins || (is_odd (live / 2) && has class x)) → next ≡ (is_odd live && has class x)
    → flags_by rest bits ≡ flow here rest (flags_by rest (live / 2 / 2)) x
    → flags_by ((class, Pairs) ∷ rest) (bool_byte here + 2 * (bool_byte next + 2 * bits)) ≡ flow begins ((class, Pairs) ∷ rest) (flags_by ((class, Pairs) ∷ rest) live) x
unfolding flags_by flow
pairs_flow begins here next class rest live x bits is_here is_next is =
    pairs_flags here next class rest bits
    ∙ (λ i. is_here i ∷ (is_next i ∷ is i))
    ∙ ap (λ h. (begins || (is_odd (live / 2) && has class x)) ∷ ((is_odd live && has class x) ∷ flow h rest (flags_by rest (live / 2 / 2)) x)) is_here
    ∙ sym (once_is (begins || (is_odd (live / 2) && has class x)) _)

-- a pattern of at most 7 items has at most 16 flags
pub narrow : (pattern : Pattern) → width pattern ≤ 2 * length pattern + 1
unfolding width
narrow [] = omega arith
narrow ((class, One) ∷ items) = let less = narrow items in omega (arith, less)
narrow ((class, Optional) ∷ items) = let less = narrow items in omega (arith, less)
narrow ((class, Star) ∷ items) = let less = narrow items in omega (arith, less)
narrow ((class, Pairs) ∷ items) = let less = narrow items in omega (arith, less)

-- a flag before those of a pattern isn't the last
pub full_later : (b : Bool) (pattern : Pattern) (bits : ℕ) → is_full (b ∷ flags_by pattern bits) ≡ is_full (flags_by pattern bits)
unfolding is_full flags_by
full_later b [] bits = refl
full_later b ((class, One) ∷ items) bits = refl
full_later b ((class, Optional) ∷ items) bits = refl
full_later b ((class, Star) ∷ items) bits = refl
full_later b ((class, Pairs) ∷ items) bits = refl

-- the lowest bit, or the others
odd_or : (bits : ℕ) → (is_odd bits || not (bits / 2 == 0)) ≡ not (bits == 0)
odd_or zero = refl
odd_or (suc bits) =
    let some : (suc bits == 0) ≡ false = neq-eqb _ _ (λ e. absurd (omega (arith, e))) in
    elim (bool-cases (is_odd (suc bits))) [
      | inl odd ↦ ap (λ b. b || not (suc bits / 2 == 0)) odd ∙ ap not (sym some)
      | inr even ↦
          let none : (suc bits / 2 == 0) ≡ false =
          neq-eqb _ _ (λ e. eqb-false _ _ even (omega (arith, e))) in
          ap (λ b. b || not (suc bits / 2 == 0)) even ∙ ap not (none ∙ sym some)
    ]

half_less : (bits width : ℕ) → bits < 2 ^ suc width → bits / 2 < 2 ^ width
half_less bits width less = omega (arith, less)

-- some flag is live, just where the number isn't 0
pub live_bits : (pattern : Pattern) (bits : ℕ) → bits < 2 ^ width pattern → is_live (flags_by pattern bits) ≡ not (bits == 0)
unfolding is_live flags_by width
live_bits [] zero less = refl
live_bits [] (suc zero) less = refl
live_bits [] (suc (suc bits)) less = absurd (omega (arith, less))
live_bits ((class, One) ∷ items) bits less = ap (λ b. is_odd bits || b) (live_bits items (bits / 2) (half_less bits (width items) less)) ∙ odd_or bits
live_bits ((class, Optional) ∷ items) bits less = ap (λ b. is_odd bits || b) (live_bits items (bits / 2) (half_less bits (width items) less)) ∙ odd_or bits
live_bits ((class, Star) ∷ items) bits less = ap (λ b. is_odd bits || b) (live_bits items (bits / 2) (half_less bits (width items) less)) ∙ odd_or bits
live_bits ((class, Pairs) ∷ items) bits less =
    ap (λ b. is_odd bits || (is_odd (bits / 2) || b)) (live_bits items (bits / 2 / 2) (half_less (bits / 2) (width items) (half_less bits (suc (width items)) less)))
    ∙ ap (λ b. is_odd bits || b) (odd_or (bits / 2)) ∙ odd_or bits

-- no rest is live by 0
pub none_live : (pattern : Pattern) → flags_by pattern 0 ≡ no_flags pattern
unfolding flags_by no_flags
none_live [] = refl
none_live ((class, One) ∷ items) = ap (λ live. false ∷ live) (none_live items)
none_live ((class, Optional) ∷ items) = ap (λ live. false ∷ live) (none_live items)
none_live ((class, Star) ∷ items) = ap (λ live. false ∷ live) (none_live items)
none_live ((class, Pairs) ∷ items) = ap (λ live. false ∷ (false ∷ live)) (none_live items)
