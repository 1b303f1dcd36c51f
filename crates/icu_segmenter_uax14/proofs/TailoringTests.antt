-- Tailorings that name no end of the text, and replace no symbol twice, have no fault.
use Rattle.std.proofs.Common.{◌≡◌, ℕ, ◌⊎◌, Bool, true, not, ◌&&◌, ◌==◌, nat_lt, List, [], ◌∷◌, map, refl, ◌∙◌, arith, inl, inr, eq-eqb}
use Rattle.std.specs.List.{Any}
use Rattle.std.specs.Prelude.{Result, Ok, Err, IfErr}
use Rattle.std.specs.Result.{IsErrAnd}
use Rattle.std.proofs.lemmas.Bool.{and_parts, ltb-true}
use Rattle.seg_data.specs.declared.provider.ComplexScript.{ComplexScript}
use Rattle.seg_data.specs.declared.provider.DataError.{DataError}
use Rattle.seg_data.specs.declared.provider.DataError.TheVariants.{Memory, RangeOrder, RangePast10FFFF, TableSize, ClassOutOfRange, StateOutOfRange, StartRowKeeps, ComplexItems, ComplexBelow0100, ComplexClassNamed, StateCount, TransitionSize, TransitionOutOfRange, SymbolOutOfRange, TooManyLookaheads, LookaheadOutOfRange, EndCycle, Stalls, MissingTailoring}
use Rattle.seg_machine.specs.Machine.{Replacement, tailoring}
use Rattle.seg_machine.specs.MachineFaults.{HasOverrideFault, HasTwice, NamesEnd}
use Rattle.icu_segmenter_uax29.proofs.Lists.{every, any-passes, passes}
use Rattle.icu_segmenter_uax29.proofs.Tests.{clash, not-true}

abbrev is_entry : ℕ × ComplexScript → Bool
is_entry entry = nat_lt 0 entry.0

abbrev is_replacement : Replacement → Bool
is_replacement entry = nat_lt 0 entry.0 && nat_lt 0 entry.1

abbrev other : ℕ → ℕ → Bool
other number n = not (n == number)

-- no number stands twice
abbrev once : List ℕ → Bool
once [] = true
once (number ∷ numbers) = every (other number) numbers && once numbers

-- what is computed of a tailoring
abbrev pub is_sound : List (ℕ × ComplexScript) → List Replacement → Bool
is_sound entries replaced = every is_entry entries && (every is_replacement replaced && once (map (λ entry. entry.0) replaced))

none-twice : (numbers : List ℕ) → once numbers ≡ true → HasTwice numbers → ⊥
none-twice [] is twice = twice
none-twice (number ∷ numbers) is (inl again) =
    clash (eq-eqb number number refl) (not-true (number == number) (passes (other number) numbers number (and_parts (every (other number) numbers) _ is).0 again))
none-twice (number ∷ numbers) is (inr later) = none-twice numbers (and_parts (every (other number) numbers) _ is).1 later

names-no-end : (entry : Replacement) → is_replacement entry ≡ true → NamesEnd entry → ⊥
names-no-end entry is (inl from) = let some = ltb-true 0 entry.0 (and_parts (nat_lt 0 entry.0) _ is).0 in omega (arith, from, some)
names-no-end entry is (inr to) = let some = ltb-true 0 entry.1 (and_parts (nat_lt 0 entry.0) _ is).1 in omega (arith, to, some)

module _ (entries : List (ℕ × ComplexScript)) (replaced : List Replacement) (is : is_sound entries replaced ≡ true) where
  no-stray : (Any (λ (entry : ℕ × ComplexScript). entry.0 ≡ 0) entries ⊎ Any NamesEnd replaced) ⊎ HasTwice (map (λ entry. entry.0) replaced) → ⊥
  no-stray (inl (inl any)) =
      let (entry, passes, none) = any-passes is_entry entries (and_parts (every is_entry entries) _ is).0 any in
      let some = ltb-true 0 entry.0 passes in omega (arith, none, some)
  no-stray (inl (inr any)) =
      let rest = and_parts (every is_replacement replaced) _ (and_parts (every is_entry entries) _ is).1 in
      let (entry, passes, names) = any-passes is_replacement replaced rest.0 any in names-no-end entry passes names
  no-stray (inr twice) =
      let rest = and_parts (every is_replacement replaced) _ (and_parts (every is_entry entries) _ is).1 in none-twice (map (λ entry. entry.0) replaced) rest.1 twice

  no-fault : (fault : DataError) → HasOverrideFault (tailoring entries replaced) fault → ⊥
  no-fault SymbolOutOfRange stray = no-stray stray
  no-fault Memory h = h
  no-fault RangeOrder h = h
  no-fault RangePast10FFFF h = h
  no-fault TableSize h = h
  no-fault ClassOutOfRange h = h
  no-fault StateOutOfRange h = h
  no-fault StartRowKeeps h = h
  no-fault ComplexItems h = h
  no-fault ComplexBelow0100 h = h
  no-fault ComplexClassNamed h = h
  no-fault StateCount h = h
  no-fault TransitionSize h = h
  no-fault TransitionOutOfRange h = h
  no-fault TooManyLookaheads h = h
  no-fault LookaheadOutOfRange h = h
  no-fault EndCycle h = h
  no-fault Stalls h = h
  no-fault MissingTailoring h = h

  -- Law: so nothing but memory can be missing
  pub memory-alone : (fault : DataError) → (fault ≡ Memory) ⊎ HasOverrideFault (tailoring entries replaced) fault → fault ≡ Memory
  memory-alone fault (inl memory) = memory
  memory-alone fault (inr other) = absurd (no-fault fault other)

-- what is passed up is the same
pub passed-up : {T : Type 0} (made : Result T DataError) (fault : DataError) → IsErrAnd made (λ error. error ≡ fault) → fault ≡ Memory → IfErr made (λ error. error ≡ Memory)
passed-up (Ok x) fault is memory = tt
passed-up (Err error) fault is memory = is ∙ memory
