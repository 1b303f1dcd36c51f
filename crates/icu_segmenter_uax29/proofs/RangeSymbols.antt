-- The symbol of a code point is the value of its range.
use Rattle.std.proofs.Common.{◌≡◌, ℕ, ◌<◌, Bool, cond, nat_lt, List, [], ◌∷◌, find, Option, Some, refl, sym, ap, ◌∙◌, lt-ltb}
use Rattle.std.specs.Option.{option_map_or}
use Rattle.std.proofs.lemmas.Bool.{cond_both, cond-true, cond-false}
use Rattle.ucd_table.specs.Rows.{value_in}
use Rattle.seg_data.specs.declared.provider.ComplexScript.{ComplexScript}
use Rattle.seg_data.specs.declared.provider.ComplexScript.TheVariants.{None as NoScript}
use Rattle.seg_data.specs.Table.{holds, table, value_of}
use Rattle.seg_machine.specs.declared.provider.Acceptance.{Acceptance}
use Rattle.seg_machine.specs.Machine.{Machine, machine, replaced, symbol_and_script}

-- a state: what it accepts, and the lookahead that it names
abbrev pub Entry : Type 0
Entry = Acceptance × Option ℕ

abbrev pub symbol_in : Machine → ℕ → ℕ
symbol_in m c = (symbol_and_script m c).0

pub find-value_in : (ranges : List (ℕ × ℕ × ℕ)) (default c : ℕ) → option_map_or (λ range. range.2) (find (holds c) ranges) default ≡ value_in default ranges c
unfolding value_in
find-value_in [] default c = refl
find-value_in (range ∷ ranges) default c =
    cond_both (holds c range) (Some range) (find (holds c) ranges)
    (λ found. option_map_or (λ range. range.2) found default ≡ cond (holds c range) range.2 (value_in default ranges c))
    (λ here. sym (cond-true _ _ _ here))
    (λ other. find-value_in ranges default c ∙ sym (cond-false _ _ _ other))

abbrev symbol_from : ℕ → Bool → ℕ
symbol_from v below = (cond {A = ℕ × ComplexScript} below (v, NoScript) (0, NoScript)).0

pub range-symbol : (ranges : List (ℕ × ℕ × ℕ)) (states : List Entry) (transitions : List ℕ) (c : ℕ) → value_in 1 ranges c < 255
    → symbol_in (machine (table ranges 1) states transitions 0 255 []) c ≡ value_in 1 ranges c
unfolding symbol_and_script value_of replaced
range-symbol ranges states transitions c small =
    ap (λ v. symbol_from v (nat_lt v 255)) (find-value_in ranges 1 c)
    ∙ ap (symbol_from (value_in 1 ranges c)) (lt-ltb (value_in 1 ranges c) 255 small)
