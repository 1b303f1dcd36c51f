-- Where lines break in some texts, computed.
use Rattle.std.proofs.Common.{◌≡◌, ℕ, List, [], ◌∷◌, refl, ap, ◌∙◌}
use Rattle.seg_text.specs.declared.boundary.Boundary.{Boundary}
use Rattle.seg_text.specs.Boundaries.{boundary, start}
use Rattle.seg_data.specs.Table.{value_of}
use Rattle.seg_machine.specs.Machine.{replaced, symbol_and_script, symbols_of}
use Rattle.seg_machine.specs.Pick.{machine_boundaries}
use Rattle.seg_rules.specs.Patterns.{flags}
use Rattle.seg_rules.specs.Plain.{bases_after, bases_before, first_row, is_base, plain_places, plain_verdict, right_fits}
use Rattle.seg_rules.specs.RowRules.{flow, is_full, no_flags, once}
use Rattle.icu_segmenter_uax14.specs.LineRules.{line_rules}
use Rattle.icu_segmenter_uax14.specs.Lines.{line_machine}
use Rattle.icu_segmenter_uax14.specs.Tailored.{FollowsRules}
use Rattle.icu_segmenter_uax14.proofs.LineTables.{numbered_above, numbered_below, numbered_rules, rules-are}

by-symbols : FollowsRules line_machine → (cs xs : List ℕ) (places : List Boundary) → symbols_of line_machine cs ≡ xs → plain_places numbered_rules 0 [] xs ≡ places
    → machine_boundaries line_machine cs ≡ start ∷ places
by-symbols follows cs xs places are is =
    follows cs ∙ ap (λ all. start ∷ plain_places line_rules 0 [] all) are ∙ ap (λ rules. start ∷ plain_places rules 0 [] xs) rules-are ∙ ap (λ all. start ∷ all) is

-- $3.14
price-symbols : symbols_of line_machine (0x24 ∷ 0x33 ∷ 0x2E ∷ 0x31 ∷ 0x34 ∷ []) ≡ 58 ∷ 51 ∷ 42 ∷ 51 ∷ 51 ∷ []
unfolding symbol_and_script line_machine value_of replaced
price-symbols = refl

price-places : plain_places numbered_rules 0 [] (58 ∷ 51 ∷ 42 ∷ 51 ∷ 51 ∷ []) ≡ boundary 5 1 ∷ []
unfolding flags flow is_full no_flags once right_fits first_row is_base bases_before bases_after plain_verdict plain_places numbered_above numbered_below numbered_rules
price-places = refl

pub price : FollowsRules line_machine → machine_boundaries line_machine (0x24 ∷ 0x33 ∷ 0x2E ∷ 0x31 ∷ 0x34 ∷ []) ≡ start ∷ boundary 5 1 ∷ []
price follows = by-symbols follows (0x24 ∷ 0x33 ∷ 0x2E ∷ 0x31 ∷ 0x34 ∷ []) (58 ∷ 51 ∷ 42 ∷ 51 ∷ 51 ∷ []) (boundary 5 1 ∷ []) price-symbols price-places

-- (12.50)
sum-symbols : symbols_of line_machine (0x28 ∷ 0x31 ∷ 0x32 ∷ 0x2E ∷ 0x35 ∷ 0x30 ∷ 0x29 ∷ []) ≡ 52 ∷ 51 ∷ 51 ∷ 42 ∷ 51 ∷ 51 ∷ 18 ∷ []
unfolding symbol_and_script line_machine value_of replaced
sum-symbols = refl

sum-places : plain_places numbered_rules 0 [] (52 ∷ 51 ∷ 51 ∷ 42 ∷ 51 ∷ 51 ∷ 18 ∷ []) ≡ boundary 7 1 ∷ []
unfolding flags flow is_full no_flags once right_fits first_row is_base bases_before bases_after plain_verdict plain_places numbered_above numbered_below numbered_rules
sum-places = refl

pub sum : FollowsRules line_machine → machine_boundaries line_machine (0x28 ∷ 0x31 ∷ 0x32 ∷ 0x2E ∷ 0x35 ∷ 0x30 ∷ 0x29 ∷ []) ≡ start ∷ boundary 7 1 ∷ []
sum follows =
    by-symbols follows (0x28 ∷ 0x31 ∷ 0x32 ∷ 0x2E ∷ 0x35 ∷ 0x30 ∷ 0x29 ∷ []) (52 ∷ 51 ∷ 51 ∷ 42 ∷ 51 ∷ 51 ∷ 18 ∷ []) (boundary 7 1 ∷ []) sum-symbols sum-places

-- hey, you!
greeting-symbols : symbols_of line_machine (0x68 ∷ 0x65 ∷ 0x79 ∷ 0x2C ∷ 0x20 ∷ 0x79 ∷ 0x6F ∷ 0x75 ∷ 0x21 ∷ []) ≡ 1 ∷ 1 ∷ 1 ∷ 42 ∷ 66 ∷ 1 ∷ 1 ∷ 1 ∷ 23 ∷ []
unfolding symbol_and_script line_machine value_of replaced
greeting-symbols = refl

greeting-places : plain_places numbered_rules 0 [] (1 ∷ 1 ∷ 1 ∷ 42 ∷ 66 ∷ 1 ∷ 1 ∷ 1 ∷ 23 ∷ []) ≡ boundary 5 0 ∷ boundary 9 1 ∷ []
unfolding flags flow is_full no_flags once right_fits first_row is_base bases_before bases_after plain_verdict plain_places numbered_above numbered_below numbered_rules
greeting-places = refl

pub greeting : FollowsRules line_machine → machine_boundaries line_machine (0x68 ∷ 0x65 ∷ 0x79 ∷ 0x2C ∷ 0x20 ∷ 0x79 ∷ 0x6F ∷ 0x75 ∷ 0x21 ∷ []) ≡ start ∷ boundary 5 0 ∷ boundary 9 1 ∷ []
greeting follows =
    by-symbols follows (0x68 ∷ 0x65 ∷ 0x79 ∷ 0x2C ∷ 0x20 ∷ 0x79 ∷ 0x6F ∷ 0x75 ∷ 0x21 ∷ []) (1 ∷ 1 ∷ 1 ∷ 42 ∷ 66 ∷ 1 ∷ 1 ∷ 1 ∷ 23 ∷ [])
    (boundary 5 0 ∷ boundary 9 1 ∷ []) greeting-symbols greeting-places
