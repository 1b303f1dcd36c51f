-- `==` of pair tables: each part is the same.
use Rattle.std.specs.Prelude.{◌≡◌, ◌==◌, ◌&&◌, Bool, true, false, refl}
use Rattle.std.specs.Bool.{Decides}
use Rattle.std.specs.Cmp.{IsPartialEquivalence}
use Rattle.std.specs.Cmp.Lexicographic.{pointwise, pointwise_decides}
use Rattle.std.proofs.Common.{ap, ◌∙◌}
use Rattle.std.proofs.lemmas.Bool.{false≢true}
use Rattle.std.proofs.lemmas.Bool.Decides.{Decides-eqb, Decides-and, Decides-like}
use Rattle.seg_data.specs.Lemmas.Same.{same_table, same_table-decides, laws-from}
use Rattle.seg_pairs.specs.declared.provider.pairs.BreakState.{BreakState}
use Rattle.seg_pairs.specs.declared.provider.pairs.BreakState.TheVariants.{Break, Keep, NoMatch, Intermediate, Index}
use Rattle.seg_pairs.specs.PairTable.{PairTable, pair_table}

-- entries
abbrev pub same_break_state : BreakState → BreakState → Bool
same_break_state Break Break = true
same_break_state Keep Keep = true
same_break_state NoMatch NoMatch = true
same_break_state (Intermediate a) (Intermediate b) = a == b
same_break_state (Index a) (Index b) = a == b
same_break_state _ _ = false

-- pair tables
abbrev pub same_pair_table : PairTable → PairTable → Bool
same_pair_table a b =
    ((((((same_table a.property_table b.property_table
    && pointwise same_break_state a.break_state_table b.break_state_table)
    && pointwise ◌==◌ a.rule_status_table b.rule_status_table)
    && a.property_count == b.property_count)
    && a.last_codepoint_property == b.last_codepoint_property)
    && a.sot_property == b.sot_property)
    && a.eot_property == b.eot_property)
    && a.complex_property == b.complex_property

-- each says whether the two are equal

same_break_state-decides : (a b : BreakState) → Decides (same_break_state a b) (a ≡ b)
same_break_state-decides Break Break = (λ _. refl, λ _. refl)
same_break_state-decides Keep Keep = (λ _. refl, λ _. refl)
same_break_state-decides NoMatch NoMatch = (λ _. refl, λ _. refl)
same_break_state-decides (Intermediate a) (Intermediate b) = Decides-like (a == b) (λ e. ap Intermediate e) (λ e. cc) (Decides-eqb a b)
same_break_state-decides (Index a) (Index b) = Decides-like (a == b) (λ e. ap Index e) (λ e. cc) (Decides-eqb a b)
same_break_state-decides Break b = (λ e. absurd (false≢true e), λ e. cc)
same_break_state-decides Keep b = (λ e. absurd (false≢true e), λ e. cc)
same_break_state-decides NoMatch b = (λ e. absurd (false≢true e), λ e. cc)
same_break_state-decides (Intermediate a) b = (λ e. absurd (false≢true e), λ e. cc)
same_break_state-decides (Index a) b = (λ e. absurd (false≢true e), λ e. cc)

pair_table-parts : (a b : PairTable)
    → ((((((a.property_table ≡ b.property_table) × (a.break_state_table ≡ b.break_state_table)) × (a.rule_status_table ≡ b.rule_status_table)) × (a.property_count ≡ b.property_count)) × (a.last_codepoint_property ≡ b.last_codepoint_property)) × (a.sot_property ≡ b.sot_property)) × (a.eot_property ≡ b.eot_property)
    → a.complex_property ≡ b.complex_property → a ≡ b
pair_table-parts a b parts complex =
    ap (λ x. pair_table x a.break_state_table a.rule_status_table a.property_count a.last_codepoint_property a.sot_property a.eot_property a.complex_property) parts.0.0.0.0.0.0
    ∙ ap (λ x. pair_table b.property_table x a.rule_status_table a.property_count a.last_codepoint_property a.sot_property a.eot_property a.complex_property) parts.0.0.0.0.0.1
    ∙ ap (λ x. pair_table b.property_table b.break_state_table x a.property_count a.last_codepoint_property a.sot_property a.eot_property a.complex_property) parts.0.0.0.0.1
    ∙ ap (λ x. pair_table b.property_table b.break_state_table b.rule_status_table x a.last_codepoint_property a.sot_property a.eot_property a.complex_property) parts.0.0.0.1
    ∙ ap (λ x. pair_table b.property_table b.break_state_table b.rule_status_table b.property_count x a.sot_property a.eot_property a.complex_property) parts.0.0.1
    ∙ ap (λ x. pair_table b.property_table b.break_state_table b.rule_status_table b.property_count b.last_codepoint_property x a.eot_property a.complex_property) parts.0.1
    ∙ ap (λ x. pair_table b.property_table b.break_state_table b.rule_status_table b.property_count b.last_codepoint_property b.sot_property x a.complex_property) parts.1
    ∙ ap (λ x. pair_table b.property_table b.break_state_table b.rule_status_table b.property_count b.last_codepoint_property b.sot_property b.eot_property x) complex

pub same_pair_table-decides : (a b : PairTable) → Decides (same_pair_table a b) (a ≡ b)
same_pair_table-decides a b =
    Decides-like (same_pair_table a b) (λ parts. pair_table-parts a b parts.0 parts.1)
    (λ e. (((((((ap (λ (t : PairTable). t.property_table) e, ap (λ (t : PairTable). t.break_state_table) e), ap (λ (t : PairTable). t.rule_status_table) e), ap (λ (t : PairTable). t.property_count) e), ap (λ (t : PairTable). t.last_codepoint_property) e), ap (λ (t : PairTable). t.sot_property) e), ap (λ (t : PairTable). t.eot_property) e), ap (λ (t : PairTable). t.complex_property) e))
    (Decides-and _ _ (Decides-and _ _ (Decides-and _ _ (Decides-and _ _ (Decides-and _ _ (Decides-and _ _ (Decides-and _ _
    (same_table-decides a.property_table b.property_table)
    (pointwise_decides same_break_state-decides a.break_state_table b.break_state_table))
    (pointwise_decides Decides-eqb a.rule_status_table b.rule_status_table))
    (Decides-eqb a.property_count b.property_count))
    (Decides-eqb a.last_codepoint_property b.last_codepoint_property))
    (Decides-eqb a.sot_property b.sot_property))
    (Decides-eqb a.eot_property b.eot_property))
    (Decides-eqb a.complex_property b.complex_property))

pub same_pair_table-laws : IsPartialEquivalence same_pair_table
same_pair_table-laws = laws-from same_pair_table same_pair_table-decides
