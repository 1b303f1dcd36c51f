-- `==` of tailorings and machines: each part is the same.
use Rattle.std.specs.Prelude.{◌≡◌, ℕ, ◌==◌, ◌&&◌, Bool, true, false, Option, List, refl}
use Rattle.std.specs.Option.{option_eq}
use Rattle.std.specs.Bool.{Decides}
use Rattle.std.specs.Cmp.{IsPartialEquivalence}
use Rattle.std.specs.Cmp.Lexicographic.{pointwise, pointwise_decides}
use Rattle.std.proofs.Common.{Some, None, ap, ◌∙◌, arith}
use Rattle.std.proofs.lemmas.Bool.{false≢true}
use Rattle.std.proofs.lemmas.Bool.Decides.{Decides-eqb, Decides-and, Decides-like}
use Rattle.seg_data.specs.declared.provider.ComplexScript.{ComplexScript}
use Rattle.seg_data.specs.declared.provider.ComplexScript.TheVariants.{None as NoScript, Myanmar, ChineseOrJapanese, Khmer, Lao, Thai}
use Rattle.seg_data.specs.Lemmas.Same.{same_table, same_table-decides, laws-from}
use Rattle.seg_machine.specs.declared.provider.Acceptance.{Acceptance}
use Rattle.seg_machine.specs.declared.provider.Acceptance.TheVariants.{Continue, Accept, Conditional}
use Rattle.seg_data.specs.Table.{Table}
use Rattle.seg_machine.specs.Machine.{Machine, MachineTailoring, Replacement, machine, tailoring}

-- what states accept
abbrev pub same_acceptance : Acceptance → Acceptance → Bool
same_acceptance Continue Continue = true
same_acceptance (Accept a) (Accept b) = a == b
same_acceptance (Conditional a s) (Conditional b t) = a == b && s == t
same_acceptance _ _ = false

-- states
abbrev pub same_state : Acceptance × Option ℕ → Acceptance × Option ℕ → Bool
same_state a b = same_acceptance a.0 b.0 && option_eq ◌==◌ a.1 b.1

-- a script's number
abbrev pub script_number : ComplexScript → ℕ
script_number NoScript = 0
script_number Myanmar = 1
script_number ChineseOrJapanese = 2
script_number Khmer = 3
script_number Lao = 4
script_number Thai = 5

-- entries of the map
abbrev pub same_entry : ℕ × ComplexScript → ℕ × ComplexScript → Bool
same_entry a b = a.0 == b.0 && script_number a.1 == script_number b.1

-- maps
abbrev pub same_map : List (ℕ × ComplexScript) → List (ℕ × ComplexScript) → Bool
same_map a b = pointwise same_entry a b

-- entries that replace symbols
abbrev pub same_replacement : Replacement → Replacement → Bool
same_replacement a b = (a.0 == b.0 && a.1 == b.1) && script_number a.2 == script_number b.2

-- tailorings
abbrev pub same_tailoring : MachineTailoring → MachineTailoring → Bool
same_tailoring a b = same_map a.pseudo_symbol_map b.pseudo_symbol_map && pointwise same_replacement a.symbol_map b.symbol_map

-- machines
abbrev pub same_machine : Machine → Machine → Bool
same_machine a b =
    pointwise same_replacement a.symbol_map b.symbol_map
    && (((((same_table a.symbols b.symbols
    && pointwise same_state a.states b.states)
    && pointwise ◌==◌ a.transitions b.transitions)
    && a.num_lookaheads == b.num_lookaheads)
    && a.pseudo_symbol_shift == b.pseudo_symbol_shift)
    && same_map a.pseudo_symbol_map b.pseudo_symbol_map)

-- each says whether the two are equal

same_acceptance-decides : (a b : Acceptance) → Decides (same_acceptance a b) (a ≡ b)
same_acceptance-decides Continue Continue = (λ _. refl, λ _. refl)
same_acceptance-decides (Accept a) (Accept b) = Decides-like (a == b) (λ e. ap Accept e) (λ e. cc) (Decides-eqb a b)
same_acceptance-decides (Conditional a s) (Conditional b t) =
    Decides-like (a == b && s == t) (λ parts. ap (λ x. Conditional x s) parts.0 ∙ ap (λ x. Conditional b x) parts.1) (λ e. (cc, cc)) (Decides-and _ _ (Decides-eqb a b) (Decides-eqb s t))
same_acceptance-decides Continue b = (λ e. absurd (false≢true e), λ e. cc)
same_acceptance-decides (Accept a) b = (λ e. absurd (false≢true e), λ e. cc)
same_acceptance-decides (Conditional a s) b = (λ e. absurd (false≢true e), λ e. cc)

option_eq-decides : (a b : Option ℕ) → Decides (option_eq ◌==◌ a b) (a ≡ b)
option_eq-decides None None = (λ _. refl, λ _. refl)
option_eq-decides (Some a) (Some b) = Decides-like (a == b) (λ e. ap Some e) (λ e. cc) (Decides-eqb a b)
option_eq-decides None (Some b) = (λ e. absurd (false≢true e), λ e. cc)
option_eq-decides (Some a) None = (λ e. absurd (false≢true e), λ e. cc)

same_state-decides : (a b : Acceptance × Option ℕ) → Decides (same_state a b) (a ≡ b)
same_state-decides a b =
    Decides-like (same_state a b) (λ parts. ap (λ x. (x, a.1)) parts.0 ∙ ap (λ x. (b.0, x)) parts.1) (λ e. (ap (λ (s : Acceptance × Option ℕ). s.0) e, ap (λ (s : Acceptance × Option ℕ). s.1) e))
    (Decides-and _ _ (same_acceptance-decides a.0 b.0) (option_eq-decides a.1 b.1))

script-decides : (a b : ComplexScript) → Decides (script_number a == script_number b) (a ≡ b)
script-decides a b = Decides-like (script_number a == script_number b) (from a b) (λ e. ap script_number e) (Decides-eqb (script_number a) (script_number b))
  where
    from : (a b : ComplexScript) → script_number a ≡ script_number b → a ≡ b
    from NoScript NoScript e = refl
    from Myanmar Myanmar e = refl
    from ChineseOrJapanese ChineseOrJapanese e = refl
    from Khmer Khmer e = refl
    from Lao Lao e = refl
    from Thai Thai e = refl
    from NoScript b e = absurd (omega arith)
    from Myanmar b e = absurd (omega arith)
    from ChineseOrJapanese b e = absurd (omega arith)
    from Khmer b e = absurd (omega arith)
    from Lao b e = absurd (omega arith)
    from Thai b e = absurd (omega arith)

same_entry-decides : (a b : ℕ × ComplexScript) → Decides (same_entry a b) (a ≡ b)
same_entry-decides a b =
    Decides-like (same_entry a b) (λ parts. ap (λ x. (x, a.1)) parts.0 ∙ ap (λ x. (b.0, x)) parts.1) (λ e. (ap (λ (s : ℕ × ComplexScript). s.0) e, ap (λ (s : ℕ × ComplexScript). s.1) e))
    (Decides-and _ _ (Decides-eqb a.0 b.0) (script-decides a.1 b.1))

pub same_map-decides : (a b : List (ℕ × ComplexScript)) → Decides (same_map a b) (a ≡ b)
same_map-decides a b = pointwise_decides same_entry-decides a b

same_replacement-decides : (a b : Replacement) → Decides (same_replacement a b) (a ≡ b)
same_replacement-decides a b =
    Decides-like (same_replacement a b) (λ parts. ap (λ x. (x, a.1, a.2)) parts.0.0 ∙ ap (λ x. (b.0, x, a.2)) parts.0.1 ∙ ap (λ x. (b.0, b.1, x)) parts.1)
    (λ e. ((ap (λ (s : Replacement). s.0) e, ap (λ (s : Replacement). s.1) e), ap (λ (s : Replacement). s.2) e))
    (Decides-and _ _ (Decides-and _ _ (Decides-eqb a.0 b.0) (Decides-eqb a.1 b.1)) (script-decides a.2 b.2))

pub same_tailoring-decides : (a b : MachineTailoring) → Decides (same_tailoring a b) (a ≡ b)
same_tailoring-decides a b =
    Decides-like (same_tailoring a b) (λ parts. ap (λ x. tailoring x a.symbol_map) parts.0 ∙ ap (λ x. tailoring b.pseudo_symbol_map x) parts.1)
    (λ e. (ap (λ (t : MachineTailoring). t.pseudo_symbol_map) e, ap (λ (t : MachineTailoring). t.symbol_map) e))
    (Decides-and _ _ (same_map-decides a.pseudo_symbol_map b.pseudo_symbol_map) (pointwise_decides same_replacement-decides a.symbol_map b.symbol_map))

-- the machine of these parts, with replacements
abbrev machine_with : Table → List (Acceptance × Option ℕ) → List ℕ → ℕ → ℕ → List (ℕ × ComplexScript) → List Replacement → Machine
machine_with symbols states transitions num_lookaheads shift map replacements =
    record (machine symbols states transitions num_lookaheads shift map) { symbol_map = replacements }

machine-parts : (a b : Machine) → a.symbol_map ≡ b.symbol_map
    → ((((a.symbols ≡ b.symbols) × (a.states ≡ b.states)) × (a.transitions ≡ b.transitions)) × (a.num_lookaheads ≡ b.num_lookaheads)) × (a.pseudo_symbol_shift ≡ b.pseudo_symbol_shift)
    → a.pseudo_symbol_map ≡ b.pseudo_symbol_map → a ≡ b
machine-parts a b replacements parts map =
    ap (λ x. machine_with x a.states a.transitions a.num_lookaheads a.pseudo_symbol_shift a.pseudo_symbol_map a.symbol_map) parts.0.0.0.0
    ∙ ap (λ x. machine_with b.symbols x a.transitions a.num_lookaheads a.pseudo_symbol_shift a.pseudo_symbol_map a.symbol_map) parts.0.0.0.1
    ∙ ap (λ x. machine_with b.symbols b.states x a.num_lookaheads a.pseudo_symbol_shift a.pseudo_symbol_map a.symbol_map) parts.0.0.1
    ∙ ap (λ x. machine_with b.symbols b.states b.transitions x a.pseudo_symbol_shift a.pseudo_symbol_map a.symbol_map) parts.0.1
    ∙ ap (λ x. machine_with b.symbols b.states b.transitions b.num_lookaheads x a.pseudo_symbol_map a.symbol_map) parts.1
    ∙ ap (λ x. machine_with b.symbols b.states b.transitions b.num_lookaheads b.pseudo_symbol_shift x a.symbol_map) map
    ∙ ap (λ x. machine_with b.symbols b.states b.transitions b.num_lookaheads b.pseudo_symbol_shift b.pseudo_symbol_map x) replacements

pub same_machine-decides : (a b : Machine) → Decides (same_machine a b) (a ≡ b)
same_machine-decides a b =
    Decides-like (same_machine a b) (λ parts. machine-parts a b parts.0 parts.1.0 parts.1.1)
    (λ e. (ap (λ (m : Machine). m.symbol_map) e, (((((ap (λ (m : Machine). m.symbols) e, ap (λ (m : Machine). m.states) e), ap (λ (m : Machine). m.transitions) e), ap (λ (m : Machine). m.num_lookaheads) e), ap (λ (m : Machine). m.pseudo_symbol_shift) e), ap (λ (m : Machine). m.pseudo_symbol_map) e)))
    (Decides-and _ _ (pointwise_decides same_replacement-decides a.symbol_map b.symbol_map)
    (Decides-and _ _ (Decides-and _ _ (Decides-and _ _ (Decides-and _ _ (Decides-and _ _
    (same_table-decides a.symbols b.symbols)
    (pointwise_decides same_state-decides a.states b.states))
    (pointwise_decides Decides-eqb a.transitions b.transitions))
    (Decides-eqb a.num_lookaheads b.num_lookaheads))
    (Decides-eqb a.pseudo_symbol_shift b.pseudo_symbol_shift))
    (same_map-decides a.pseudo_symbol_map b.pseudo_symbol_map)))

pub same_tailoring-laws : IsPartialEquivalence same_tailoring
same_tailoring-laws = laws-from same_tailoring same_tailoring-decides

pub same_machine-laws : IsPartialEquivalence same_machine
same_machine-laws = laws-from same_machine same_machine-decides
