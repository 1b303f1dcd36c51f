-- Small machines, and texts of so many letters, whose boundaries are known.
use Rattle.std.specs.Prelude.{ℕ, replicate, Option, Some, None, List, [], ◌∷◌}
use Rattle.seg_data.specs.Table.{table}
use Rattle.seg_machine.specs.declared.provider.Acceptance.{Acceptance}
use Rattle.seg_machine.specs.declared.provider.Acceptance.TheVariants.{Continue, Accept, Conditional}
use Rattle.seg_machine.specs.Machine.{Machine, machine}
use Rattle.seg_text.specs.declared.boundary.Boundary.{Boundary}
use Rattle.seg_machine.specs.Pick.{machine_boundaries}

-- each code point has symbol 1; the transitions are those on symbol 0, state by state, and then those on symbol 1
abbrev pub small : List (Acceptance × Option ℕ) → List ℕ → Machine
small states transitions = machine (table [] 1) states transitions 1 5 []

-- the boundaries of so many letters
abbrev pub letter_boundaries : Machine → ℕ → List Boundary
letter_boundaries m n = machine_boundaries m (replicate n 0x61)

-- each letter names lookahead 0, and the end enters a condition on it
abbrev pub condition_at_end : Machine
condition_at_end =
    small ((Continue, None) ∷ (Continue, Some 0) ∷ (Conditional 0 1, None) ∷ [])
    (255 ∷ 2 ∷ 255 ∷ 1 ∷ 1 ∷ 255 ∷ [])

-- each letter enters a condition on the lookahead that it names too, and the end is acceptance_status
abbrev pub condition_on_own_name : Machine
condition_on_own_name =
    small ((Continue, None) ∷ (Conditional 0 1, Some 0) ∷ (Accept 0, None) ∷ [])
    (255 ∷ 2 ∷ 255 ∷ 1 ∷ 1 ∷ 255 ∷ [])

-- the end is acceptance_status after two steps there
abbrev pub accepted_two_past_end : Machine
accepted_two_past_end =
    small ((Continue, None) ∷ (Continue, None) ∷ (Continue, None) ∷ (Accept 0, None) ∷ [])
    (255 ∷ 2 ∷ 3 ∷ 255 ∷ 1 ∷ 1 ∷ 255 ∷ 255 ∷ [])

-- a machine where letters lead from START to itself
abbrev pub accepted_from_start : Machine
accepted_from_start =
    small ((Continue, None) ∷ (Continue, None) ∷ (Accept 0, None) ∷ [])
    (1 ∷ 2 ∷ 255 ∷ 0 ∷ 255 ∷ 255 ∷ [])

-- START itself accepts
abbrev pub start_accepts : Machine
start_accepts = small ((Accept 0, None) ∷ []) (255 ∷ 0 ∷ [])

-- the first step at the end names lookahead 0, and the second enters a condition on it
abbrev pub named_past_end : Machine
named_past_end =
    small ((Continue, None) ∷ (Continue, None) ∷ (Continue, Some 0) ∷ (Conditional 0 1, None) ∷ [])
    (255 ∷ 2 ∷ 3 ∷ 255 ∷ 1 ∷ 1 ∷ 255 ∷ 255 ∷ [])
