-- Machines whose boundaries are the places of rules.
use Rattle.std.specs.Prelude.{◌≡◌, ℕ, List, [], ◌∷◌}
use Rattle.seg_text.specs.Boundaries.{start}
use Rattle.seg_machine.specs.Machine.{Machine, symbols_of}
use Rattle.seg_machine.specs.Pick.{machine_boundaries}
use Rattle.seg_rules.specs.Plain.{plain_places}
use Rattle.seg_rules.specs.RowRules.{RowRules}

-- for every list of code points the machine's boundaries are, with their statuses, the places where the rules break
abbrev pub FollowsRules : RowRules → Machine → Type 0
FollowsRules rules m = (cs : List ℕ) → machine_boundaries m cs ≡ start ∷ plain_places rules 0 [] (symbols_of m cs)
