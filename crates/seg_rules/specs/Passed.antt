-- What the check asks of rules over the symbols from 1 up to n, a certificate and a machine.
use Rattle.std.specs.Prelude.{◌≡◌, ℕ, suc, ◌<◌, ◌≤◌, true, List, [], ◌∷◌, length, All}
use Rattle.seg_text.specs.Boundaries.{start}
use Rattle.seg_machine.specs.Machine.{Machine, symbol_count, symbols_of}
use Rattle.seg_machine.specs.Pick.{machine_boundaries}
use Rattle.seg_rules.specs.declared.certificate.Certificate.{Certificate}
use Rattle.seg_rules.specs.RowRules.{RowRules}
use Rattle.seg_rules.specs.Check.{get}
use Rattle.seg_rules.specs.Given.{tables_of}
use Rattle.seg_rules.specs.Certified.{TablesHold}
use Rattle.seg_rules.specs.Places.{stands_for}
use Rattle.seg_rules.specs.Plain.{plain_places}
use Rattle.seg_rules.specs.Planned.{Begins, ConfigurationHolds, accept_by, begins_in, plan_of, relation_of}

-- for every list of code points, the machine's boundaries are, with their statuses, the places where the rules break
abbrev pub FindsPlaces : RowRules → Machine → Type 0
FindsPlaces rules m = (cs : List ℕ) → machine_boundaries m cs ≡ start ∷ plain_places rules 0 [] (symbols_of m cs)

-- the check as code, passed
pub record IsPassed (rules : RowRules) (n : ℕ) (certificate : Certificate) (m : Machine) : Type 0 where
  pub some : 2 ≤ length m.states
  pub count : symbol_count m ≡ suc n
  pub fit : All (λ state. stands_for state (accept_by state) ≡ true) m.states
  pub tables : TablesHold rules n certificate
  pub start : begins_in (relation_of certificate) 0 1 ≡ true
  pub begins : (i : ℕ) → i < length certificate.befores.now → Begins certificate i
  pub groups : (q : ℕ) → q < length certificate.relation.now
      → All (ConfigurationHolds rules n (tables_of rules n certificate) (plan_of m n) (relation_of certificate) q) (get [] (relation_of certificate) q)
