-- What the tables of a certificate have to say, of rules over the symbols from 1 up to n.
use Rattle.std.specs.Prelude.{◌≡◌, ℕ, suc, ◌-◌, ◌<◌, true, false, nat_lt, if◌then◌else◌, List, [], length, map, get_or, All}
use Rattle.seg_rules.specs.declared.certificate.Before.{Before as GivenBefore}
use Rattle.seg_rules.specs.declared.certificate.Due.{Due as GivenDue}
use Rattle.seg_rules.specs.declared.certificate.Certificate.{Certificate}
use Rattle.seg_rules.specs.Check.{get, no_before, no_due}
use Rattle.seg_rules.specs.RowRules.{RowRules, Before, Due, DueOf, at_start, due_after, moves_on, owed}
use Rattle.seg_rules.specs.Given.{before_of, due_by}

-- what stands before a place, and what is owed to one, by their numbers
abbrev pub before_at : RowRules → List GivenBefore → ℕ → Before
before_at rules befores number = get no_before (map (before_of rules) befores) number

abbrev pub due_at : RowRules → List GivenDue → ℕ → Due
due_at rules dues number = if nat_lt number 3 then DueOf [] number else get no_due (map (due_by rules) dues) (number - 3)

-- the symbol j + 1 leads to what the table says
pub record MoveHolds (rules : RowRules) (befores : List GivenBefore) (from : GivenBefore) (j : ℕ) : Type 0 where
  pub within : get_or from.moves.now j 0 < length befores
  pub is : moves_on rules (before_of rules from) (suc j) ≡ before_at rules befores (get_or from.moves.now j 0)

pub record BeforeHolds (rules : RowRules) (n : ℕ) (befores : List GivenBefore) (dues : List GivenDue) (from : GivenBefore) : Type 0 where
  pub size : length from.moves.now ≡ n
  pub moves : (j : ℕ) → j < length from.moves.now → MoveHolds rules befores from j
  pub owes : owed rules (before_of rules from) ≡ due_at rules dues from.owes

-- what is owed after a symbol, where a mark isn't glued and where it is
pub record ReadHolds (rules : RowRules) (dues : List GivenDue) (due : GivenDue) (x : ℕ) : Type 0 where
  pub plain : due_after rules false x (due_by rules due) ≡ due_at rules dues (get_or due.reads.now x (0, 0)).0
  pub glued : due_after rules true x (due_by rules due) ≡ due_at rules dues (get_or due.reads.now x (0, 0)).1

pub record DueHolds (rules : RowRules) (n : ℕ) (dues : List GivenDue) (due : GivenDue) : Type 0 where
  pub size : length due.reads.now ≡ suc n
  pub reads : (x : ℕ) → x < length due.reads.now → ReadHolds rules dues due x

-- the tables are those of the rules
pub record TablesHold (rules : RowRules) (n : ℕ) (certificate : Certificate) : Type 0 where
  pub some : 0 < length certificate.befores.now
  pub start : at_start rules ≡ before_at rules certificate.befores.now 0
  pub befores : All (BeforeHolds rules n certificate.befores.now certificate.dues.now) certificate.befores.now
  pub dues : All (DueHolds rules n certificate.dues.now) certificate.dues.now
