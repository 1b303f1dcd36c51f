-- A machine as the plan that the check of scans reads, and the relation of a certificate.
use Rattle.std.specs.Prelude.{ℕ, zero, suc, Bool, true, false, not, ◌&&◌, ◌||◌, ◌==◌, nat_lt, if◌then◌else◌, ◌<◌, ◌≡◌, Option, Some, None, List, [], ◌∷◌, length, map}
use Rattle.std.specs.Option.{option_map_or}
use Rattle.seg_machine.specs.declared.provider.Acceptance.{Acceptance}
use Rattle.seg_machine.specs.declared.provider.Acceptance.TheVariants.{Continue, Accept, Conditional}
use Rattle.seg_machine.specs.Machine.{Machine, step}
use Rattle.seg_rules.specs.declared.certificate.Configuration.{Configuration}
use Rattle.seg_rules.specs.declared.certificate.Certificate.{Certificate}
use Rattle.seg_rules.specs.RowRules.{RowRules}
use Rattle.seg_rules.specs.Check.{Plan, Tables, among, ends_well, entered, get, goes_on, moved_place, no_before}

abbrev pub is_named : Option ℕ → Bool
is_named None = false
is_named (Some name) = true

-- what a state accepts: 0 nothing, 1 a boundary, 2 the named place; a status, and whether it names a place
abbrev pub accept_by : Acceptance × Option ℕ → ℕ × ℕ × Bool
accept_by (Continue, name) = (0, 0, false)
accept_by (Accept status, name) = (1, status, is_named name)
accept_by (Conditional lookahead status, name) = (2, status, false)

-- so many values of a function, from a number on
unfoldable pub values : {X : Type 0} → ℕ → ℕ → (ℕ → X) → List X
values from zero f = []
values from (suc many) f = f from ∷ values (suc from) many f

-- where a symbol leads, 255 nowhere
abbrev pub next_by : Machine → ℕ → ℕ → ℕ
next_by m state symbol = option_map_or (λ next. next) (step m state symbol) 255

abbrev pub plan_of : Machine → ℕ → Plan
plan_of m n = record {
  accepts = map accept_by m.states;
  nexts = values 0 (length m.states) (λ state. values 0 (suc n) (λ symbol. next_by m state symbol));
}

abbrev pub relation_of : Certificate → List (List Configuration)
relation_of certificate = map (λ group. group.now) certificate.relation.now

-- the state that a symbol leads to as a number, 255 for none
abbrev pub next_number : Option ℕ → ℕ
next_number next = option_map_or (λ state. state) next 255

-- What the check of a step says, with nothing worked out ahead: of a scan that stops, and of one that goes on.
abbrev pub kept_of : ℕ → ℕ → ℕ
kept_of older newest = if older == 0 then newest else older

abbrev pub is_verdict : ℕ → Bool
is_verdict kept = nat_lt kept 3 && not (kept == 0)

abbrev pub stops_plain : Configuration → ℕ → ℕ → Bool
stops_plain c older newest =
    is_verdict (kept_of older newest) && (moved_place older newest c.last == 3 && kept_of older newest == suc c.status)

module _ (rules : RowRules) (t : Tables) (plan : Plan) (relation : List (List Configuration)) where
  abbrev pub enters_plain : Configuration → ℕ → ℕ → ℕ → ℕ → ℕ → Bool
  enters_plain c before q doubt older newest =
      not (q == 0) && (nat_lt older 3 || newest == 0)
      && entered rules t plan relation q (get (0, 0, false) plan.accepts q) (kept_of older newest) (record {
        before = before;
        doubt = doubt;
        older = kept_of older newest;
        newest = not (is_verdict (kept_of older newest)) && not (get 0 t.owes before == 0);
        last = moved_place older newest c.last;
        status = c.status;
        named = moved_place older newest c.named;
      })

-- The numbers of what is owed, by the tables.
abbrev pub read_at : Tables → ℕ → Bool → ℕ → ℕ
read_at t number glues symbol =
    let pair = get (0, 0) (get [] t.reads number) symbol in
    if glues then pair.1 else pair.0

abbrev pub glues_at : Tables → Configuration → Bool
glues_at t c = (get no_before t.befores c.before).glues

abbrev pub newest_at : Tables → Configuration → ℕ
newest_at t c = if c.newest then get 0 t.owes c.before else 0

abbrev pub goes_at : RowRules → Tables → Plan → List (List Configuration) → ℕ → Configuration → ℕ → Bool
goes_at rules t plan relation q c j =
    goes_on rules t plan relation c (get 0 (get [] t.moves c.before) j) (get 255 (get [] plan.nexts q) (suc j)) (read_at t c.doubt (glues_at t c) (suc j))
    (read_at t c.older (glues_at t c) (suc j)) (read_at t (newest_at t c) (glues_at t c) (suc j))

abbrev pub ends_at : RowRules → Tables → Plan → List (List Configuration) → ℕ → Configuration → Bool
ends_at rules t plan relation q c = ends_well rules t plan relation q c (read_at t c.doubt false 0) (read_at t c.older false 0)

-- what the check of a configuration says, where what is owed has numbers of the tables
pub record ConfigurationHolds (rules : RowRules) (n : ℕ) (t : Tables) (plan : Plan) (relation : List (List Configuration)) (q : ℕ) (c : Configuration) : Type 0 where
  pub doubt : c.doubt < length t.reads
  pub older : c.older < length t.reads
  pub newest : newest_at t c < length t.reads
  pub ends : ((q == 0 && c.last == 0) || ends_at rules t plan relation q c) ≡ true
  pub goes : (j : ℕ) → j < n → goes_at rules t plan relation q c j ≡ true

-- a scan may begin, by a relation, where this stands before a place to which that is owed, or there is no boundary
abbrev pub begins_in : List (List Configuration) → ℕ → ℕ → Bool
begins_in relation before owes =
    owes == 0 || among (record { before = before; doubt = owes; older = 0; newest = false; last = 0; status = 0; named = 0 }) (get [] relation 0)

abbrev pub Begins : Certificate → ℕ → Type 0
Begins certificate before = begins_in (relation_of certificate) before (get 0 (map (λ b. b.owes) certificate.befores.now) before) ≡ true
