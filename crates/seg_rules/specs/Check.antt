-- A check that a machine finds the boundaries of rules: of tables that somebody made, and of what may be true within a scan.
use Rattle.std.specs.Prelude.{ℕ, zero, suc, ◌-◌, Bool, true, false, not, ◌&&◌, ◌||◌, ◌==◌, nat_lt, if◌then◌else◌, List, [], ◌∷◌, length}
use Rattle.std.specs.Bool.{beq}
use Rattle.seg_rules.specs.declared.rules.Count.TheVariants.{One, Optional, Star, Pairs}
use Rattle.seg_rules.specs.declared.rules.Count.{Count}
use Rattle.seg_rules.specs.declared.certificate.Configuration.{Configuration}
use Rattle.seg_rules.specs.RowRules.{Pattern, RowRules, Before, Entry, Marks, Owed, Due, DueOf, once, once_number, at_start, moves_on, owed, due_after}

-- Machines, as far as the check reads them: of each state what it accepts (0 nothing, 1 a boundary, 2 the named place), a status and
-- whether it names a place; and where each symbol leads, from that of the end on (255 nowhere).
pub record Plan : Type 0 where
  pub accepts : List (ℕ × ℕ × Bool)
  pub nexts : List (List ℕ)

-- Numbers for what stands before a place and for what is owed: 0, 1 and 2 are the verdicts.
pub record Tables : Type 0 where
  pub befores : List Before
  pub moves : List (List ℕ)
  pub owes : List ℕ
  pub dues : List Due
  -- of each number, and each symbol from the end on, what is owed then, where a mark isn't glued, and where it is
  pub reads : List (List (ℕ × ℕ))

-- A configuration says what may be true within a scan. Its places: 0 none, 1 one that is no boundary, 2 that after the last symbol, 3 an
-- older one, 4 the end.

unfoldable pub get : {X : Type 0} → X → List X → ℕ → X
get default [] n = default
get default (x ∷ xs) zero = x
get default (x ∷ xs) (suc n) = get default xs n

-- ---- equality tests

unfoldable pub same_flags : List Bool → List Bool → Bool
same_flags [] [] = true
same_flags (a ∷ rest) (b ∷ others) = beq a b && same_flags rest others
same_flags _ _ = false

unfoldable pub same_lives : List (List Bool) → List (List Bool) → Bool
same_lives [] [] = true
same_lives (a ∷ rest) (b ∷ others) = same_flags a b && same_lives rest others
same_lives _ _ = false

abbrev pub same_before : Before → Before → Bool
same_before a b = same_lives a.above b.above && (same_lives a.below b.below && beq a.glues b.glues)

abbrev pub count_number : Count → ℕ
count_number One = 0
count_number Optional = 1
count_number Star = 2
count_number Pairs = 3

unfoldable pub same_pattern : Pattern → Pattern → Bool
same_pattern [] [] = true
same_pattern ((a, m) ∷ rest) ((b, n) ∷ others) = a == b && (count_number m == count_number n && same_pattern rest others)
same_pattern _ _ = false

abbrev pub same_entry : Entry → Entry → Bool
same_entry Marks Marks = true
same_entry (Owed p live v below) (Owed q live' w below') = same_pattern p q && (same_flags live live' && (v == w && beq below below'))
same_entry _ _ = false

unfoldable pub same_entries : List Entry → List Entry → Bool
same_entries [] [] = true
same_entries (a ∷ rest) (b ∷ others) = same_entry a b && same_entries rest others
same_entries _ _ = false

unfoldable pub same_due : Due → Due → Bool
same_due (DueOf entries otherwise) (DueOf others other) = otherwise == other && same_entries entries others

abbrev pub no_due : Due
no_due = DueOf [] 9

abbrev pub no_before : Before
no_before = record { above = []; below = []; glues = false }

-- the number means what is owed
abbrev pub numbers : Tables → ℕ → Due → Bool
numbers t n d = same_due d (if nat_lt n 3 then DueOf [] n else get no_due t.dues (n - 3))

-- ---- the tables are those of the rules

unfoldable pub moves_hold : RowRules → Tables → Before → List ℕ → ℕ → Bool
moves_hold rules t s [] x = true
moves_hold rules t s (to ∷ tos) x = same_before (moves_on rules s x) (get no_before t.befores to) && moves_hold rules t s tos (suc x)

unfoldable pub befores_hold : RowRules → Tables → ℕ → List Before → List (List ℕ) → List ℕ → Bool
befores_hold rules t n [] [] [] = true
befores_hold rules t n (s ∷ ss) (row ∷ rows) (o ∷ os) =
    (length row == n) && (moves_hold rules t s row 1 && (numbers t o (owed rules s) && befores_hold rules t n ss rows os))
befores_hold rules t n _ _ _ = false

unfoldable pub reads_hold : RowRules → Tables → Due → List (ℕ × ℕ) → ℕ → Bool
reads_hold rules t d [] x = true
reads_hold rules t d (to ∷ tos) x =
    numbers t to.0 (due_after rules false x d) && (numbers t to.1 (due_after rules true x d) && reads_hold rules t d tos (suc x))

unfoldable pub dues_hold : RowRules → Tables → ℕ → List Due → List (List (ℕ × ℕ)) → Bool
dues_hold rules t n [] [] = true
dues_hold rules t n (d ∷ ds) (row ∷ rows) = (length row == suc n) && (reads_hold rules t d row 0 && dues_hold rules t n ds rows)
dues_hold rules t n _ _ = false

abbrev pub verdicts : List Due
verdicts = DueOf [] 0 ∷ DueOf [] 1 ∷ DueOf [] 2 ∷ []

unfoldable pub append_dues : List Due → List Due → List Due
append_dues [] ds = ds
append_dues (e ∷ es) ds = e ∷ append_dues es ds

unfoldable pub all_below : ℕ → List ℕ → Bool
all_below many [] = true
all_below many (to ∷ tos) = nat_lt to many && all_below many tos

unfoldable pub rows_below : ℕ → List (List ℕ) → Bool
rows_below many [] = true
rows_below many (row ∷ rows) = all_below many row && rows_below many rows

abbrev pub tables_hold : RowRules → ℕ → Tables → Bool
tables_hold rules n t =
    same_before (at_start rules) (get no_before t.befores 0)
    && (befores_hold rules t n t.befores t.moves t.owes && (dues_hold rules t n (append_dues verdicts t.dues) t.reads
    && once_number (length t.befores) (λ many. nat_lt 0 many && rows_below many t.moves)))

-- ---- what may be true within a scan

abbrev pub same_configuration : Configuration → Configuration → Bool
same_configuration a b =
    a.before == b.before && (a.doubt == b.doubt && (a.older == b.older && (beq a.newest b.newest
    && (a.last == b.last && (a.status == b.status && a.named == b.named)))))

unfoldable pub among : Configuration → List Configuration → Bool
among c [] = false
among c (d ∷ ds) = same_configuration c d || among c ds

-- where a place is after a symbol that isn't the end: what is owed to the older one and to the newest then
abbrev pub moved_place : ℕ → ℕ → ℕ → ℕ
moved_place older newest place =
    if place == 3
    then (if older == 0 then 1 else 3)
    else (if place == 2 then (if older == 0 && not (newest == 0) then 3 else 1) else place)

abbrev pub tail : {X : Type 0} → List X → List X
tail [] = []
tail (x ∷ xs) = xs

-- the states that the end leads to, again and again: the last place accepted, or named, is the one wanted
unfoldable pub ends : Plan → ℕ → ℕ → ℕ → ℕ → ℕ → ℕ → ℕ → Bool
ends plan zero q last status named place wanted = false
ends plan (suc fuel) q last status named place wanted =
    let next = get 255 (get [] plan.nexts q) 0 in
    let accept = get (0, 0, false) plan.accepts next in
    if next == 255
    then last == place && status == wanted
    else (if accept.0 == 0
    then ends plan fuel next last status named place wanted
    else (if accept.0 == 1
    then ends plan fuel next 4 accept.1 (if accept.2 then 4 else named) place wanted
    else (if named == 0
    then ends plan fuel next last status named place wanted
    else named == place && accept.1 == wanted)))

abbrev pub end_place : ℕ → ℕ → ℕ
end_place older place = if place == 2 then 4 else (if place == 3 then (if older == 0 then 1 else 3) else place)

module _ (rules : RowRules) (t : Tables) (plan : Plan) (relation : List (List Configuration)) where
  abbrev pub known : ℕ → Configuration → Bool
  known q c = among c (get [] relation q)

  unfoldable pub entered : ℕ → (ℕ × ℕ × Bool) → ℕ → Configuration → Bool
  entered q (kind, status, names) kept c =
      if kind == 0
      then known q c
      else (if kind == 1
      then known q (record c { last = 2; status = status; named = if names then 2 else c.named })
      else (if c.named == 0 then known q c else c.named == 3 && (nat_lt kept 3 && kept == suc status)))

  -- after a symbol: what is owed to the boundary where the scan began, to the older place and to the newest
  unfoldable pub goes_on : Configuration → ℕ → ℕ → ℕ → ℕ → ℕ → Bool
  goes_on c before q zero older newest = true
  goes_on c before q (suc doubt) older newest =
      once_number older (λ older. once_number newest (λ newest.
      once_number (if older == 0 then newest else older) (λ kept.
      once (nat_lt kept 3 && not (kept == 0)) (λ sure.
      once_number (moved_place older newest c.last) (λ last.
      if q == 255
      then sure && (last == 3 && kept == suc c.status)
      else not (q == 0) && (nat_lt older 3 || newest == 0)
      && once_number (moved_place older newest c.named) (λ named.
      once (not sure && not (get 0 t.owes before == 0)) (λ maybe.
      entered q (get (0, 0, false) plan.accepts q) kept (record {
        before = before;
        doubt = suc doubt;
        older = kept;
        newest = maybe;
        last = last;
        status = c.status;
        named = named;
      }))))))))

  unfoldable pub each_goes : Configuration → Bool → List ℕ → List ℕ → List (ℕ × ℕ) → List (ℕ × ℕ) → List (ℕ × ℕ) → Bool
  each_goes c glues (before ∷ befores) (q ∷ qs) (doubt ∷ doubts) (older ∷ olders) (newest ∷ newests) =
      (if glues
      then goes_on c before q doubt.1 older.1 newest.1
      else goes_on c before q doubt.0 older.0 newest.0)
      && each_goes c glues befores qs doubts olders newests
  each_goes c glues [] [] [] [] [] = true
  each_goes c glues _ _ _ _ _ = false

  abbrev pub ends_well : ℕ → Configuration → ℕ → ℕ → Bool
  ends_well q c doubt older =
      doubt == 0
      || (nat_lt older 3 && ends plan 2 q (end_place older c.last) c.status (end_place older c.named)
      (if older == 0 then 4 else 3) (if older == 0 then rules.at_end else older - 1))

  unfoldable pub configuration_holds : ℕ → Configuration → Bool
  configuration_holds q c =
      let doubts = get [] t.reads c.doubt in
      let olders = get [] t.reads c.older in
      let newests = get [] t.reads (if c.newest then get 0 t.owes c.before else 0) in
      ((q == 0 && c.last == 0) || ends_well q c (get (0, 0) doubts 0).0 (get (0, 0) olders 0).0)
      && each_goes c (get no_before t.befores c.before).glues (get [] t.moves c.before) (tail (get [] plan.nexts q)) (tail doubts) (tail olders) (tail newests)

  unfoldable pub configurations_hold : ℕ → List Configuration → Bool
  configurations_hold q [] = true
  configurations_hold q (c ∷ cs) = configuration_holds q c && configurations_hold q cs

  unfoldable pub relation_holds : ℕ → List (List Configuration) → Bool
  relation_holds q [] = true
  relation_holds q (cs ∷ rest) = configurations_hold q cs && relation_holds (suc q) rest

  abbrev pub start_of : ℕ → ℕ → Configuration
  start_of before doubt = record { before = before; doubt = doubt; older = 0; newest = false; last = 0; status = 0; named = 0 }

  -- wherever there may be a boundary, a scan may begin
  unfoldable pub starts_hold : ℕ → List ℕ → Bool
  starts_hold before [] = true
  starts_hold before (o ∷ os) = (o == 0 || known 0 (start_of before o)) && starts_hold (suc before) os

  abbrev pub scans_hold : Bool
  scans_hold = known 0 (start_of 0 1) && (starts_hold 0 t.owes && relation_holds 0 relation)
