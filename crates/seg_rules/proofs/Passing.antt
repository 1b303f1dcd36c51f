-- What passes the check as code has what the law asks for.
use Rattle.std.specs.Prelude.{◌≡◌, ℕ, zero, suc, ◌-◌, ◌<◌, ◌≤◌, nat_lt, ◌==◌, Bool, true, false, if◌then◌else◌, Option, Some, None, List, [], ◌∷◌, length, map, get_or, slice_index_or, All, IfSome, ◌⊎◌}
use Rattle.std.proofs.Common.{arith, refl, sym, ap, ◌∙◌, inl, inr, subst, ltb-true, ltb-false, lt-ltb, le-ltb}
use denote.Bor.{Bor}
use Rattle.std.proofs.lemmas.Bool.{cond-true, cond-false, or_cases}
use Rattle.std.proofs.lemmas.List.{length-map, length-replicate, get_or_past}
use Rattle.seg_text.specs.Boundaries.{start}
use Rattle.seg_machine.specs.declared.provider.Acceptance.TheVariants.{Continue}
use Rattle.seg_machine.specs.Machine.{Machine, step, state_at, symbol_count, symbols_of}
use Rattle.seg_machine.specs.MachineFaults.{IsChecked}
use Rattle.seg_machine.specs.Pick.{machine_boundaries}
use Rattle.seg_rules.specs.declared.certificate.Before.{Before as GivenBefore}
use Rattle.seg_rules.specs.declared.certificate.Due.{Due as GivenDue}
use Rattle.seg_rules.specs.declared.certificate.Certificate.{Certificate}
use Rattle.seg_rules.specs.declared.certificate.Configuration.{Configuration}
use Rattle.seg_rules.specs.RowRules.{RowRules, DueOf, due_after, moves_on, owed, read, read_all}
use Rattle.seg_rules.specs.Check.{Plan, Tables, among, get, no_before, no_due, same_configuration}
use Rattle.seg_rules.specs.Given.{before_of, due_by, tables_of}
use Rattle.seg_rules.specs.Certified.{ReadHolds, TablesHold, before_at, due_at}
use Rattle.seg_rules.specs.Passed.{IsPassed}
use Rattle.seg_rules.specs.Planned.{ConfigurationHolds, accept_by, next_number, plan_of, read_at, relation_of}
use Rattle.seg_rules.specs.Places.{IsPlan, stands_for}
use Rattle.seg_rules.specs.Plain.{plain_places}
use Rattle.seg_rules.proofs.Claims.{get-mapped, get-mapped-past}
use Rattle.seg_rules.proofs.Numbers.{get-is, get-past, number_of, read-verdict, read-due, reads-beyond}
use Rattle.seg_rules.proofs.Planned.{next-is, step-some}
use Rattle.seg_rules.proofs.Soundness.{bool-cases, same-config}
use Rattle.seg_rules.proofs.TableLemmas.{TablesAre, due_of, row-within}
use Rattle.seg_rules.proofs.Scans.{BeginsRight, Checked, Passed, boundary-scan}
use Rattle.seg_rules.proofs.Law.{planned-law}

below-or-not : (i n : ℕ) → (i < n) ⊎ (n ≤ i)
below-or-not i n = elim (bool-cases (nat_lt i n)) [ inl less ↦ inl (ltb-true i n less) | inr not_less ↦ inr (ltb-false i n not_less) ]

-- ---- the plan of a machine

number-back : (next : Option ℕ) → ((to : ℕ) → next ≡ Some to → (to == 255) ≡ false) → next ≡ (if next_number next == 255 then None else Some (next_number next))
number-back None some = refl
number-back (Some to) some = sym (cond-false (to == 255) None (Some to) (some to refl))

number-has : (P : ℕ → Type 0) (next : Option ℕ) → IfSome next P → (next_number next == 255) ≡ false → P (next_number next)
number-has P None has some = let no : true ≡ false = some in cc
number-has P (Some to) has some = has

pub is-plan : (m : Machine) (n : ℕ) → 2 ≤ length m.states → symbol_count m ≡ suc n → IsChecked m → All (λ state. stands_for state (accept_by state) ≡ true) m.states
    → IsPlan m n (plan_of m n)
unfolding state_at
is-plan m n some count checked fit =
    record {
      some = some;
      leads = λ q x below small.
          number-back (step m q x) (λ to is. step-some m q x to is)
          ∙ ap (λ next. if next == 255 then None else Some next) (sym (next-is m n q x below small));
      within = λ q x below small some.
          subst (λ next. next < length m.states) (sym (next-is m n q x below small))
          (number-has (λ next. next < length m.states) (step m q x) (checked.in_range q x below (subst (λ n. x < n) (sym count) small))
          (ap (λ next. next == 255) (sym (next-is m n q x below small)) ∙ some));
      accepts = λ q. elim (below-or-not q (length m.states)) [
        | inl within ↦ ap (stands_for (slice_index_or m.states q (Continue, None))) (sym (get-mapped accept_by (0, 0, false) m.states q (Continue, None) within)) ∙ fit q (Continue, None) within
        | inr past ↦
            ap (λ state. stands_for state (get (0, 0, false) (map accept_by m.states) q)) (get_or_past m.states q (Continue, None) past)
            ∙ ap (stands_for (Continue, None)) (sym (get-mapped-past accept_by (0, 0, false) m.states q past))
      ];
    }

-- ---- the tables

abbrev some_before : GivenBefore
some_before = record { above = record { ref_ptr = (0, 0); now = [] }; below = record { ref_ptr = (0, 0); now = [] }; glues = false; moves = record { ref_ptr = (0, 0); now = [] }; owes = 0 }

abbrev some_due : GivenDue
some_due = record { entries = record { ref_ptr = (0, 0); now = [] }; otherwise = 0; reads = record { ref_ptr = (0, 0); now = [] } }

module _ (rules : RowRules) (n : ℕ) (certificate : Certificate) (holds : TablesHold rules n certificate) where
  abbrev befores : List GivenBefore
  befores = certificate.befores.now

  abbrev dues : List GivenDue
  dues = certificate.dues.now

  abbrev t : Tables
  t = tables_of rules n certificate

  moves-row : (i : ℕ) → i < length befores → (get_or befores i some_before).moves.now ≡ get [] t.moves i
  moves-row i below = get-mapped (λ (b : GivenBefore). b.moves.now) [] befores i some_before below

  move-at : (i j : ℕ) → i < length befores → get_or (get_or befores i some_before).moves.now j 0 ≡ get 0 (get [] t.moves i) j
  move-at i j below = get-is 0 (get_or befores i some_before).moves.now j ∙ ap (λ moves. get 0 moves j) (moves-row i below)

  size : (i : ℕ) → i < length befores → length (get [] t.moves i) ≡ n
  size i below = ap length (sym (moves-row i below)) ∙ (holds.befores i some_before below).size

  move-within : (i j : ℕ) → get 0 (get [] t.moves i) j < length befores
  move-within i j = elim (below-or-not i (length befores)) [
    | inl below ↦ elim (below-or-not j n) [
      | inl small ↦
          let row = holds.befores i some_before below in
          subst (λ to. to < length befores) (move-at i j below) (row.moves j (subst (λ n. j < n) (sym row.size) small)).within
      | inr past ↦
          let many = size i below in
          subst (λ to. to < length befores) (sym (get-past 0 (get [] t.moves i) j (omega (arith, many, past)))) holds.some
    ]
    | inr past ↦
        subst (λ moves. get 0 moves j < length befores) (get-mapped-past (λ (b : GivenBefore). b.moves.now) [] befores i past)
        (subst (λ to. to < length befores) (sym (get-past 0 [] j (omega arith))) holds.some)
  ]

  verdict-size : (number : ℕ) → number < 3 → length (get [] t.reads number) ≡ suc n
  unfolding get
  verdict-size zero less = length-replicate (suc n) (0, 0)
  verdict-size (suc zero) less = length-replicate (suc n) (1, 1)
  verdict-size (suc (suc zero)) less = length-replicate (suc n) (2, 2)
  verdict-size (suc (suc (suc number))) less = absurd (omega (arith, less))

  many-reads : length t.reads ≡ suc (suc (suc (length dues)))
  many-reads = ap (λ n. suc (suc (suc n))) (length-map dues (λ (d : GivenDue). d.reads.now))

  rows-size : (number : ℕ) → number < length t.reads → length (get [] t.reads number) ≡ suc n
  rows-size number below = elim (below-or-not number 3) [
    | inl less ↦ verdict-size number less
    | inr past ↦
        let within : number - 3 < length dues = let many = many-reads in omega (arith, below, past, many) in
        ap length (reads-beyond rules n certificate number past ∙ sym (get-mapped (λ (d : GivenDue). d.reads.now) [] dues (number - 3) some_due within))
        ∙ (holds.dues (number - 3) some_due within).size
  ]

  verdict-stays : (glues : Bool) (x i : ℕ) → due_after rules glues x (DueOf [] i) ≡ DueOf [] i
  unfolding read read_all
  verdict-stays glues x i = refl

  picked : (due : GivenDue) (glues : Bool) (x : ℕ) → ReadHolds rules dues due x
      → due_after rules glues x (due_by rules due) ≡ due_at rules dues (number_of glues (get_or due.reads.now x (0, 0)))
  picked due true x h = h.glued
  picked due false x h = h.plain

  reads-are : (i : ℕ) → 0 < length (get [] t.reads i) → (x : ℕ) (glues : Bool) → x < suc n → due_after rules glues x (due_of t i) ≡ due_of t (read_at t i glues x)
  reads-are i some x glues small = elim (below-or-not i 3) [
    | inl less ↦
        let is : due_of t i ≡ DueOf [] i = cond-true _ _ _ (lt-ltb i 3 less) in
        ap (due_after rules glues x) is ∙ verdict-stays glues x i ∙ sym is ∙ ap (due_of t) (read-verdict rules n certificate i glues x less small)
    | inr past ↦
        let below = row-within t.reads i some in
        let within : i - 3 < length dues = let many = many-reads in omega (arith, below, past, many) in
        let due = get_or dues (i - 3) some_due in
        let row = holds.dues (i - 3) some_due within in
        let is : due_of t i ≡ due_by rules due = cond-false _ _ _ (le-ltb i 3 past) ∙ sym (get-mapped (due_by rules) no_due dues (i - 3) some_due within) in
        ap (due_after rules glues x) is ∙ picked due glues x (row.reads x (subst (λ n. x < n) (sym row.size) small))
        ∙ ap (due_at rules dues) (ap (number_of glues) (get-is (0, 0) due.reads.now x) ∙ read-due rules n certificate i glues x some_due past within)
  ]

  pub tables-are-by : TablesAre rules n t
  tables-are-by =
      let many = length-map befores (before_of rules) in
      record {
        start = holds.start;
        some = subst (λ n. 0 < n) (sym many) holds.some;
        owes_many = length-map befores (λ (b : GivenBefore). b.owes) ∙ sym many;
        size = λ i below. size i (subst (λ n. i < n) many below);
        moves = λ i j below small.
            let within = subst (λ n. i < n) many below in
            let row = holds.befores i some_before within in
            ap (λ s. moves_on rules s (suc j)) (sym (get-mapped (before_of rules) no_before befores i some_before within))
            ∙ (row.moves j (subst (λ n. j < n) (sym row.size) small)).is
            ∙ ap (before_at rules befores) (move-at i j within);
        within = λ i j. subst (λ n. get 0 (get [] t.moves i) j < n) (sym many) (move-within i j);
        owes = λ i below.
            let within = subst (λ n. i < n) many below in
            ap (owed rules) (sym (get-mapped (before_of rules) no_before befores i some_before within)) ∙ (holds.befores i some_before within).owes
            ∙ ap (due_at rules dues) (get-mapped (λ (b : GivenBefore). b.owes) 0 befores i some_before within);
        reads = reads-are;
      }

-- ---- the relation

among-all : (P : Configuration → Type 0) (c : Configuration) (group : List Configuration) → All P group → among c group ≡ true → P c
unfolding among
among-all P c [] all h = let no : false ≡ true = h in cc
among-all P c (d ∷ group) all h = elim (or_cases (same_configuration c d) (among c group) h) [
  | inl same ↦ subst P (same-config c d same) (all 0 d (omega arith))
  | inr later ↦ among-all P c group (λ k e less. all (suc k) e (omega (arith, less))) later
]

among-none : (c : Configuration) → among c [] ≡ false
unfolding among
among-none c = refl

module _ (rules : RowRules) (n : ℕ) (certificate : Certificate) (m : Machine) (passed : IsPassed rules n certificate m) where
  abbrev tables : Tables
  tables = tables_of rules n certificate

  abbrev plan : Plan
  plan = plan_of m n

  abbrev relation : List (List Configuration)
  relation = relation_of certificate

  are : TablesAre rules n tables
  are = tables-are-by rules n certificate passed.tables

  reads-some : (number : ℕ) → number < length tables.reads → 0 < length (get [] tables.reads number)
  reads-some number below = let size = rows-size rules n certificate passed.tables number below in omega (arith, size)

  holds-passed : (q : ℕ) (c : Configuration) → ConfigurationHolds rules n tables plan relation q c → Passed rules n tables plan relation q c
  holds-passed q c holds = record {
    ends = holds.ends;
    goes = holds.goes;
    doubts = are.reads c.doubt (reads-some c.doubt holds.doubt);
    olders = are.reads c.older (reads-some c.older holds.older);
    newests = are.reads _ (reads-some _ holds.newest);
  }

  known-holds : (q : ℕ) (c : Configuration) → among c (get [] relation q) ≡ true → Passed rules n tables plan relation q c
  known-holds q c knows = elim (below-or-not q (length relation)) [
    | inl below ↦
        let within : q < length certificate.relation.now = let many = length-map certificate.relation.now (λ (group : Bor (List Configuration)). group.now) in omega (arith, below, many) in
        holds-passed q c (among-all (ConfigurationHolds rules n tables plan relation q) c (get [] relation q) (passed.groups q within) knows)
    | inr past ↦ let no : false ≡ true = sym (among-none c) ∙ ap (among c) (sym (get-past [] relation q past)) ∙ knows in cc
  ]

  -- Law: what passes the check as code has the boundaries of the rules
  pub passed-law : IsChecked m → (cs : List ℕ) → machine_boundaries m cs ≡ start ∷ plain_places rules 0 [] (symbols_of m cs)
  passed-law checked =
      let by : Checked rules n tables plan relation = record { are = are; passes = λ q c within knows. known-holds q c knows } in
      let begins : BeginsRight rules n tables plan relation = record {
        start = passed.start;
        boundaries = λ i below.
            let within : i < length certificate.befores.now = let many = length-map certificate.befores.now (λ (b : GivenBefore). b.owes) in omega (arith, below, many) in
            passed.begins i within;
      } in
      planned-law rules n plan m (is-plan m n passed.some passed.count checked passed.fit)
      (λ past x rest behind ahead breaks. boundary-scan rules n tables plan relation by begins (length m.states) passed.some past x rest behind ahead breaks) passed.count checked
