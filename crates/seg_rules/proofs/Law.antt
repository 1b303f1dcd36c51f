-- For rules and a machine that pass the check, the machine's boundaries, with their statuses, are the places where the rules break.
use Rattle.std.specs.Prelude.{◌≡◌, ℕ, zero, suc, ◌+◌, ◌-◌, ◌≤◌, true, false, not, ◌==◌, Some, None, List, [], ◌∷◌, ◌++◌, drop, length, All}
use Rattle.std.specs.Option.{option_map_or}
use Rattle.std.proofs.Common.{arith, refl, sym, ap, ap₂, ◌∙◌, inl, inr, subst, zero-add}
use Rattle.std.proofs.lemmas.Bool.{cond-true, cond-false}
use Rattle.std.proofs.lemmas.List.{get_or-map, length-map, drop-map, length-drop}
use Rattle.seg_text.specs.declared.boundary.Boundary.{Boundary}
use Rattle.seg_text.specs.Boundaries.{boundary, start, shift_all, Stretch, later_boundaries_within, later_boundaries}
use Rattle.seg_machine.specs.Machine.{Machine, symbol_count, IsSymbolOf, IsTextSymbol, symbol_and_script, symbols_of}
use Rattle.std.specs.Prelude.{get_or}
use Rattle.seg_machine.specs.MachineFaults.{IsChecked}
use Rattle.seg_machine.specs.Pick.{pick, machine_stretch, machine_boundaries}
use Rattle.seg_rules.specs.RowRules.{RowRules, owed, verdict, before, has_boundary, moves_on}
use Rattle.seg_rules.specs.declared.certificate.Configuration.{Configuration}
use Rattle.seg_rules.specs.Check.{Plan, Tables}
use Rattle.seg_rules.specs.Places.{IsPlan, Passes, places}
use Rattle.seg_rules.specs.Plain.{plain_places}
use Rattle.seg_rules.proofs.Plans.{plan-is, symbols-are}
use Rattle.seg_rules.proofs.Verdicts.{places-plain}
use Rattle.seg_rules.proofs.Soundness.{finish, first, bool-cases, neq-eqb}
use Rattle.seg_rules.proofs.Scans.{Symbols, symbols-from, restart}
use Rattle.seg_rules.proofs.Engine.{Small, as_boundary, pick-finish}

-- after a symbol and so many more comes the first break of the rules, and there is a boundary
record Found (rules : RowRules) (n k base : ℕ) (past : List ℕ) (x : ℕ) (rest : List ℕ) : Type 0 where
  more : ℕ
  status : ℕ
  behind : List ℕ
  value : first rules (suc k) (before rules (x ∷ past)) rest ≡ (suc (k + more), status)
  first_place : places rules base past (x ∷ rest) ≡ boundary (suc (base + more)) status ∷ places rules (suc (base + more)) behind (drop more rest)
  breaks : has_boundary rules behind (drop more rest) ≡ true
  symbols : Symbols n behind
  left : Symbols n (drop more rest)

add-none : (k : ℕ) → suc k ≡ suc (k + 0)
add-none k = omega arith

found : (rules : RowRules) (n : ℕ) (rest : List ℕ) (k base : ℕ) (past : List ℕ) (x : ℕ) → Symbols n (x ∷ past) → Symbols n rest → Found rules n k base past x rest
unfolding first places before
found rules n [] k base past x behind ahead =
    let some : (suc rules.at_end == 0) ≡ false = neq-eqb _ _ (λ e. absurd (omega (arith, e))) in
    let status : suc rules.at_end - 1 ≡ rules.at_end = omega arith in
    record {
      more = 0;
      status = rules.at_end;
      behind = x ∷ past;
      value = ap (λ k. (k, rules.at_end)) (add-none k);
      first_place = cond-false _ _ _ some ∙ ap₂ (λ k v. boundary k v ∷ []) (add-none base) status;
      breaks = refl;
      symbols = behind;
      left = tt;
    }
found rules n (y ∷ rest) k base past x behind ahead =
    let s = before rules (x ∷ past) in
    let here = verdict rules s (owed rules s) (y ∷ rest) in
    elim (bool-cases (here == 0)) [
      | inl none ↦
          let further = found rules n rest (suc k) (suc base) (x ∷ past) y (ahead.0, behind) ahead.1 in
          let count : suc (suc k + further.more) ≡ suc (k + suc further.more) = omega arith in
          let place : suc (suc base + further.more) ≡ suc (base + suc further.more) = omega arith in
          record {
            more = suc further.more;
            status = further.status;
            behind = further.behind;
            value = cond-true _ _ _ none ∙ further.value ∙ ap (λ k. (k, further.status)) count;
            first_place = cond-true _ _ _ none ∙ further.first_place
                ∙ ap (λ o. boundary o further.status ∷ places rules o further.behind (drop further.more rest)) place;
            breaks = further.breaks;
            symbols = further.symbols;
            left = further.left;
          }
      | inr some ↦ record {
        more = 0;
        status = here - 1;
        behind = x ∷ past;
        value = cond-false _ _ _ some ∙ ap (λ k. (k, here - 1)) (add-none k);
        first_place = cond-false _ _ _ some ∙ ap (λ o. boundary o (here - 1) ∷ places rules o (x ∷ past) (y ∷ rest)) (add-none base);
        breaks = ap not some;
        symbols = behind;
        left = ahead;
      }
    ]

pub shift-shift : (n e : ℕ) (found : List Boundary) → shift_all n (shift_all e found) ≡ shift_all (n + e) found
shift-shift n e [] = refl
shift-shift n e (b ∷ found) =
    let same : n + (e + b.offset) ≡ n + e + b.offset = omega arith in
    λ i. boundary (same i) b.status ∷ shift-shift n e found i

pub shift-zero : (found : List Boundary) → shift_all 0 found ≡ found
shift-zero [] = refl
shift-zero (b ∷ found) = λ i. boundary (zero-add b.offset i) b.status ∷ shift-zero found i

-- from each boundary on, and from the start, the pick is the first boundary after it
abbrev pub Restarts : RowRules → ℕ → Plan → ℕ → Type 0
Restarts rules n plan fuel =
    (past : List ℕ) (x : ℕ) (rest : List ℕ) → Symbols n past → Symbols n (x ∷ rest) → has_boundary rules past (x ∷ rest) ≡ true
    → finish plan fuel 0 0 None None (x ∷ rest) ≡ Some (first rules 1 (moves_on rules (before rules past) x) rest)

module _ (rules : RowRules) (n : ℕ) (plan : Plan) (m : Machine) (is : IsPlan m n plan) (restarts : Restarts rules n plan (length m.states)) where
  small-symbols : (xs : List ℕ) → Symbols n xs → Small m n plan is xs
  small-symbols [] h = tt
  small-symbols (x ∷ xs) h = (h.0.1, small-symbols xs h.1)

  stretch : (past : List ℕ) (c : ℕ) (cs : List ℕ) → Symbols n past → Symbols n (symbols_of m (c ∷ cs)) → has_boundary rules past (symbols_of m (c ∷ cs)) ≡ true
      → (base : ℕ) → (f : Found rules n 0 base past (symbol_and_script m c).0 (symbols_of m cs))
      × (machine_stretch m (c ∷ cs) ≡ record { extent = suc f.more; boundaries = boundary (suc f.more) f.status ∷ [] })
  unfolding machine_stretch before
  stretch past c cs behind ahead breaks base =
      let x = (symbol_and_script m c).0 in
      let rest = symbols_of m cs in
      let f = found rules n rest 0 base past x (ahead.0, behind) ahead.1 in
      let count : suc (0 + f.more) ≡ suc f.more = omega arith in
      let picked : pick m (x ∷ rest) ≡ Some (boundary (suc f.more) f.status) =
      pick-finish m n plan is (x ∷ rest) (small-symbols (x ∷ rest) ahead)
      ∙ ap as_boundary (restarts past x rest behind ahead breaks)
      ∙ ap (λ (v : ℕ × ℕ). Some (boundary v.0 v.1)) f.value
      ∙ ap (λ k. Some (boundary k f.status)) count in (
        f,
        ap (λ found. option_map_or (λ (picked : Boundary). record { extent = picked.offset; boundaries = picked ∷ [] }) found
            (record { extent = length (c ∷ cs); boundaries = [] })) picked,
      )

  -- the boundaries that are left are the places that are left
  left-places : (most base : ℕ) (past cs : List ℕ) → length cs ≤ most → Symbols n past → Symbols n (symbols_of m cs)
      → has_boundary rules past (symbols_of m cs) ≡ true
      → shift_all base (later_boundaries_within (machine_stretch m) most cs) ≡ places rules base past (symbols_of m cs)
  unfolding later_boundaries_within places
  left-places zero base past [] bound behind ahead breaks = refl
  left-places zero base past (c ∷ cs) bound behind ahead breaks = absurd (omega (arith, bound))
  left-places (suc most) base past [] bound behind ahead breaks = refl
  left-places (suc most) base past (c ∷ cs) bound behind ahead breaks =
      let (f, extent) = stretch past c cs behind ahead breaks base in
      let further = later_boundaries_within (machine_stretch m) most (drop f.more cs) in
      let place : base + suc f.more ≡ suc (base + f.more) = omega arith in
      let dropped : drop f.more (symbols_of m cs) ≡ symbols_of m (drop f.more cs) = drop-map (λ c. (symbol_and_script m c).0) f.more cs in
      let shorter : length (drop f.more cs) ≤ most = omega (arith, bound, length-drop f.more cs) in
      let later : shift_all (suc (base + f.more)) further ≡ places rules (suc (base + f.more)) f.behind (symbols_of m (drop f.more cs)) =
      left-places most (suc (base + f.more)) f.behind (drop f.more cs) shorter f.symbols (subst (Symbols n) dropped f.left)
      (subst (λ xs. has_boundary rules f.behind xs ≡ true) dropped f.breaks) in
      ap (λ (s : Stretch). shift_all base (s.boundaries ++ shift_all s.extent (later_boundaries_within (machine_stretch m) most (drop s.extent (c ∷ cs))))) extent
      ∙ ap (λ (bs : List Boundary). boundary (base + suc f.more) f.status ∷ bs) (shift-shift base (suc f.more) further)
      ∙ ap (λ o. boundary o f.status ∷ shift_all o further) place
      ∙ ap (λ (bs : List Boundary). boundary (suc (base + f.more)) f.status ∷ bs) later
      ∙ ap (λ xs. boundary (suc (base + f.more)) f.status ∷ places rules (suc (base + f.more)) f.behind xs) (sym dropped)
      ∙ sym f.first_place

  -- all boundaries
  pub boundaries-are : (cs : List ℕ) → All (IsSymbolOf (suc n)) (symbols_of m cs) → machine_boundaries m cs ≡ start ∷ places rules 0 [] (symbols_of m cs)
  unfolding later_boundaries
  boundaries-are cs symbols =
      let later = later_boundaries_within (machine_stretch m) (length cs) cs in
      ap (λ (bs : List Boundary). start ∷ bs) (sym (shift-zero later) ∙ left-places (length cs) 0 [] cs (omega arith) tt (symbols-from n (symbols_of m cs) symbols) refl)

-- Law: the boundaries of each list of code points are, with their statuses, the places of the rules in plain words, for a checked machine
-- that has a plan, where scans restart
pub planned-law : (rules : RowRules) (n : ℕ) (plan : Plan) (m : Machine) → IsPlan m n plan → Restarts rules n plan (length m.states) → symbol_count m ≡ suc n → IsChecked m
    → (cs : List ℕ) → machine_boundaries m cs ≡ start ∷ plain_places rules 0 [] (symbols_of m cs)
planned-law rules n plan m is restarts count checked cs =
    let are : All (IsTextSymbol m) (symbols_of m cs) =
    λ k d within. rw (get_or-map (λ c. (symbol_and_script m c).0) cs k 0 d (omega (arith, within, length-map cs (λ c. (symbol_and_script m c).0)))) (checked.text_symbols (get_or cs k 0)) in
    let symbols = subst (λ count. All (IsSymbolOf count) (symbols_of m cs)) count are in
    boundaries-are rules n plan m is restarts cs symbols
    ∙ ap (λ (bs : List Boundary). start ∷ bs) (places-plain rules n 0 [] (symbols_of m cs) (symbols-from n (symbols_of m cs) symbols))

-- Law: so it is for rules, a checked machine and a certificate that pass the tests
pub checked-law : (rules : RowRules) (n : ℕ) (t : Tables) (plan : Plan) (relation : List (List Configuration)) (m : Machine)
    → Passes rules n t relation plan m → IsChecked m
    → (cs : List ℕ) → machine_boundaries m cs ≡ start ∷ plain_places rules 0 [] (symbols_of m cs)
checked-law rules n t plan relation m passes checked =
    let is = plan-is m n plan passes.machine in
    planned-law rules n plan m is (restart rules n t plan relation passes.tables passes.scans (length m.states) is.some) (symbols-are m n plan passes.machine) checked
