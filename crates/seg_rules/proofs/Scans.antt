-- A machine that passes the check picks the first boundary: by one symbol, by the end, along a scan, and from each boundary on.
use Rattle.std.specs.Prelude.{◌≡◌, ◌≢◌, ℕ, zero, suc, ◌+◌, ◌-◌, ◌<◌, ◌≤◌, Bool, true, false, not, ◌&&◌, ◌||◌, ◌==◌, nat_lt, if◌then◌else◌, Option, Some, None, List, [], ◌∷◌, length, All, ◌⊎◌}
use Rattle.std.specs.Option.{option_map, is_none}
use Rattle.std.proofs.Common.{arith, refl, sym, ap, ap₂, ◌∙◌, inl, inr, eqb-true, eq-eqb, subst}
use Rattle.std.proofs.lemmas.Bool.{and_parts, and_from, or_cases, cond-true, cond-false}
use Rattle.seg_rules.specs.RowRules.{RowRules, Before, DueOf, at_start, moves_on, owed, due_after, verdict, before, has_boundary, decided}
use Rattle.seg_rules.specs.declared.certificate.Configuration.{Configuration}
use Rattle.seg_rules.specs.Check.{Plan, Tables, get, tail, no_before, tables_hold, scans_hold, starts_hold, configurations_hold, configuration_holds, ends_well, goes_on, each_goes, ends, end_place, moved_place, known, start_of}
use Rattle.seg_rules.specs.Places.{next_of, accept_of}
use Rattle.seg_rules.proofs.TableLemmas.{due_of, chosen, Reads, TablesAre, tables-are}
use Rattle.seg_rules.proofs.StepLemmas.{kept_of, is_sure, next_config, Stops, Enters, goes, each-at, Passes, Accepts, Picks, entering}
use Rattle.seg_rules.proofs.Soundness.{zeros, finish, first, later, Stands, Nowhere, Elsewhere, Newest, Older, Holds, expected, bool-cases, configs-at, group-at, verdict-decided, verdict-step, neq-eqb, choose, wanted, wanted-step, wanted-newest, wanted-older}

-- ---- small facts

some-some : (a b : ℕ) → Some a ≡ Some b → a ≡ b
some-some a b h = cc

none-some : {X : Type 0} (n : ℕ) → None ≡ Some n → X
none-some n h = cc

-- the place and the status of what was accepted last
last-is : (last : Option (ℕ × ℕ)) (a status : ℕ) → option_map (λ f. f.0) last ≡ Some a → ((f : ℕ × ℕ) → last ≡ Some f → f.1 ≡ status)
    → last ≡ Some (a, status)
last-is None a status h are = none-some a h
last-is (Some f) a status h are =
    let one = some-some f.0 a h in
    let two = are f refl in
    λ i. Some (one i, two i)

status-none : (status : ℕ) (f : ℕ × ℕ) → None ≡ Some f → f.1 ≡ status
status-none status f h = cc

status-some : (a b : ℕ) (f : ℕ × ℕ) → Some (a, b) ≡ Some f → f.1 ≡ b
status-some a b f h = cc

-- ---- the end

-- a place where the symbols have ended: 4 is the end
data EndStands (place p k : ℕ) (found : Option ℕ) : Type 0 where
  EndNowhere : place ≡ 0 → found ≡ None → EndStands place p k found
  EndElsewhere : (n : ℕ) → place ≡ 1 → found ≡ Some n → EndStands place p k found
  EndOlder : place ≡ 3 → found ≡ Some p → EndStands place p k found
  AtEnd : place ≡ 4 → found ≡ Some k → EndStands place p k found

abbrev end_at : ℕ → ℕ → ℕ → ℕ
end_at place p k = if place == 4 then k else p

stood : (name p k place : ℕ) (found : Option ℕ) → EndStands name p k found → (place ≡ 3) ⊎ (place ≡ 4) → name ≡ place → found ≡ Some (end_at place p k)
stood name p k place found (EndNowhere e f) (inl is) same = absurd (omega (arith, e, is, same))
stood name p k place found (EndNowhere e f) (inr is) same = absurd (omega (arith, e, is, same))
stood name p k place found (EndElsewhere n e f) (inl is) same = absurd (omega (arith, e, is, same))
stood name p k place found (EndElsewhere n e f) (inr is) same = absurd (omega (arith, e, is, same))
stood name p k place found (EndOlder e f) (inl is) same = f ∙ ap (λ n. Some (end_at n p k)) (sym is)
stood name p k place found (EndOlder e f) (inr is) same = absurd (omega (arith, e, is, same))
stood name p k place found (AtEnd e f) (inl is) same = absurd (omega (arith, e, is, same))
stood name p k place found (AtEnd e f) (inr is) same = f ∙ ap (λ n. Some (end_at n p k)) (sym is)

end-none : (place p k : ℕ) (found : Option ℕ) → EndStands place p k found → place ≡ 0 → is_none found ≡ true
end-none place p k found (EndNowhere e f) none = ap is_none f
end-none place p k found (EndElsewhere n e f) none = absurd (omega (arith, e, none))
end-none place p k found (EndOlder e f) none = absurd (omega (arith, e, none))
end-none place p k found (AtEnd e f) none = absurd (omega (arith, e, none))

end-some : (place p k : ℕ) (found : Option ℕ) → EndStands place p k found → (place == 0) ≡ false → is_none found ≡ false
end-some place p k found (EndNowhere e f) some = let no : true ≡ false = sym (ap (λ n. n == 0) e) ∙ some in let other : false ≡ true = sym no in cc
end-some place p k found (EndElsewhere n e f) some = ap is_none f
end-some place p k found (EndOlder e f) some = ap is_none f
end-some place p k found (AtEnd e f) some = ap is_none f

names-end : (names : Bool) (name p k : ℕ) (named : Option ℕ) → EndStands name p k named
    → EndStands (if names then 4 else name) p k (if names then Some k else named)
names-end true name p k named at = AtEnd refl refl
names-end false name p k named at = at

-- where the states that the end leads to pass, the pick is the one wanted
ends-pick : (plan : Plan) (fuel more q name status names place wanted k p : ℕ) (last : Option (ℕ × ℕ)) (named : Option ℕ)
    → ends plan fuel q name status names place wanted ≡ true → fuel ≤ more → (place ≡ 3) ⊎ (place ≡ 4)
    → EndStands name p k (option_map (λ f. f.0) last) → ((f : ℕ × ℕ) → last ≡ Some f → f.1 ≡ status) → EndStands names p k named
    → zeros plan more k q last named ≡ Some (end_at place p k, wanted)
unfolding ends zeros
ends-pick plan zero more q name status names place wanted k p last named h few is at are naming = let no : false ≡ true = h in cc
ends-pick plan (suc fuel) zero q name status names place wanted k p last named h few is at are naming = absurd (omega (arith, few))
ends-pick plan (suc fuel) (suc more) q name status names place wanted k p last named h few is at are naming =
    let next = next_of plan q 0 in
    let accept = accept_of plan next in
    let fewer : fuel ≤ more = omega (arith, few) in
    elim (bool-cases (next == 255)) [
      | inl none ↦
          let both = and_parts (name == place) (status == wanted) (sym (cond-true _ _ _ none) ∙ h) in
          cond-true _ _ _ none
          ∙ last-is last (end_at place p k) wanted (stood name p k place _ at is (eqb-true _ _ both.0))
          (λ f is. are f is ∙ eqb-true _ _ both.1)
      | inr some ↦
          let h1 = sym (cond-false _ _ _ some) ∙ h in
          cond-false _ _ _ some ∙ elim (bool-cases (accept.0 == 0)) [
            | inl on ↦ cond-true _ _ _ on ∙ ends-pick plan fuel more next name status names place wanted k p last named (sym (cond-true _ _ _ on) ∙ h1) fewer is at are naming
            | inr off ↦
                let h2 = sym (cond-false _ _ _ off) ∙ h1 in
                cond-false _ _ _ off ∙ elim (bool-cases (accept.0 == 1)) [
                  | inl one ↦
                      cond-true _ _ _ one
                      ∙ ends-pick plan fuel more next 4 accept.1 (if accept.2 then 4 else names) place wanted k p (Some (k, accept.1)) (if accept.2 then Some k else named)
                      (sym (cond-true _ _ _ one) ∙ h2) fewer is (AtEnd refl refl) (λ f is. status-some k accept.1 f is) (names-end accept.2 names p k named naming)
                  | inr condition ↦
                      let h3 = sym (cond-false _ _ _ condition) ∙ h2 in
                      cond-false _ _ _ condition ∙ elim (bool-cases (names == 0)) [
                        | inl nothing ↦
                            cond-true _ _ _ (end-none names p k named naming (eqb-true names 0 nothing))
                            ∙ ends-pick plan fuel more next name status names place wanted k p last named (sym (cond-true _ _ _ nothing) ∙ h3) fewer is at are naming
                        | inr something ↦
                            let both = and_parts (names == place) (accept.1 == wanted) (sym (cond-false _ _ _ something) ∙ h3) in
                            cond-false _ _ _ (end-some names p k named naming something)
                            ∙ ap (option_map (λ p. (p, accept.1))) (stood names p k place named naming is (eqb-true _ _ both.0))
                            ∙ ap (λ status. Some (end_at place p k, status)) (eqb-true _ _ both.1)
                      ]
                ]
          ]
    ]

-- ---- a symbol

get-tail : {X : Type 0} (default : X) (xs : List X) (j : ℕ) → get default (tail xs) j ≡ get default xs (suc j)
unfolding get
get-tail default [] j = refl
get-tail default (x ∷ xs) j = refl

tail-some : {X : Type 0} (xs : List X) (j : ℕ) → j < length (tail xs) → 0 < length xs
tail-some [] j h = absurd (omega (arith, h))
tail-some (x ∷ xs) j h = omega arith

both-ways : {X : Type 0} (b : Bool) → b ≡ true → b ≡ false → X
both-ways b is isnt = let clash : false ≡ true = sym isnt ∙ is in cc

moved-stands : (o w place p k : ℕ) (found : Option ℕ) → Stands place p k found → Stands (moved_place o w place) (if o == 0 then k else p) (suc k) found
moved-stands o w place p k found (Nowhere e f) = Nowhere (ap (moved_place o w) e) f
moved-stands o w place p k found (Elsewhere n e f) = Elsewhere n (ap (moved_place o w) e) f
moved-stands o w place p k found (Newest e f) =
    elim (bool-cases (o == 0 && not (w == 0))) [
      | inl kept ↦ Older (ap (moved_place o w) e ∙ cond-true _ _ _ kept) (f ∙ ap Some (sym (cond-true (o == 0) k p (and_parts (o == 0) (not (w == 0)) kept).0)))
      | inr lost ↦ Elsewhere k (ap (moved_place o w) e ∙ cond-false _ _ _ lost) f
    ]
moved-stands o w place p k found (Older e f) =
    elim (bool-cases (o == 0)) [
      | inl lost ↦ Elsewhere p (ap (moved_place o w) e ∙ cond-true _ _ _ lost) f
      | inr kept ↦ Older (ap (moved_place o w) e ∙ cond-false _ _ _ kept) (f ∙ ap Some (sym (cond-false (o == 0) k p kept)))
    ]

stands-none : (place p k : ℕ) (found : Option ℕ) → Stands place p k found → place ≡ 0 → is_none found ≡ true
stands-none place p k found (Nowhere e f) none = ap is_none f
stands-none place p k found (Elsewhere n e f) none = absurd (omega (arith, e, none))
stands-none place p k found (Newest e f) none = absurd (omega (arith, e, none))
stands-none place p k found (Older e f) none = absurd (omega (arith, e, none))

stands-older : (place p k : ℕ) (found : Option ℕ) → Stands place p k found → place ≡ 3 → found ≡ Some p
stands-older place p k found (Nowhere e f) old = absurd (omega (arith, e, old))
stands-older place p k found (Elsewhere n e f) old = absurd (omega (arith, e, old))
stands-older place p k found (Newest e f) old = absurd (omega (arith, e, old))
stands-older place p k found (Older e f) old = f

stands-end : (o place p k : ℕ) (found : Option ℕ) → Stands place p k found → EndStands (end_place o place) p k found
stands-end o place p k found (Nowhere e f) = EndNowhere (ap (end_place o) e) f
stands-end o place p k found (Elsewhere n e f) = EndElsewhere n (ap (end_place o) e) f
stands-end o place p k found (Newest e f) = AtEnd (ap (end_place o) e) f
stands-end o place p k found (Older e f) =
    elim (bool-cases (o == 0)) [
      | inl lost ↦ EndElsewhere p (ap (end_place o) e ∙ cond-true _ _ _ lost) f
      | inr kept ↦ EndOlder (ap (end_place o) e ∙ cond-false _ _ _ kept) f
    ]

names-stands : (names : Bool) (name p k : ℕ) (named : Option ℕ) → Stands name p k named
    → Stands (if names then 2 else name) p k (if names then Some k else named)
names-stands true name p k named at = Newest refl refl
names-stands false name p k named at = at

-- symbols of a text, each from 1 up to n
abbrev pub Symbols : ℕ → List ℕ → Type 0
Symbols n [] = Unit {0}
Symbols n (x ∷ rest) = ((0 < x) × (x < suc n)) × Symbols n rest

pub symbols-from : (n : ℕ) (xs : List ℕ) → All (λ x. (0 < x) × (x < suc n)) xs → Symbols n xs
symbols-from n [] h = tt
symbols-from n (x ∷ xs) h = (h 0 x (omega arith), symbols-from n xs (λ k d below. h (suc k) d (omega (arith, below))))

module _ (rules : RowRules) (n : ℕ) (t : Tables) (plan : Plan) (relation : List (List Configuration)) where
  abbrev glues_at : Configuration → Bool
  glues_at c = (get no_before t.befores c.before).glues

  -- the number of what is owed, after a symbol
  abbrev after : Configuration → ℕ → ℕ → ℕ
  after c i j = chosen (glues_at c) (get (0, 0) (get [] t.reads i) (suc j))

  abbrev newest_of : Configuration → ℕ
  newest_of c = if c.newest then get 0 t.owes c.before else 0

  abbrev read_at_end : ℕ → ℕ
  read_at_end i = (get (0, 0) (get [] t.reads i) 0).0

  -- what the check of a configuration says
  pub record Passed (q : ℕ) (c : Configuration) : Type 0 where
    pub ends : ((q == 0 && c.last == 0) || ends_well rules t plan relation q c (read_at_end c.doubt) (read_at_end c.older)) ≡ true
    pub goes : (j : ℕ) → j < n
        → goes_on rules t plan relation c (get 0 (get [] t.moves c.before) j) (next_of plan q (suc j)) (after c c.doubt j) (after c c.older j) (after c (newest_of c) j) ≡ true
    pub doubts : Reads rules n t c.doubt
    pub olders : Reads rules n t c.older
    pub newests : Reads rules n t (newest_of c)

  many-each : (c : Configuration) (glues : Bool) (befores qs : List ℕ) (ds os ws : List (ℕ × ℕ))
      → each_goes rules t plan relation c glues befores qs ds os ws ≡ true
      → (length ds ≡ length befores) × ((length os ≡ length befores) × (length ws ≡ length befores))
  unfolding each_goes
  many-each c glues [] [] [] [] [] h = (refl, (refl, refl))
  many-each c glues [] (q ∷ qs) ds os ws h = let no : false ≡ true = h in cc
  many-each c glues [] [] (d ∷ ds) os ws h = let no : false ≡ true = h in cc
  many-each c glues [] [] [] (o ∷ os) ws h = let no : false ≡ true = h in cc
  many-each c glues [] [] [] [] (w ∷ ws) h = let no : false ≡ true = h in cc
  many-each c glues (b ∷ bs) [] ds os ws h = let no : false ≡ true = h in cc
  many-each c glues (b ∷ bs) (q ∷ qs) [] os ws h = let no : false ≡ true = h in cc
  many-each c glues (b ∷ bs) (q ∷ qs) (d ∷ ds) [] ws h = let no : false ≡ true = h in cc
  many-each c glues (b ∷ bs) (q ∷ qs) (d ∷ ds) (o ∷ os) [] h = let no : false ≡ true = h in cc
  many-each c glues (b ∷ bs) (q ∷ qs) (d ∷ ds) (o ∷ os) (w ∷ ws) h =
      let rest = many-each c glues bs qs ds os ws
      (and_parts (if glues then goes_on rules t plan relation c b q d.1 o.1 w.1 else goes_on rules t plan relation c b q d.0 o.0 w.0) _ h).1 in
      (ap suc rest.0, (ap suc rest.1.0, ap suc rest.1.1))

  passed : (are : TablesAre rules n t) (q : ℕ) (c : Configuration) → 0 < n → c.before < length t.befores → configuration_holds rules t plan relation q c ≡ true → Passed q c
  unfolding configuration_holds
  passed are q c some within h =
      let ds = get [] t.reads c.doubt in
      let os = get [] t.reads c.older in
      let ws = get [] t.reads (newest_of c) in
      let parts = and_parts ((q == 0 && c.last == 0) || ends_well rules t plan relation q c (read_at_end c.doubt) (read_at_end c.older)) _ h in
      let size = are.size c.before within in
      let many = many-each c (glues_at c) (get [] t.moves c.before) (tail (get [] plan.nexts q)) (tail ds) (tail os) (tail ws) parts.1 in
      let many_ds = many.0 in let many_os = many.1.0 in let many_ws = many.1.1 in
      record {
        ends = parts.0;
        goes = λ j below.
            let found = each-at rules t plan relation c (glues_at c) (get [] t.moves c.before) (tail (get [] plan.nexts q)) (tail ds) (tail os) (tail ws) j parts.1 (omega (arith, size, below)) in
            let e1 = get-tail 255 (get [] plan.nexts q) j in
            let e2 = get-tail (0, 0) ds j in
            let e3 = get-tail (0, 0) os j in
            let e4 = get-tail (0, 0) ws j in
            (λ i. goes_on rules t plan relation c (get 0 (get [] t.moves c.before) j) (sym e1 i) (chosen (glues_at c) (sym e2 i)) (chosen (glues_at c) (sym e3 i)) (chosen (glues_at c) (sym e4 i)))
            ∙ found;
        doubts = are.reads c.doubt (tail-some ds 0 (omega (arith, many_ds, size, some)));
        olders = are.reads c.older (tail-some os 0 (omega (arith, many_os, size, some)));
        newests = are.reads (newest_of c) (tail-some ws 0 (omega (arith, many_ws, size, some)));
      }

  -- ---- what is wanted after a symbol

  -- a number of a verdict means it, whatever comes
  small : (s : Before) (i : ℕ) (rest : List ℕ) → nat_lt i 3 ≡ true → verdict rules s (due_of t i) rest ≡ i
  small s i rest h = ap (λ d. verdict rules s d rest) (cond-true _ _ _ h) ∙ verdict-decided rules s i rest

  none-owed : (s : Before) (i : ℕ) (rest : List ℕ) → (i == 0) ≡ true → verdict rules s (due_of t i) rest ≡ 0
  none-owed s i rest h = ap (λ m. verdict rules s (due_of t m) rest) (eqb-true i 0 h) ∙ verdict-decided rules s 0 rest

  not-false : (b : Bool) → not b ≡ true → b ≡ false
  not-false false h = refl
  not-false true h = sym h

  -- where the place kept is sure, it is the one wanted
  sure-choice : (s : Before) (rest : List ℕ) (p k o w : ℕ) (found : ℕ × ℕ) → is_sure (kept_of o w) ≡ true
      → choose p (verdict rules s (due_of t o) rest) k (verdict rules s (due_of t w) rest) found ≡ (if o == 0 then k else p, kept_of o w - 1)
  sure-choice s rest p k o w found sure =
      elim (bool-cases (o == 0)) [
        | inl none ↦
            let kept : kept_of o w ≡ w = cond-true _ _ _ none in
            let parts = and_parts (nat_lt w 3) (not (w == 0)) (sym (ap is_sure kept) ∙ sure) in
            ap₂ (λ a b. choose p a k b found) (none-owed s o rest none) (small s w rest parts.0)
            ∙ cond-false _ _ _ (not-false (w == 0) parts.1)
            ∙ ap₂ (λ place v. (place, v - 1)) (sym (cond-true (o == 0) k p none)) (sym kept)
        | inr some ↦
            let kept : kept_of o w ≡ o = cond-false _ _ _ some in
            let parts = and_parts (nat_lt o 3) (not (o == 0)) (sym (ap is_sure kept) ∙ sure) in
            ap (λ a. choose p a k (verdict rules s (due_of t w) rest) found) (small s o rest parts.0)
            ∙ cond-false _ _ _ some
            ∙ ap₂ (λ place v. (place, v - 1)) (sym (cond-false (o == 0) k p some)) (sym kept)
      ]

  -- what is wanted of a newest place that a configuration doesn't keep
  abbrev Dropped : Before → ℕ → Bool → List ℕ → Type 0
  Dropped s i newest rest = newest ≡ false → (owed rules s ≡ DueOf [] 0) ⊎ (verdict rules s (due_of t i) rest ≢ 0)

  some-value : (s : Before) (i : ℕ) (rest : List ℕ) → nat_lt i 3 ≡ true → (i == 0) ≡ false → verdict rules s (due_of t i) rest ≢ 0
  some-value s i rest below some none = both-ways (i == 0) (eq-eqb i 0 (sym (small s i rest below) ∙ none)) some

  dropped : (are : TablesAre rules n t) (s : Before) (at i : ℕ) (rest : List ℕ) → at < length t.befores → s ≡ get no_before t.befores at
      → Dropped s i (not (is_sure i) && not (get 0 t.owes at == 0)) rest
  dropped are s at i rest within is absent =
      elim (bool-cases (is_sure i)) [
        | inl sure ↦
            let parts = and_parts (nat_lt i 3) (not (i == 0)) sure in
            inr (some-value s i rest parts.0 (not-false _ parts.1))
        | inr unsure ↦
            elim (bool-cases (get 0 t.owes at == 0)) [
              | inl none ↦ inl (ap (owed rules) is ∙ are.owes at within ∙ ap (due_of t) (eqb-true _ _ none))
              | inr some ↦
                  let both : (not (is_sure i) && not (get 0 t.owes at == 0)) ≡ true = ap₂ (λ a b. not a && not b) unsure some in
                  both-ways _ both absent
            ]
      ]

  next-wanted : (s : Before) (rest : List ℕ) (p k o w : ℕ) (newest : Bool) → (nat_lt o 3 || w == 0) ≡ true → Dropped s (kept_of o w) newest rest
      → choose p (verdict rules s (due_of t o) rest) k (verdict rules s (due_of t w) rest) (first rules (suc k) s rest)
      ≡ wanted rules (due_of t (kept_of o w)) newest (suc k) (if o == 0 then k else p) s rest
  next-wanted s rest p k o w newest single drops =
      elim (bool-cases (o == 0)) [
        | inl none ↦
            let kept : kept_of o w ≡ w = cond-true _ _ _ none in
            let place : (if o == 0 then k else p) ≡ k = cond-true _ _ _ none in
            ap (λ a. choose p a k (verdict rules s (due_of t w) rest) (first rules (suc k) s rest)) (none-owed s o rest none)
            ∙ wanted-newest rules (due_of t w) newest k s rest p (subst (λ i. Dropped s i newest rest) kept drops)
            ∙ ap₂ (λ i place. wanted rules (due_of t i) newest (suc k) place s rest) (sym kept) (sym place)
        | inr some ↦
            let kept : kept_of o w ≡ o = cond-false _ _ _ some in
            let place : (if o == 0 then k else p) ≡ p = cond-false _ _ _ some in
            let apart : (verdict rules s (due_of t w) rest ≡ 0) ⊎ (verdict rules s (due_of t o) rest ≢ 0) = elim (or_cases (nat_lt o 3) (w == 0) single) [
              | inl below ↦ inr (some-value s o rest below some)
              | inr nothing ↦ inl (none-owed s w rest nothing)
            ] in
            wanted-older rules (due_of t o) newest k p (verdict rules s (due_of t w) rest) s rest apart (subst (λ i. Dropped s i newest rest) kept drops)
            ∙ ap₂ (λ i place. wanted rules (due_of t i) newest (suc k) place s rest) (sym kept) (sym place)
      ]

  -- ---- one symbol

  abbrev choice : Before → List ℕ → ℕ → ℕ → ℕ → ℕ → ℕ × ℕ
  choice s rest p k o w = choose p (verdict rules s (due_of t o) rest) k (verdict rules s (due_of t w) rest) (first rules (suc k) s rest)

  -- a state was entered with this before it: the pick is made, or it goes on
  data Outcome (q k : ℕ) (s : Before) (last : Option (ℕ × ℕ)) (named : Option ℕ) (rest : List ℕ) (found : ℕ × ℕ) : Type 0 where
    Ends : (q == 255) ≡ true → last ≡ Some found → Outcome q k s last named rest found
    Holding : (q == 255) ≡ false → ((accept_of plan q).0 == 0) ≡ false → ((accept_of plan q).0 == 1) ≡ false → is_none named ≡ false
        → option_map (λ p. (p, (accept_of plan q).1)) named ≡ Some found → Outcome q k s last named rest found
    Going : (q == 255) ≡ false → (((accept_of plan q).0 == 0) ≡ true) ⊎ ((((accept_of plan q).0 == 0) ≡ false) × ((((accept_of plan q).0 == 1) ≡ false) × (is_none named ≡ true)))
        → (q == 0) ≡ false → (c : Configuration) (p : ℕ) → known rules t plan relation q c ≡ true → Holds rules t c (suc k) p s last named rest
        → found ≡ expected rules t c (suc k) p s rest → Outcome q k s last named rest found
    Accepting : (q == 255) ≡ false → (accept_of plan q).0 ≡ 1
        → (q == 0) ≡ false → (c : Configuration) (p : ℕ) → known rules t plan relation q c ≡ true
        → Holds rules t c (suc k) p s (Some (suc k, (accept_of plan q).1)) (if (accept_of plan q).2 then Some (suc k) else named) rest
        → found ≡ expected rules t c (suc k) p s rest → Outcome q k s last named rest found

  -- what is known of a scan before a symbol, and of what comes after it
  record Stepping (c : Configuration) (k p : ℕ) (s : Before) (last : Option (ℕ × ℕ)) (named : Option ℕ) (rest : List ℕ) (at d : ℕ) : Type 0 where
    within : at < length t.befores
    state : s ≡ get no_before t.befores at
    began : verdict rules s (due_of t d) rest ≢ 0
    pick : Stands c.last p k (option_map (λ f. f.0) last)
    status : (f : ℕ × ℕ) → last ≡ Some f → f.1 ≡ c.status
    names : Stands c.named p k named

  symbol-stops : (c : Configuration) (k p : ℕ) (s : Before) (last : Option (ℕ × ℕ)) (named : Option ℕ) (rest : List ℕ) (at d q o w : ℕ)
      → Stepping c k p s last named rest at d → Stops rules t plan relation c q o w → Outcome q k s last named rest (choice s rest p k o w)
  symbol-stops c k p s last named rest at d q o w now stops =
      let place = stands-older (moved_place o w c.last) (if o == 0 then k else p) (suc k) _ (moved-stands o w c.last p k _ now.pick) stops.place in
      let kept = stops.status in
      let is : kept_of o w - 1 ≡ c.status = omega (arith, kept) in
      Ends (eq-eqb q 255 stops.none)
      (last-is last (if o == 0 then k else p) c.status place now.status
      ∙ ap Some (ap (λ v. (if o == 0 then k else p, v)) (sym is) ∙ sym (sure-choice s rest p k o w (first rules (suc k) s rest) stops.sure)))

  symbol-enters : (are : TablesAre rules n t) (c : Configuration) (k p : ℕ) (s : Before) (last : Option (ℕ × ℕ)) (named : Option ℕ) (rest : List ℕ) (at d q o w : ℕ)
      → Stepping c k p s last named rest at d → Enters rules t plan relation c at q d o w → Outcome q k s last named rest (choice s rest p k o w)
  symbol-enters are c k p s last named rest at d q o w now enters =
      let c' = next_config rules t plan relation c at d o w in
      let p' = if o == 0 then k else p in
      let accept = accept_of plan q in
      let picked = moved-stands o w c.last p k _ now.pick in
      let naming = moved-stands o w c.named p k named now.names in
      let wants = next-wanted s rest p k o w c'.newest enters.single (dropped are s at (kept_of o w) rest now.within now.state) in
      elim (entering rules t plan relation q accept.0 accept.1 accept.2 (kept_of o w) c' enters.enters) [
        | Passes other passing knows ↦
            Going enters.some
            (elim (bool-cases (accept.0 == 0)) [
              | inl none ↦ inl none
              | inr some ↦ elim passing [
                | inl is ↦ both-ways (accept.0 == 0) (eq-eqb _ _ is) some
                | inr unnamed ↦ inr (some, (other, stands-none c'.named p' (suc k) named naming unnamed))
              ]
            ])
            enters.again c' p' knows
            (record { within = now.within; state = now.state; began = now.began; pick = picked; status = now.status; names = naming })
            wants
        | Accepts one knows ↦
            Accepting enters.some one enters.again (record c' { last = 2; status = accept.1; named = if accept.2 then 2 else c'.named }) p' knows
            (record {
              within = now.within;
              state = now.state;
              began = now.began;
              pick = Newest refl refl;
              status = λ f is. status-some (suc k) accept.1 f is;
              names = names-stands accept.2 c'.named p' (suc k) named naming;
            })
            wants
        | Picks nonzero other some third below kept ↦
            let is_named = stands-older c'.named p' (suc k) named naming third in
            let is : kept_of o w - 1 ≡ accept.1 = omega (arith, kept) in
            let nonzero_kept : (kept_of o w == 0) ≡ false = neq-eqb _ _ (λ e. absurd (omega (arith, kept, e))) in
            let sure : is_sure (kept_of o w) ≡ true = and_from _ _ below (ap not nonzero_kept) in
            Holding enters.some nonzero other (ap is_none is_named)
            (ap (option_map (λ p. (p, accept.1))) is_named
            ∙ ap Some (ap (λ v. (p', v)) (sym is) ∙ sym (sure-choice s rest p k o w (first rules (suc k) s rest) sure)))
      ]

  symbol : (are : TablesAre rules n t) (c : Configuration) (k p : ℕ) (s : Before) (last : Option (ℕ × ℕ)) (named : Option ℕ) (rest : List ℕ) (at d q o w : ℕ)
      → Stepping c k p s last named rest at d → goes_on rules t plan relation c at q d o w ≡ true → Outcome q k s last named rest (choice s rest p k o w)
  symbol are c k p s last named rest at zero q o w now h = absurd (now.began (verdict-decided rules s 0 rest))
  symbol are c k p s last named rest at (suc d) q o w now h =
      elim (goes rules t plan relation c at q d o w h) [
        | inl stops ↦ symbol-stops c k p s last named rest at (suc d) q o w now stops
        | inr enters ↦ symbol-enters are c k p s last named rest at (suc d) q o w now enters
      ]

  -- ---- the end, at a configuration

  end-wanted : (b newest : Bool) (v k p : ℕ) (s : Before)
      → (end_at (if b then 4 else 3) p k, if b then rules.at_end else v) ≡ (if b then (if newest then first rules k s [] else later rules k s []) else (p, v))
  unfolding first later
  end-wanted true true v k p s = refl
  end-wanted true false v k p s = refl
  end-wanted false newest v k p s = refl

  abbrev end_or_older : Bool → ℕ
  end_or_older b = if b then 4 else 3

  end-place : (b : Bool) → (end_or_older b ≡ 3) ⊎ (end_or_older b ≡ 4)
  end-place true = inr refl
  end-place false = inl refl

  -- what is decided at the end, by its number
  at-end : (s : Before) (i : ℕ) → Reads rules n t i → verdict rules s (due_of t i) [] ≡ decided (due_of t (read_at_end i))
  unfolding verdict
  at-end s i reads = ap decided (reads 0 false (omega arith))

  ended : (fuel : ℕ) (q : ℕ) (c : Configuration) (k p : ℕ) (s : Before) (last : Option (ℕ × ℕ)) (named : Option ℕ) → 2 ≤ fuel → (q == 0) ≡ false
      → Passed q c → Holds rules t c k p s last named [] → zeros plan fuel k q last named ≡ Some (expected rules t c k p s [])
  ended fuel q c k p s last named enough begun pass holds =
      let d = read_at_end c.doubt in
      let o = read_at_end c.older in
      let well : ends_well rules t plan relation q c d o ≡ true = elim (or_cases (q == 0 && c.last == 0) _ pass.ends) [
        | inl start ↦ both-ways (q == 0) (and_parts (q == 0) (c.last == 0) start).0 begun
        | inr well ↦ well
      ] in
      elim (or_cases (d == 0) _ well) [
        | inl none ↦ absurd (holds.began (at-end s c.doubt pass.doubts ∙ ap (λ i. decided (due_of t i)) (eqb-true d 0 none)))
        | inr rest ↦
            let parts = and_parts (nat_lt o 3) _ rest in
            let old : verdict rules s (due_of t c.older) [] ≡ o = at-end s c.older pass.olders ∙ ap decided (cond-true _ _ _ parts.0) in
            ends-pick plan 2 fuel q (end_place o c.last) c.status (end_place o c.named) (if o == 0 then 4 else 3) (if o == 0 then rules.at_end else o - 1) k p last named
            parts.1 enough (end-place (o == 0)) (stands-end o c.last p k _ holds.pick) holds.status (stands-end o c.named p k named holds.names)
            ∙ ap Some (end-wanted (o == 0) c.newest (o - 1) k p s
            ∙ ap (λ v. if v == 0 then (if c.newest then first rules k s [] else later rules k s []) else (p, v - 1)) (sym old))
      ]

  -- ---- along a scan

  newest-due : (are : TablesAre rules n t) (c : Configuration) (b : Bool) (s : Before) → c.before < length t.befores → s ≡ get no_before t.befores c.before
      → (if b then owed rules s else DueOf [] 0) ≡ due_of t (if b then get 0 t.owes c.before else 0)
  newest-due are c true s within is = ap (owed rules) is ∙ are.owes c.before within
  newest-due are c false s within is = refl

  pub record Checked : Type 0 where
    pub are : TablesAre rules n t
    pub passes : (q : ℕ) (c : Configuration) → c.before < length t.befores → known rules t plan relation q c ≡ true → Passed q c

  -- before a symbol
  stepping : (checked : Checked) (q : ℕ) (c : Configuration) (k p : ℕ) (s : Before) (last : Option (ℕ × ℕ)) (named : Option ℕ) (j : ℕ) (rest : List ℕ)
      → j < n → Passed q c → Holds rules t c k p s last named (suc j ∷ rest)
      → Stepping c k p (moves_on rules s (suc j)) last named rest (get 0 (get [] t.moves c.before) j) (after c c.doubt j)
  stepping checked q c k p s last named j rest below pass holds =
      let glues : s.glues ≡ glues_at c = ap (λ (s : Before). s.glues) holds.state in
      let due_d : due_after rules s.glues (suc j) (due_of t c.doubt) ≡ due_of t (after c c.doubt j) =
      ap (λ g. due_after rules g (suc j) (due_of t c.doubt)) glues ∙ pass.doubts (suc j) (glues_at c) (omega (arith, below)) in
      record {
        within = checked.are.within c.before j;
        state = ap (λ s. moves_on rules s (suc j)) holds.state ∙ checked.are.moves c.before j holds.within below;
        began = λ e. holds.began (verdict-step rules s (due_of t c.doubt) (suc j) rest ∙ ap (λ d. verdict rules (moves_on rules s (suc j)) d rest) due_d ∙ e);
        pick = holds.pick;
        status = holds.status;
        names = holds.names;
      }

  -- what is wanted before a symbol is the choice after it
  chosen-after : (checked : Checked) (q : ℕ) (c : Configuration) (k p : ℕ) (s : Before) (last : Option (ℕ × ℕ)) (named : Option ℕ) (j : ℕ) (rest : List ℕ)
      → j < n → Passed q c → Holds rules t c k p s last named (suc j ∷ rest)
      → expected rules t c k p s (suc j ∷ rest) ≡ choice (moves_on rules s (suc j)) rest p k (after c c.older j) (after c (newest_of c) j)
  chosen-after checked q c k p s last named j rest below pass holds =
      let glues : s.glues ≡ glues_at c = ap (λ (s : Before). s.glues) holds.state in
      wanted-step rules (due_of t c.older) (due_of t (after c c.older j)) (due_of t (after c (newest_of c) j)) c.newest k p s (suc j) rest
      (ap (λ g. due_after rules g (suc j) (due_of t c.older)) glues ∙ pass.olders (suc j) (glues_at c) (omega (arith, below)))
      (ap₂ (λ g d. due_after rules g (suc j) d) glues (newest-due checked.are c c.newest s holds.within holds.state) ∙ pass.newests (suc j) (glues_at c) (omega (arith, below)))

  not-empty : {X : Type 0} (x : ℕ) (rest : List ℕ) → x ∷ rest ≡ [] → X
  not-empty x rest h = cc

  -- from what the relation has, a scan ends with the first boundary
  walk : (checked : Checked) (fuel : ℕ) → 2 ≤ fuel → (rest : List ℕ) (q : ℕ) (c : Configuration) (k p : ℕ) (s : Before) (last : Option (ℕ × ℕ)) (named : Option ℕ)
      → Symbols n rest → (rest ≡ [] → (q == 0) ≡ false) → known rules t plan relation q c ≡ true → Holds rules t c k p s last named rest
      → finish plan fuel k q last named rest ≡ Some (expected rules t c k p s rest)
  unfolding finish
  walk checked fuel enough [] q c k p s last named symbols begun knows holds =
      ended fuel q c k p s last named enough (begun refl) (checked.passes q c holds.within knows) holds
  walk checked fuel enough (zero ∷ rest) q c k p s last named symbols begun knows holds = let some = symbols.0.0 in absurd (omega (arith, some))
  walk checked fuel enough (suc j ∷ rest) q c k p s last named symbols begun knows holds =
      let most = symbols.0.1 in
      let below : j < n = omega (arith, most) in
      let pass = checked.passes q c holds.within knows in
      let now = stepping checked q c k p s last named j rest below pass holds in
      let same = ap Some (sym (chosen-after checked q c k p s last named j rest below pass holds)) in
      elim (symbol checked.are c k p (moves_on rules s (suc j)) last named rest (get 0 (get [] t.moves c.before) j) (after c c.doubt j) (next_of plan q (suc j))
      (after c c.older j) (after c (newest_of c) j) now (pass.goes j below)) [
        | Ends none is ↦ cond-true _ _ _ none ∙ is ∙ same
        | Holding some off other naming is ↦ cond-false _ _ _ some ∙ cond-false _ _ _ off ∙ cond-false _ _ _ other ∙ cond-false _ _ _ naming ∙ is ∙ same
        | Going some on again d r knows2 holds2 is ↦
            let further = walk checked fuel enough rest (next_of plan q (suc j)) d (suc k) r (moves_on rules s (suc j)) last named symbols.1 (λ e. again) knows2 holds2 in
            cond-false _ _ _ some ∙ elim on [
              | inl passing ↦ cond-true _ _ _ passing ∙ further ∙ ap Some (sym is) ∙ same
              | inr (off, (other, none)) ↦
                  cond-false _ _ _ off ∙ cond-false _ _ _ other ∙ cond-true _ _ _ none ∙ further ∙ ap Some (sym is) ∙ same
            ]
        | Accepting some one again d r knows2 holds2 is ↦
            let further = walk checked fuel enough rest (next_of plan q (suc j)) d (suc k) r (moves_on rules s (suc j)) _ _ symbols.1 (λ e. again) knows2 holds2 in
            let off : ((accept_of plan (next_of plan q (suc j))).0 == 0) ≡ false = ap (λ m. m == 0) one in
            cond-false _ _ _ some ∙ cond-false _ _ _ off ∙ cond-true _ _ _ (eq-eqb _ _ one) ∙ further ∙ ap Some (sym is) ∙ same
      ]

  -- ---- from a boundary on

  starts-at : (os : List ℕ) (from i : ℕ) → starts_hold rules t plan relation from os ≡ true → i < length os
      → (get 0 os i == 0 || known rules t plan relation 0 (start_of rules t plan relation (from + i) (get 0 os i))) ≡ true
  unfolding starts_hold get
  starts-at [] from i h below = absurd (omega (arith, below))
  starts-at (o ∷ os) from zero h below =
      let same : from ≡ from + zero = omega arith in
      ap (λ m. o == 0 || known rules t plan relation 0 (start_of rules t plan relation m o)) (sym same)
      ∙ (and_parts (o == 0 || known rules t plan relation 0 (start_of rules t plan relation from o)) _ h).0
  starts-at (o ∷ os) from (suc i) h below =
      let same : suc from + i ≡ from + suc i = omega arith in
      ap (λ m. get 0 os i == 0 || known rules t plan relation 0 (start_of rules t plan relation m (get 0 os i))) (sym same)
      ∙ starts-at os (suc from) i (and_parts (o == 0 || known rules t plan relation 0 (start_of rules t plan relation from o)) _ h).1 (omega (arith, below))

  -- what stands before a place has a number
  before-at : (are : TablesAre rules n t) (past : List ℕ) → Symbols n past → (i : ℕ) × ((i < length t.befores) × (before rules past ≡ get no_before t.befores i))
  unfolding before
  before-at are [] symbols = (0, (are.some, are.start))
  before-at are (zero ∷ past) symbols = let some = symbols.0.0 in absurd (omega (arith, some))
  before-at are (suc j ∷ past) symbols =
      let (i, (within, is)) = before-at are past symbols.1 in
      let most = symbols.0.1 in
      (get 0 (get [] t.moves i) j, (are.within i j, ap (λ s. moves_on rules s (suc j)) is ∙ are.moves i j within (omega (arith, most))))

  -- the scan of a rest that begins at a boundary
  scan : (checked : Checked) (fuel : ℕ) → 2 ≤ fuel → (past : List ℕ) (i o x : ℕ) (rest : List ℕ) → Symbols n (x ∷ rest) → i < length t.befores
      → before rules past ≡ get no_before t.befores i → verdict rules (before rules past) (due_of t o) (x ∷ rest) ≢ 0
      → known rules t plan relation 0 (start_of rules t plan relation i o) ≡ true
      → finish plan fuel 0 0 None None (x ∷ rest) ≡ Some (first rules 1 (moves_on rules (before rules past) x) rest)
  unfolding later
  scan checked fuel enough past i o x rest symbols within is began knows =
      walk checked fuel enough (x ∷ rest) 0 (start_of rules t plan relation i o) 0 0 (before rules past) None None symbols (λ e. not-empty x rest e) knows
      (record { within = within; state = is; began = began; pick = Nowhere refl refl; status = λ f is. status-none 0 f is; names = Nowhere refl refl })
      ∙ ap (λ v. Some (if v == 0 then first rules 1 (moves_on rules (before rules past) x) rest else (0, v - 1))) (verdict-decided rules (before rules past) 0 (x ∷ rest))

  -- a scan may begin at the start, and wherever there may be a boundary
  pub record BeginsRight : Type 0 where
    pub start : known rules t plan relation 0 (start_of rules t plan relation 0 1) ≡ true
    pub boundaries : (i : ℕ) → i < length t.owes → (get 0 t.owes i == 0 || known rules t plan relation 0 (start_of rules t plan relation i (get 0 t.owes i))) ≡ true

  -- from each boundary on, and from the start, the pick is the first boundary after it, where the end is read twice or more
  pub boundary-scan : (checked : Checked) → BeginsRight → (fuel : ℕ) → 2 ≤ fuel → (past : List ℕ) (x : ℕ) (rest : List ℕ)
      → Symbols n past → Symbols n (x ∷ rest) → has_boundary rules past (x ∷ rest) ≡ true
      → finish plan fuel 0 0 None None (x ∷ rest) ≡ Some (first rules 1 (moves_on rules (before rules past) x) rest)
  unfolding before
  boundary-scan checked begins fuel enough [] x rest befores symbols breaks =
      let one = verdict-decided rules (at_start rules) 1 (x ∷ rest) in
      scan checked fuel enough [] 0 1 x rest symbols checked.are.some checked.are.start (λ e. absurd (omega (arith, one, e))) begins.start
  boundary-scan checked begins fuel enough (y ∷ past) x rest befores symbols breaks =
      let (i, (within, is)) = before-at checked.are (y ∷ past) befores in
      let s = before rules (y ∷ past) in
      let o = get 0 t.owes i in
      let owes : owed rules s ≡ due_of t o = ap (owed rules) is ∙ checked.are.owes i within in
      let value = ap (λ d. verdict rules s d (x ∷ rest)) owes in
      let breaks_here : (verdict rules s (owed rules s) (x ∷ rest) == 0) ≡ false = not-false _ breaks in
      let many = checked.are.owes_many in
      let began : verdict rules s (due_of t o) (x ∷ rest) ≢ 0 = λ e. both-ways _ (eq-eqb _ _ (value ∙ e)) breaks_here in
      elim (or_cases (o == 0) _ (begins.boundaries i (omega (arith, many, within)))) [
        | inl none ↦ absurd (began (none-owed s o (x ∷ rest) none))
        | inr knows ↦ scan checked fuel enough (y ∷ past) i o x rest symbols within is began knows
      ]

  begins-by : scans_hold rules t plan relation ≡ true → BeginsRight
  begins-by scans =
      let parts = and_parts (known rules t plan relation 0 (start_of rules t plan relation 0 1)) _ scans in
      let starts = and_parts (starts_hold rules t plan relation 0 t.owes) _ parts.1 in
      record {
        start = parts.0;
        boundaries = λ i below.
            let from : 0 + i ≡ i = omega arith in
            ap (λ m. get 0 t.owes i == 0 || known rules t plan relation 0 (start_of rules t plan relation m (get 0 t.owes i))) (sym from) ∙ starts-at t.owes 0 i starts.0 below;
      }

  checked-by : 0 < n → tables_hold rules n t ≡ true → scans_hold rules t plan relation ≡ true → Checked
  checked-by some tables scans =
      let are = tables-are rules n t tables in
      let parts = and_parts (known rules t plan relation 0 (start_of rules t plan relation 0 1)) _ scans in
      let related = (and_parts (starts_hold rules t plan relation 0 t.owes) _ parts.1).1 in
      record {
        are = are;
        passes = λ q c within knows.
            let from : 0 + q ≡ q = omega arith in
            passed are q c some within
            (configs-at rules t plan relation q (get [] relation q) c
            (subst (λ m. configurations_hold rules t plan relation m (get [] relation q) ≡ true) from (group-at rules t plan relation relation 0 q related)) knows);
      }

  -- from each boundary on, and from the start, the pick is the first boundary after it, where the end is read twice or more
  pub restart : tables_hold rules n t ≡ true → scans_hold rules t plan relation ≡ true → (fuel : ℕ) → 2 ≤ fuel
      → (past : List ℕ) (x : ℕ) (rest : List ℕ) → Symbols n past → Symbols n (x ∷ rest)
      → has_boundary rules past (x ∷ rest) ≡ true
      → finish plan fuel 0 0 None None (x ∷ rest) ≡ Some (first rules 1 (moves_on rules (before rules past) x) rest)
  restart tables scans fuel enough past x rest past_symbols symbols breaks =
      let low = symbols.0.0 in
      let high = symbols.0.1 in
      boundary-scan (checked-by (omega (arith, low, high)) tables scans) (begins-by scans) fuel enough past x rest past_symbols symbols breaks
