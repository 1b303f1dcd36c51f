-- The law at one place: a boundary with a status stands after some code points just where the rules' verdict there is that status.
use Rattle.std.specs.Prelude.{◌≡◌, ℕ, zero, suc, ◌+◌, ◌-◌, ◌<◌, Bool, true, false, ◌==◌, if◌then◌else◌, List, [], ◌∷◌, ◌++◌, length, reverse, Contains, ◌⊎◌, ◌↔◌}
use Rattle.std.proofs.Common.{arith, refl, sym, ap, ap₂, ◌∙◌, inl, inr, subst, append_assoc, append-nil, eqb-true}
use Rattle.std.proofs.lemmas.Bool.{cond-false, eqb-false}
use Rattle.std.proofs.lemmas.List.{map-append, length-map, reverse-append}
use Rattle.seg_text.specs.declared.boundary.Boundary.{Boundary}
use Rattle.seg_text.specs.Boundaries.{boundary, start}
use Rattle.seg_machine.specs.Machine.{Machine, symbol_and_script, symbols_of}
use Rattle.seg_machine.specs.MachineFaults.{IsChecked}
use Rattle.seg_machine.specs.Pick.{machine_boundaries}
use Rattle.seg_rules.specs.RowRules.{RowRules}
use Rattle.seg_rules.specs.declared.certificate.Configuration.{Configuration}
use Rattle.seg_rules.specs.Check.{Plan, Tables}
use Rattle.seg_rules.specs.Places.{Passes}
use Rattle.seg_rules.specs.Plain.{plain_verdict, plain_places}
use Rattle.seg_rules.proofs.Soundness.{bool-cases}
use Rattle.seg_rules.proofs.Law.{checked-law}

-- one of the boundaries
abbrev Has : List Boundary → Boundary → Type 0
Has [] b = ⊥
Has (found ∷ others) b = (found ≡ b) ⊎ Has others b

has-if : (here : Bool) (found : Boundary) (others : List Boundary) (b : Boundary) → Has (if here then others else found ∷ others) b
    → ((here ≡ false) × (found ≡ b)) ⊎ Has others b
has-if true found others b has = inr has
has-if false found others b (inl is) = inl (refl, is)
has-if false found others b (inr has) = inr has

if-has : (here : Bool) (found : Boundary) (others : List Boundary) (b : Boundary) → Has others b → Has (if here then others else found ∷ others) b
if-has true found others b has = has
if-has false found others b has = inr has

-- boundaries come after what they are counted from
above : (rules : RowRules) (k : ℕ) (past rest : List ℕ) (b : Boundary) → Has (plain_places rules k past rest) b → k < b.offset
unfolding plain_places
above rules k past [] b has = absurd has
above rules k past (x ∷ rest) b has =
    let here = plain_verdict rules (x ∷ past) rest in
    elim (has-if (here == 0) (boundary (suc k) (here - 1)) (plain_places rules (suc k) (x ∷ past) rest) b has) [
      | inl (some, is) ↦ let offset = ap (λ (f : Boundary). f.offset) is in omega (arith, offset)
      | inr later ↦ let over = above rules (suc k) (x ∷ past) rest b later in omega (arith, over)
    ]

turned : (x : ℕ) (xs past : List ℕ) → reverse (x ∷ xs) ++ past ≡ reverse xs ++ (x ∷ past)
turned x xs past = ap (λ all. all ++ past) (reverse-append (x ∷ []) xs) ∙ append_assoc (reverse xs) (x ∷ []) past

some-verdict : (v st : ℕ) → (v == 0) ≡ false → v - 1 ≡ st → v ≡ suc st
some-verdict zero st some is = absurd (eqb-false 0 0 some refl)
some-verdict (suc v) st some is = omega (arith, is)

says : (rules : RowRules) (x : ℕ) (xs ys past : List ℕ) (k st : ℕ)
    → Has (plain_places rules k past ((x ∷ xs) ++ ys)) (boundary (k + length (x ∷ xs)) st) → plain_verdict rules (reverse (x ∷ xs) ++ past) ys ≡ suc st
unfolding plain_places
says rules x [] ys past k st has =
    let here = plain_verdict rules (x ∷ past) ys in
    elim (has-if (here == 0) (boundary (suc k) (here - 1)) (plain_places rules (suc k) (x ∷ past) ys) (boundary (k + 1) st) has) [
      | inl (some, is) ↦ some-verdict here st some (ap (λ (f : Boundary). f.status) is)
      | inr later ↦ let over = above rules (suc k) (x ∷ past) ys (boundary (k + 1) st) later in absurd (omega (arith, over))
    ]
says rules x (y ∷ xs) ys past k st has =
    let place : k + length (x ∷ (y ∷ xs)) ≡ suc k + length (y ∷ xs) = omega arith in
    let rest = (y ∷ xs) ++ ys in
    let here = plain_verdict rules (x ∷ past) rest in
    elim (has-if (here == 0) (boundary (suc k) (here - 1)) (plain_places rules (suc k) (x ∷ past) rest) (boundary (k + length (x ∷ (y ∷ xs))) st) has) [
      | inl (some, is) ↦ let offset = ap (λ (f : Boundary). f.offset) is in absurd (omega (arith, offset))
      | inr later ↦
          ap (λ all. plain_verdict rules all ys) (turned x (y ∷ xs) past)
          ∙ says rules y xs ys (x ∷ past) (suc k) st
          (subst (λ o. Has (plain_places rules (suc k) (x ∷ past) ((y ∷ xs) ++ ys)) (boundary o st)) place later)
    ]

stands : (rules : RowRules) (x : ℕ) (xs ys past : List ℕ) (k st : ℕ)
    → plain_verdict rules (reverse (x ∷ xs) ++ past) ys ≡ suc st → Has (plain_places rules k past ((x ∷ xs) ++ ys)) (boundary (k + length (x ∷ xs)) st)
unfolding plain_places
stands rules x [] ys past k st is =
    let here = plain_verdict rules (x ∷ past) ys in
    let further = plain_places rules (suc k) (x ∷ past) ys in
    let offset : suc k ≡ k + 1 = omega arith in
    let status : here - 1 ≡ st = omega (arith, is) in
    elim (bool-cases (here == 0)) [
      | inl none ↦ let zero_here = eqb-true here 0 none in absurd (omega (arith, is, zero_here))
      | inr some ↦
          subst (λ all. Has all (boundary (k + 1) st)) (sym (cond-false (here == 0) further (boundary (suc k) (here - 1) ∷ further) some))
          (inl (ap₂ boundary offset status))
    ]
stands rules x (y ∷ xs) ys past k st is =
    let place : suc k + length (y ∷ xs) ≡ k + length (x ∷ (y ∷ xs)) = omega arith in
    let rest = (y ∷ xs) ++ ys in
    let here = plain_verdict rules (x ∷ past) rest in
    if-has (here == 0) (boundary (suc k) (here - 1)) (plain_places rules (suc k) (x ∷ past) rest) (boundary (k + length (x ∷ (y ∷ xs))) st)
    (subst (λ o. Has (plain_places rules (suc k) (x ∷ past) ((y ∷ xs) ++ ys)) (boundary o st)) place
    (stands rules y xs ys (x ∷ past) (suc k) st (sym (ap (λ all. plain_verdict rules all ys) (turned x (y ∷ xs) past)) ∙ is)))

has-contains : (found : List Boundary) (b : Boundary) → Has found b → Contains found b
has-contains [] b has = absurd has
has-contains (f ∷ found) b (inl is) = (0, omega arith, is)
has-contains (f ∷ found) b (inr later) =
    let (k, within, is) = has-contains found b later in
    (suc k, omega (arith, within), is)

contains-has : (found : List Boundary) (b : Boundary) → Contains found b → Has found b
contains-has [] b (k, within, is) = absurd (omega (arith, within))
contains-has (f ∷ found) b (zero, within, is) = inl is
contains-has (f ∷ found) b (suc k, within, is) = inr (contains-has found b (k, omega (arith, within), is))

module _ (rules : RowRules) (n : ℕ) (t : Tables) (plan : Plan) (relation : List (List Configuration)) (m : Machine)
    (passes : Passes rules n t relation plan m) (checked : IsChecked m) where
  abbrev symbol_of : ℕ → ℕ
  symbol_of c = (symbol_and_script m c).0

  split : (c : ℕ) (cs ds : List ℕ) → machine_boundaries m ((c ∷ cs) ++ ds) ≡ start ∷ plain_places rules 0 [] (symbols_of m (c ∷ cs) ++ symbols_of m ds)
  split c cs ds =
      checked-law rules n t plan relation m passes checked ((c ∷ cs) ++ ds)
      ∙ ap (λ xs. start ∷ plain_places rules 0 [] xs) (map-append symbol_of (c ∷ cs) ds)

  has-verdict : (c : ℕ) (cs ds : List ℕ) (st : ℕ) → Has (machine_boundaries m ((c ∷ cs) ++ ds)) (boundary (length (c ∷ cs)) st)
      → plain_verdict rules (reverse (symbols_of m (c ∷ cs))) (symbols_of m ds) ≡ suc st
  has-verdict c cs ds st has =
      let size : length (c ∷ cs) ≡ 0 + length (symbols_of m (c ∷ cs)) = omega (arith, length-map (c ∷ cs) symbol_of) in
      elim (subst (λ all. Has all (boundary (length (c ∷ cs)) st)) (split c cs ds) has) [
        | inl is ↦ let offset = ap (λ (f : Boundary). f.offset) is in absurd (omega (arith, offset))
        | inr later ↦
            ap (λ all. plain_verdict rules all (symbols_of m ds)) (sym (append-nil (reverse (symbols_of m (c ∷ cs)))))
            ∙ says rules (symbol_of c) (symbols_of m cs) (symbols_of m ds) [] 0 st
            (subst (λ o. Has (plain_places rules 0 [] (symbols_of m (c ∷ cs) ++ symbols_of m ds)) (boundary o st)) size later)
      ]

  verdict-has : (c : ℕ) (cs ds : List ℕ) (st : ℕ) → plain_verdict rules (reverse (symbols_of m (c ∷ cs))) (symbols_of m ds) ≡ suc st
      → Has (machine_boundaries m ((c ∷ cs) ++ ds)) (boundary (length (c ∷ cs)) st)
  verdict-has c cs ds st is =
      let size : 0 + length (symbols_of m (c ∷ cs)) ≡ length (c ∷ cs) = omega (arith, length-map (c ∷ cs) symbol_of) in
      subst (λ all. Has all (boundary (length (c ∷ cs)) st)) (sym (split c cs ds))
      (inr (subst (λ o. Has (plain_places rules 0 [] (symbols_of m (c ∷ cs) ++ symbols_of m ds)) (boundary o st)) size
      (stands rules (symbol_of c) (symbols_of m cs) (symbols_of m ds) [] 0 st
      (ap (λ all. plain_verdict rules all (symbols_of m ds)) (append-nil (reverse (symbols_of m (c ∷ cs)))) ∙ is))))

  -- Law: at a place after some code points and before others
  pub one-place : (cs ds : List ℕ) (st : ℕ) → 0 < length cs
      → Contains (machine_boundaries m (cs ++ ds)) (boundary (length cs) st) ↔ (plain_verdict rules (reverse (symbols_of m cs)) (symbols_of m ds) ≡ suc st)
  one-place [] ds st some = absurd (omega (arith, some))
  one-place (c ∷ cs) ds st some =
      let all = machine_boundaries m ((c ∷ cs) ++ ds) in
      let here = boundary (length (c ∷ cs)) st in
      (λ has. has-verdict c cs ds st (contains-has all here has), λ is. has-contains all here (verdict-has c cs ds st is))
