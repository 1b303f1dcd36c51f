-- The machine and the rules as folds over the symbols that come, and what a configuration of the relation says of a scan.
use Rattle.std.specs.Prelude.{◌≡◌, ◌≢◌, ℕ, zero, suc, ◌+◌, ◌-◌, ◌<◌, Bool, true, false, ◌||◌, ◌==◌, if◌then◌else◌, Option, Some, None, List, [], ◌∷◌, length, ◌⊎◌}
use Rattle.std.specs.Option.{option_map, is_none}
use Rattle.std.specs.Bool.{beq}
use Rattle.std.proofs.Common.{arith, refl, sym, ap, ◌∙◌, inl, inr, eqb-true, subst}
use Rattle.std.proofs.lemmas.Bool.{and_parts, cond-false}
use Rattle.seg_rules.specs.RowRules.{RowRules, Before, Due, DueOf, moves_on, owed, due_after, read, read_all, verdict}
use Rattle.seg_rules.specs.Places.{next_of, accept_of}
use Rattle.seg_rules.proofs.TableLemmas.{due_of}
use Rattle.seg_rules.specs.declared.certificate.Configuration.{Configuration}
use Rattle.seg_rules.specs.Check.{Plan, Tables, get, no_before, relation_holds, configurations_hold, configuration_holds, among, same_configuration}

-- ---- the machine, on symbols: the pick of a scan, after k symbols in a state

-- from a state on, the end again and again, at most so often
unfoldable pub zeros : Plan → ℕ → ℕ → ℕ → Option (ℕ × ℕ) → Option ℕ → Option (ℕ × ℕ)
zeros plan zero k q last named = last
zeros plan (suc fuel) k q last named =
    let next = next_of plan q 0 in
    let accept = accept_of plan next in
    if next == 255
    then last
    else (if accept.0 == 0
    then zeros plan fuel k next last named
    else (if accept.0 == 1
    then zeros plan fuel k next (Some (k, accept.1)) (if accept.2 then Some k else named)
    else (if is_none named then zeros plan fuel k next last named else option_map (λ p. (p, accept.1)) named)))

unfoldable pub finish : Plan → ℕ → ℕ → ℕ → Option (ℕ × ℕ) → Option ℕ → List ℕ → Option (ℕ × ℕ)
finish plan fuel k q last named [] = zeros plan fuel k q last named
finish plan fuel k q last named (x ∷ rest) =
    let next = next_of plan q x in
    let accept = accept_of plan next in
    if next == 255
    then last
    else (if accept.0 == 0
    then finish plan fuel (suc k) next last named rest
    else (if accept.0 == 1
    then finish plan fuel (suc k) next (Some (suc k, accept.1)) (if accept.2 then Some (suc k) else named) rest
    else (if is_none named then finish plan fuel (suc k) next last named rest else option_map (λ p. (p, accept.1)) named)))

-- ---- the rules: of the place after k symbols and those after it, the first boundary and its status; the end is one

unfoldable pub first : RowRules → ℕ → Before → List ℕ → ℕ × ℕ
first rules k s [] = (k, rules.at_end)
first rules k s (x ∷ rest) =
    let here = verdict rules s (owed rules s) (x ∷ rest) in
    if here == 0 then first rules (suc k) (moves_on rules s x) rest else (k, here - 1)

unfoldable pub later : RowRules → ℕ → Before → List ℕ → ℕ × ℕ
later rules k s [] = (k, rules.at_end)
later rules k s (x ∷ rest) = first rules (suc k) (moves_on rules s x) rest

-- ---- the invariant

-- a place of a configuration, where the older one is p and the newest k
pub data Stands (place p k : ℕ) (found : Option ℕ) : Type 0 where
  Nowhere : place ≡ 0 → found ≡ None → Stands place p k found
  Elsewhere : (n : ℕ) → place ≡ 1 → found ≡ Some n → Stands place p k found
  Newest : place ≡ 2 → found ≡ Some k → Stands place p k found
  Older : place ≡ 3 → found ≡ Some p → Stands place p k found

-- what a configuration says of a scan, k symbols after a boundary, of the symbols that are left
pub record Holds (rules : RowRules) (t : Tables) (c : Configuration) (k p : ℕ) (s : Before) (last : Option (ℕ × ℕ)) (named : Option ℕ)
    (rest : List ℕ) : Type 0 where
  pub within : c.before < length t.befores
  pub state : s ≡ get no_before t.befores c.before
  -- the scan began at a boundary
  pub began : verdict rules s (due_of t c.doubt) rest ≢ 0
  pub pick : Stands c.last p k (option_map (λ f. f.0) last)
  pub status : (f : ℕ × ℕ) → last ≡ Some f → f.1 ≡ c.status
  pub names : Stands c.named p k named

-- what the scan has to pick then
abbrev pub expected : RowRules → Tables → Configuration → ℕ → ℕ → Before → List ℕ → ℕ × ℕ
expected rules t c k p s rest =
    let old = verdict rules s (due_of t c.older) rest in
    if old == 0 then (if c.newest then first rules k s rest else later rules k s rest) else (p, old - 1)

-- ---- lemmas

-- one symbol
pub verdict-step : (rules : RowRules) (s : Before) (d : Due) (x : ℕ) (rest : List ℕ)
    → verdict rules s d (x ∷ rest) ≡ verdict rules (moves_on rules s x) (due_after rules s.glues x d) rest
unfolding verdict
verdict-step rules s d x rest = refl

pub bool-cases : (b : Bool) → (b ≡ true) ⊎ (b ≡ false)
bool-cases true = inl refl
bool-cases false = inr refl

same-flag : (a b : Bool) → beq a b ≡ true → a ≡ b
same-flag true true h = refl
same-flag false false h = refl
same-flag true false h = let no : false ≡ true = h in cc
same-flag false true h = let no : false ≡ true = h in cc

pub same-config : (c d : Configuration) → same_configuration c d ≡ true → d ≡ c
same-config c d h =
    let one = and_parts _ _ h in
    let two = and_parts _ _ one.1 in
    let three = and_parts _ _ two.1 in
    let four = and_parts _ _ three.1 in
    let five = and_parts _ _ four.1 in
    let six = and_parts _ _ five.1 in
    let p1 = sym (eqb-true _ _ one.0) in
    let p2 = sym (eqb-true _ _ two.0) in
    let p3 = sym (eqb-true _ _ three.0) in
    let p4 = sym (same-flag _ _ four.0) in
    let p5 = sym (eqb-true _ _ five.0) in
    let p6 = sym (eqb-true _ _ six.0) in
    let p7 = sym (eqb-true _ _ six.1) in
    λ i. record { before = p1 i; doubt = p2 i; older = p3 i; newest = p4 i; last = p5 i; status = p6 i; named = p7 i }

-- a configuration of the relation passes
pub configs-at : (rules : RowRules) (t : Tables) (plan : Plan) (relation : List (List Configuration)) (q : ℕ) (cs : List Configuration) (c : Configuration)
    → configurations_hold rules t plan relation q cs ≡ true → among c cs ≡ true → configuration_holds rules t plan relation q c ≡ true
unfolding configurations_hold among
configs-at rules t plan relation q [] c h at = let no : false ≡ true = at in cc
configs-at rules t plan relation q (d ∷ cs) c h at =
    let parts = and_parts (configuration_holds rules t plan relation q d) (configurations_hold rules t plan relation q cs) h in
    elim (bool-cases (same_configuration c d)) [
      | inl same ↦ subst (λ e. configuration_holds rules t plan relation q e ≡ true) (same-config c d same) parts.0
      | inr other ↦ configs-at rules t plan relation q cs c parts.1 (sym (ap (λ b. b || among c cs) other) ∙ at)
    ]

pub group-at : (rules : RowRules) (t : Tables) (plan : Plan) (relation rest : List (List Configuration)) (from q : ℕ)
    → relation_holds rules t plan relation from rest ≡ true → configurations_hold rules t plan relation (from + q) (get [] rest q) ≡ true
unfolding relation_holds get configurations_hold
group-at rules t plan relation [] from q h = refl
group-at rules t plan relation (cs ∷ rest) from zero h =
    let same : from ≡ from + zero = omega arith in
    subst (λ n. configurations_hold rules t plan relation n cs ≡ true) same (and_parts (configurations_hold rules t plan relation from cs) _ h).0
group-at rules t plan relation (cs ∷ rest) from (suc q) h =
    let same : suc from + q ≡ from + suc q = omega arith in
    subst (λ n. configurations_hold rules t plan relation n (get [] rest q) ≡ true) same
    (group-at rules t plan relation rest (suc from) q (and_parts (configurations_hold rules t plan relation from cs) _ h).1)

-- what is decided stays so
pub verdict-decided : (rules : RowRules) (s : Before) (n : ℕ) (rest : List ℕ) → verdict rules s (DueOf [] n) rest ≡ n
unfolding verdict read read_all
verdict-decided rules s n [] = refl
verdict-decided rules s n (x ∷ rest) = verdict-decided rules (moves_on rules s x) n rest

-- where nothing is owed to the newest place, the first boundary comes later
pub first-later : (rules : RowRules) (k : ℕ) (s : Before) (rest : List ℕ) → owed rules s ≡ DueOf [] 0 → first rules k s rest ≡ later rules k s rest
unfolding first later
first-later rules k s [] none = refl
first-later rules k s (x ∷ rest) none =
    let zero-here : verdict rules s (owed rules s) (x ∷ rest) ≡ 0 = ap (λ d. verdict rules s d (x ∷ rest)) none ∙ verdict-decided rules s 0 (x ∷ rest) in
    rw zero-here

pub neq-eqb : (a b : ℕ) → a ≢ b → (a == b) ≡ false
neq-eqb a b apart =
    elim (bool-cases (a == b)) [
      | inl same ↦ absurd (apart (eqb-true a b same))
      | inr other ↦ other
    ]

-- the older place, the newest, or one after it
abbrev pub choose : ℕ → ℕ → ℕ → ℕ → ℕ × ℕ → ℕ × ℕ
choose p a k b after = if a == 0 then (if b == 0 then after else (k, b - 1)) else (p, a - 1)

abbrev pub wanted : RowRules → Due → Bool → ℕ → ℕ → Before → List ℕ → ℕ × ℕ
wanted rules older newest k p s rest =
    let old = verdict rules s older rest in
    if old == 0 then (if newest then first rules k s rest else later rules k s rest) else (p, old - 1)

-- what is wanted before a symbol, by what is owed after it
pub wanted-step : (rules : RowRules) (older o w : Due) (newest : Bool) (k p : ℕ) (s : Before) (x : ℕ) (rest : List ℕ)
    → due_after rules s.glues x older ≡ o
    → due_after rules s.glues x (if newest then owed rules s else DueOf [] 0) ≡ w
    → wanted rules older newest k p s (x ∷ rest)
    ≡ choose p (verdict rules (moves_on rules s x) o rest) k (verdict rules (moves_on rules s x) w rest) (first rules (suc k) (moves_on rules s x) rest)
unfolding verdict first later
wanted-step rules older o w true k p s x rest ho hw =
    λ i. choose p (verdict rules (moves_on rules s x) (ho i) rest) k (verdict rules (moves_on rules s x) (hw i) rest) (first rules (suc k) (moves_on rules s x) rest)
wanted-step rules older o w false k p s x rest ho hw =
    let nothing : 0 ≡ verdict rules (moves_on rules s x) w rest =
    sym (verdict-decided rules s 0 (x ∷ rest)) ∙ ap (λ d. verdict rules (moves_on rules s x) d rest) hw in
    λ i. choose p (verdict rules (moves_on rules s x) (ho i) rest) k (nothing i) (first rules (suc k) (moves_on rules s x) rest)

-- where nothing older is owed, and the newest place is kept as the older one
pub wanted-newest : (rules : RowRules) (w : Due) (newest : Bool) (k : ℕ) (s : Before) (rest : List ℕ) (p : ℕ)
    → (newest ≡ false → (owed rules s ≡ DueOf [] 0) ⊎ (verdict rules s w rest ≢ 0))
    → choose p 0 k (verdict rules s w rest) (first rules (suc k) s rest) ≡ wanted rules w newest (suc k) k s rest
wanted-newest rules w true k s rest p h = refl
wanted-newest rules w false k s rest p h =
    elim (h refl) [
      | inl none ↦ ap (λ after. if verdict rules s w rest == 0 then after else (k, verdict rules s w rest - 1)) (first-later rules (suc k) s rest none)
      | inr some ↦
          let no : (verdict rules s w rest == 0) ≡ false = neq-eqb _ _ some in
          cond-false _ _ _ no ∙ sym (cond-false _ _ _ no)
    ]

-- where the older one is kept, and nothing is owed to the newest, or the older one is sure
pub wanted-older : (rules : RowRules) (o : Due) (newest : Bool) (k p b : ℕ) (s : Before) (rest : List ℕ)
    → (b ≡ 0) ⊎ (verdict rules s o rest ≢ 0)
    → (newest ≡ false → (owed rules s ≡ DueOf [] 0) ⊎ (verdict rules s o rest ≢ 0))
    → choose p (verdict rules s o rest) k b (first rules (suc k) s rest) ≡ wanted rules o newest (suc k) p s rest
wanted-older rules o newest k p b s rest (inr some) h =
    let no : (verdict rules s o rest == 0) ≡ false = neq-eqb _ _ some in
    cond-false _ _ _ no ∙ sym (cond-false _ _ _ no)
wanted-older rules o true k p b s rest (inl none) h =
    ap (λ b. choose p (verdict rules s o rest) k b (first rules (suc k) s rest)) none
wanted-older rules o false k p b s rest (inl none) h =
    ap (λ b. choose p (verdict rules s o rest) k b (first rules (suc k) s rest)) none
    ∙ elim (h refl) [
      | inl nothing ↦ ap (λ after. if verdict rules s o rest == 0 then after else (p, verdict rules s o rest - 1)) (first-later rules (suc k) s rest nothing)
      | inr some ↦
          let no : (verdict rules s o rest == 0) ≡ false = neq-eqb _ _ some in
          cond-false _ _ _ no ∙ sym (cond-false _ _ _ no)
    ]
