-- What the tables of a certificate have at a number.
use Rattle.std.specs.Prelude.{◌≡◌, ℕ, zero, suc, ◌-◌, ◌<◌, ◌≤◌, Bool, true, false, if◌then◌else◌, List, [], ◌∷◌, length, map, replicate, get_or}
use Rattle.std.proofs.Common.{arith, refl, sym, ap, ◌∙◌}
use Rattle.seg_rules.specs.declared.certificate.Certificate.{Certificate}
use Rattle.seg_rules.specs.declared.certificate.Due.{Due as GivenDue}
use Rattle.seg_rules.specs.RowRules.{RowRules}
use Rattle.seg_rules.specs.Check.{get}
use Rattle.seg_rules.specs.Given.{tables_of, verdict_reads}
use Rattle.seg_rules.specs.Planned.{read_at}
use Rattle.seg_rules.proofs.Claims.{get-mapped, get-mapped-past}

pub get-is : {X : Type 0} (e : X) (xs : List X) (i : ℕ) → get_or xs i e ≡ get e xs i
unfolding get
get-is e [] i = refl
get-is e (x ∷ xs) zero = refl
get-is e (x ∷ xs) (suc i) = get-is e xs i

pub get-past : {X : Type 0} (e : X) (xs : List X) (i : ℕ) → length xs ≤ i → get e xs i ≡ e
unfolding get
get-past e [] i past = refl
get-past e (x ∷ xs) zero past = absurd (omega (arith, past))
get-past e (x ∷ xs) (suc i) past = get-past e xs i (omega (arith, past))

-- of a pair, the number where a mark is glued or not
abbrev pub number_of : Bool → ℕ × ℕ → ℕ
number_of glues pair = if glues then pair.1 else pair.0

pub number-same : (glues : Bool) (number : ℕ) → number ≡ number_of glues (number, number)
number-same true number = refl
number-same false number = refl

pub glued-number : (glues : Bool) (pair : ℕ × ℕ) → glues ≡ true → pair.1 ≡ number_of glues pair
glued-number true pair is = refl
glued-number false pair is = let no : false ≡ true = is in cc

pub plain-number : (glues : Bool) (pair : ℕ × ℕ) → glues ≡ false → pair.0 ≡ number_of glues pair
plain-number true pair is = let no : true ≡ false = is in cc
plain-number false pair is = refl

get-replicate : {X : Type 0} (e : X) (many : ℕ) (x : X) (i : ℕ) → i < many → get e (replicate many x) i ≡ x
unfolding get
get-replicate e zero x i less = absurd (omega (arith, less))
get-replicate e (suc many) x zero less = refl
get-replicate e (suc many) x (suc i) less = get-replicate e many x i (omega (arith, less))

verdict-number : (n verdict : ℕ) (glues : Bool) (symbol : ℕ) → symbol < suc n → verdict ≡ number_of glues (get (0, 0) (verdict_reads n verdict) symbol)
verdict-number n verdict glues symbol small =
    number-same glues verdict ∙ ap (number_of glues) (sym (get-replicate (0, 0) (suc n) (verdict, verdict) symbol small))

-- a verdict stays what it is
pub read-verdict : (rules : RowRules) (n : ℕ) (certificate : Certificate) (number : ℕ) (glues : Bool) (symbol : ℕ) → number < 3 → symbol < suc n
    → number ≡ read_at (tables_of rules n certificate) number glues symbol
unfolding get
read-verdict rules n certificate zero glues symbol less small = verdict-number n 0 glues symbol small
read-verdict rules n certificate (suc zero) glues symbol less small = verdict-number n 1 glues symbol small
read-verdict rules n certificate (suc (suc zero)) glues symbol less small = verdict-number n 2 glues symbol small
read-verdict rules n certificate (suc (suc (suc number))) glues symbol less small = absurd (omega (arith, less))

abbrev pub reads_of : List GivenDue → List (List (ℕ × ℕ))
reads_of dues = map (λ d. d.reads.now) dues

-- another number has a table
pub reads-beyond : (rules : RowRules) (n : ℕ) (certificate : Certificate) (number : ℕ) → 3 ≤ number
    → get [] (tables_of rules n certificate).reads number ≡ get [] (reads_of certificate.dues.now) (number - 3)
unfolding get
reads-beyond rules n certificate zero past = absurd (omega (arith, past))
reads-beyond rules n certificate (suc zero) past = absurd (omega (arith, past))
reads-beyond rules n certificate (suc (suc zero)) past = absurd (omega (arith, past))
reads-beyond rules n certificate (suc (suc (suc number))) past =
    let same : number ≡ suc (suc (suc number)) - 3 = omega arith in
    ap (get [] (reads_of certificate.dues.now)) same

pub read-none : (rules : RowRules) (n : ℕ) (certificate : Certificate) (number : ℕ) (glues : Bool) (symbol : ℕ) → 3 ≤ number → length certificate.dues.now ≤ number - 3
    → 0 ≡ read_at (tables_of rules n certificate) number glues symbol
read-none rules n certificate number glues symbol past none =
    let empty = sym (reads-beyond rules n certificate number past ∙ sym (get-mapped-past (λ (d : GivenDue). d.reads.now) [] certificate.dues.now (number - 3) none)) in
    number-same glues 0 ∙ ap (number_of glues) (sym (get-past (0, 0) [] symbol (omega arith)) ∙ ap (λ reads. get (0, 0) reads symbol) empty)

pub read-due : (rules : RowRules) (n : ℕ) (certificate : Certificate) (number : ℕ) (glues : Bool) (symbol : ℕ) (d : GivenDue) → 3 ≤ number
    → number - 3 < length certificate.dues.now
    → number_of glues (get (0, 0) (get_or certificate.dues.now (number - 3) d).reads.now symbol) ≡ read_at (tables_of rules n certificate) number glues symbol
read-due rules n certificate number glues symbol d past within =
    ap (λ reads. number_of glues (get (0, 0) reads symbol))
    (get-mapped (λ (d : GivenDue). d.reads.now) [] certificate.dues.now (number - 3) d within ∙ sym (reads-beyond rules n certificate number past))
