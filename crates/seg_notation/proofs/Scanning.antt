-- Blanks are left out one after another, and what comes next behind them.
use Rattle.std.proofs.Common.{◌≡◌, ℕ, Bool, true, false, if◌then◌else◌, List, [], ◌∷◌, drop, refl, sym, ◌∙◌, ap}
use Rattle.seg_notation.specs.Scanning.{past_blanks, begins_blank, begins_with}

pub past-one : (rest : List ℕ) → begins_blank rest ≡ true → past_blanks (drop 1 rest) ≡ past_blanks rest
unfolding past_blanks
past-one [] h = cc
past-one (c ∷ cs) h = sym (ap (λ b. if b then past_blanks cs else c ∷ cs) h)

pub past-none : (rest : List ℕ) → begins_blank rest ≡ false → past_blanks rest ≡ rest
unfolding past_blanks
past-none [] h = refl
past-none (c ∷ cs) h = ap (λ b. if b then past_blanks cs else c ∷ cs) h

clean-of : (b : Bool) (c : ℕ) (cs : List ℕ) → begins_blank (c ∷ cs) ≡ b → begins_blank (past_blanks cs) ≡ false
    → begins_blank (if b then past_blanks cs else c ∷ cs) ≡ false
clean-of true c cs h rest = rest
clean-of false c cs h rest = h

past-clean : (rest : List ℕ) → begins_blank (past_blanks rest) ≡ false
unfolding past_blanks
past-clean [] = refl
past-clean (c ∷ cs) = clean-of (begins_blank (c ∷ cs)) c cs refl (past-clean cs)

-- where something else was looked for, the blanks alone are read
pub after-miss : (rest left later : List ℕ) (found : Bool) → found ≡ false
    → left ≡ (if found then later else past_blanks rest) → past_blanks left ≡ past_blanks rest
after-miss rest left later found h e =
    ap past_blanks (e ∙ ap (λ b. if b then later else past_blanks rest) h) ∙ past-none _ (past-clean rest)

-- what comes next is what was looked for then
pub looked : (wanted : ℕ) (rest left : List ℕ) (found : Bool) → past_blanks left ≡ past_blanks rest
    → found ≡ begins_with wanted (past_blanks left) → begins_with wanted (past_blanks rest) ≡ found
looked wanted rest left found e h = ap (begins_with wanted) (sym e) ∙ sym h

-- choices, by what was found
pub second : {X : Type 0} (a b : Bool) (x y z : X) → a ≡ false → b ≡ true → y ≡ (if a then x else (if b then y else z))
second true b x y z h k = cc
second false true x y z h k = refl
second false false x y z h k = cc

pub neither : {X : Type 0} (a b : Bool) (x y z : X) → a ≡ false → b ≡ false → z ≡ (if a then x else (if b then y else z))
neither true b x y z h k = cc
neither false true x y z h k = cc
neither false false x y z h k = refl
