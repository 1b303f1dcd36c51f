-- Lists of configurations: what is on them, and how many different ones they have.
use Rattle.std.proofs.Common.{◌≡◌, ◌<◌, ◌≤◌, ◌⊎◌, ◌==◌, ◌||◌, ◌&&◌, ◌^◌, ℕ, suc, Bool, true, false, if◌then◌else◌, List, [], ◌∷◌, ◌++◌, length, refl, sym, ap, ◌∙◌, subst, arith, inl, inr, eq-eqb, eqb}
use Rattle.std.proofs.lemmas.Bool.{cases_Bool, eqb-true, false≢true}
use Rattle.std.proofs.lemmas.Cmp.{nat_eq_equiv}
use Rattle.std.proofs.lemmas.Map.Made.{length-le_from_is_member}
use Rattle.std.proofs.lemmas.Map.Steps.{length-le_from_distinct_below}
use Rattle.std.specs.List.{AllByRecursion, IsDistinct}
use Rattle.std.specs.Set.{is_member}
use Rattle.seg_memo.specs.Configurations.{Configuration, Subject, configurations, different, is_in, is_same}
use Rattle.seg_memo.specs.Grids.{IsConfigurationOf, IsOn, number, onto}
use Rattle.seg_memo.proofs.Cells.{number-below, number-same, same}

-- what is on them

pub on-append : (c : Configuration) (cs ds : List Configuration) → IsOn c (cs ++ ds) → IsOn c cs ⊎ IsOn c ds
on-append c [] ds on = inr on
on-append c (d ∷ cs) ds on =
    elim on [
      | inl is ↦ inl (inl is)
      | inr rest ↦ elim (on-append c cs ds rest) [ inl first ↦ inl (inr first) | inr last ↦ inr last ]
    ]

pub on-left : (c : Configuration) (cs ds : List Configuration) → IsOn c cs → IsOn c (cs ++ ds)
on-left c [] ds on = absurd on
on-left c (d ∷ cs) ds on = elim on [ inl is ↦ inl is | inr rest ↦ inr (on-left c cs ds rest) ]

pub on-right : (c : Configuration) (cs ds : List Configuration) → IsOn c ds → IsOn c (cs ++ ds)
on-right c [] ds on = on
on-right c (d ∷ cs) ds on = inr (on-right c cs ds on)

pub onto-on : (c : Configuration) (cs ds : List Configuration) → IsOn c (onto cs ds) → IsOn c cs ⊎ IsOn c ds
onto-on c [] ds on = inr on
onto-on c (d ∷ cs) ds on =
    elim (onto-on c cs (d ∷ ds) on) [
      | inl first ↦ inl (inr first)
      | inr last ↦ elim last [ inl is ↦ inl (inl is) | inr rest ↦ inr rest ]
    ]

pub on-onto : (c : Configuration) (cs ds : List Configuration) → IsOn c cs ⊎ IsOn c ds → IsOn c (onto cs ds)
on-onto c [] ds on = elim on [ inl none ↦ absurd none | inr rest ↦ rest ]
on-onto c (d ∷ cs) ds on =
    on-onto c cs (d ∷ ds) (elim on [
      | inl first ↦ elim first [ inl is ↦ inr (inl is) | inr more ↦ inl more ]
      | inr rest ↦ inr (inr rest)
    ])

pub onto-append : (cs ds es : List Configuration) → onto (cs ++ ds) es ≡ onto ds (onto cs es)
onto-append [] ds es = refl
onto-append (c ∷ cs) ds es = onto-append cs ds (c ∷ es)

abbrev pub AreWithin : Subject → List Configuration → Type 0
AreWithin s cs = (d : Configuration) → IsOn d cs → IsConfigurationOf s d

-- they have the same ones
abbrev pub Same : List Configuration → List Configuration → Type 0
Same cs ds = (c : Configuration) → (IsOn c cs → IsOn c ds) × (IsOn c ds → IsOn c cs)

-- tests

or-left : (a b : Bool) → a ≡ true → (a || b) ≡ true
or-left true b is = refl
or-left false b is = absurd (false≢true is)

pub or-right : (a b : Bool) → b ≡ true → (a || b) ≡ true
or-right true b is = refl
or-right false b is = is

or-cases : (a b : Bool) → (a || b) ≡ true → (a ≡ true) ⊎ (b ≡ true)
or-cases true b is = inl refl
or-cases false b is = inr is

and-both : (a b : Bool) → (a && b) ≡ true → (a ≡ true) × (b ≡ true)
and-both true b is = (refl, is)
and-both false b is = absurd (false≢true is)

is-same : (c d : Configuration) → is_same c d ≡ true → c ≡ d
is-same c d is =
    let first = and-both (c.state == d.state) (c.place == d.place && c.kept == d.kept) is in
    let rest = and-both (c.place == d.place) (c.kept == d.kept) first.1 in
    same c d (eqb-true c.state d.state first.0) (eqb-true c.place d.place rest.0) (eqb-true c.kept d.kept rest.1)

same-is : (c d : Configuration) → c ≡ d → is_same c d ≡ true
same-is c d is =
    subst (λ (e : Configuration). is_same c e ≡ true) is (rw (eq-eqb c.state c.state refl, eq-eqb c.place c.place refl, eq-eqb c.kept c.kept refl) refl)

-- one is another or it isn't
pub which : (c d : Configuration) → (c ≡ d) ⊎ (c ≡ d → ⊥)
which c d =
    elim (cases_Bool (is_same c d)) [
      | inl is ↦ inl (is-same c d is)
      | inr not ↦ inr (λ is. false≢true (sym not ∙ same-is c d is))
    ]

in-on : (c : Configuration) (cs : List Configuration) → is_in c cs ≡ true → IsOn c cs
unfolding is_in
in-on c [] is = absurd (false≢true is)
in-on c (d ∷ cs) is = elim (or-cases (is_same d c) (is_in c cs) is) [ inl one ↦ inl (sym (is-same d c one)) | inr rest ↦ inr (in-on c cs rest) ]

on-in : (c : Configuration) (cs : List Configuration) → IsOn c cs → is_in c cs ≡ true
unfolding is_in
on-in c [] on = absurd on
on-in c (d ∷ cs) on = elim on [ inl is ↦ or-left (is_same d c) (is_in c cs) (same-is d c (sym is)) | inr rest ↦ or-right (is_same d c) (is_in c cs) (on-in c cs rest) ]

-- how many different ones there are

pub different-new : (c : Configuration) (cs : List Configuration) → (IsOn c cs → ⊥) → different (c ∷ cs) ≡ suc (different cs)
unfolding different
different-new c cs new =
    elim (cases_Bool (is_in c cs)) [
      | inl old ↦ absurd (new (in-on c cs old))
      | inr is ↦ rw is refl
    ]

abbrev num : Subject → Configuration → ℕ
num s c = number (length s.machine.states) (2 ^ s.machine.num_lookaheads) c

-- their numbers, each once
abbrev nums : Subject → List Configuration → List ℕ
nums s [] = []
nums s (c ∷ cs) = if is_in c cs then nums s cs else num s c ∷ nums s cs

different-nums : (s : Subject) (cs : List Configuration) → different cs ≡ length (nums s cs)
unfolding different
different-nums s [] = refl
different-nums s (c ∷ cs) =
    elim (cases_Bool (is_in c cs)) [
      | inl old ↦ rw old (different-nums s cs)
      | inr new ↦ rw new (ap suc (different-nums s cs))
    ]

in-nums : (s : Subject) (d : Configuration) (cs : List Configuration) → IsOn d cs → is_member eqb (nums s cs) (num s d) ≡ true
in-nums s d [] on = absurd on
in-nums s d (c ∷ cs) on =
    elim (cases_Bool (is_in c cs)) [
      | inl old ↦ rw old (in-nums s d cs (elim on [ inl is ↦ subst (λ (x : Configuration). IsOn x cs) (sym is) (in-on c cs old) | inr rest ↦ rest ]))
      | inr new ↦
          rw new (elim on [
            | inl is ↦ or-left (eqb (num s d) (num s c)) (is_member eqb (nums s cs) (num s d)) (eq-eqb (num s d) (num s c) (ap (num s) is))
            | inr rest ↦ or-right (eqb (num s d) (num s c)) (is_member eqb (nums s cs) (num s d)) (in-nums s d cs rest)
          ])
    ]

nums-in : (s : Subject) (q : ℕ) (cs : List Configuration) → is_member eqb (nums s cs) q ≡ true → (d : Configuration) × IsOn d cs × (num s d ≡ q)
nums-in s q [] is = absurd (false≢true is)
nums-in s q (c ∷ cs) is =
    elim (cases_Bool (is_in c cs)) [
      | inl old ↦ let rest = nums-in s q cs (rw old at is) in (rest.0, inr rest.1, rest.2)
      | inr new ↦
          elim (or-cases (eqb q (num s c)) (is_member eqb (nums s cs) q) (rw new at is)) [
            | inl one ↦ (c, inl refl, sym (eqb-true q (num s c) one))
            | inr more ↦ let rest = nums-in s q cs more in (rest.0, inr rest.1, rest.2)
          ]
    ]

none-same : (q : ℕ) (xs : List ℕ) → (is_member eqb xs q ≡ true → ⊥) → AllByRecursion (λ y. eqb q y ≡ false) xs
none-same q [] not = tt
none-same q (x ∷ xs) not = (
  elim (cases_Bool (eqb q x)) [ inl is ↦ absurd (not (or-left (eqb q x) (is_member eqb xs q) is)) | inr is ↦ is ],
  none-same q xs (λ is. not (or-right (eqb q x) (is_member eqb xs q) is)),
)

nums-distinct : (s : Subject) (cs : List Configuration) → AreWithin s cs → IsDistinct eqb (nums s cs)
unfolding IsDistinct
nums-distinct s [] within = tt
nums-distinct s (c ∷ cs) within =
    elim (cases_Bool (is_in c cs)) [
      | inl old ↦ rw old (nums-distinct s cs (λ d on. within d (inr on)))
      | inr new ↦
          rw new (
            none-same (num s c) (nums s cs) (λ is.
                let f = nums-in s (num s c) cs is in
                let d_in = within f.0 (inr f.1) in
                let c_in = within c (inl refl) in
                let one : f.0 ≡ c = number-same (length s.machine.states) (2 ^ s.machine.num_lookaheads) f.0 c d_in.state d_in.kept c_in.state c_in.kept f.2 in
                false≢true (sym new ∙ on-in c cs (subst (λ (x : Configuration). IsOn x cs) one f.1))),
            nums-distinct s cs (λ d on. within d (inr on)),
          )
    ]

fewer-different : (s : Subject) (cs ds : List Configuration) → AreWithin s cs → ((c : Configuration) → IsOn c cs → IsOn c ds) → different cs ≤ different ds
fewer-different s cs ds within there =
    rw (different-nums s cs, different-nums s ds)
    (length-le_from_is_member nat_eq_equiv (nums s cs) (nums s ds) (nums-distinct s cs within)
    (λ q is. let f = nums-in s q cs is in subst (λ (k : ℕ). is_member eqb (nums s ds) k ≡ true) f.2 (in-nums s f.0 ds (there f.0 f.1))))

pub different-same : (s : Subject) (cs ds : List Configuration) → AreWithin s cs → Same cs ds → different cs ≡ different ds
different-same s cs ds within both =
    let most = fewer-different s cs ds within (λ c. (both c).0) in
    let least = fewer-different s ds cs (λ d on. within d ((both d).1 on)) (λ c. (both c).1) in
    omega (arith, most, least)

-- no more than configurations
pub different-bound : (s : Subject) (cs : List Configuration) → AreWithin s cs → different cs ≤ configurations s.machine (length s.symbols)
different-bound s cs within =
    rw (different-nums s cs)
    (length-le_from_distinct_below (nums s cs) (configurations s.machine (length s.symbols)) (nums-distinct s cs within)
    (λ q is. let f = nums-in s q cs is in subst (λ (k : ℕ). k < configurations s.machine (length s.symbols)) f.2 (number-below s f.0 (within f.0 f.1))))
