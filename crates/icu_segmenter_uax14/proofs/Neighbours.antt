-- Between which characters lines may break: tests of the rows, computed for every pair of symbols of two classes.
use Rattle.std.proofs.Common.{Some, ◌≡◌, ℕ, suc, ◌<◌, Bool, true, not, ◌==◌, List, [], ◌∷◌, ◌++◌, length, map, reverse, refl, sym, ap, ◌∙◌, arith, eqb-true, eq-eqb, inl, inr}
use Rattle.std.specs.Prelude.{◌↔◌, Contains}
use Rattle.std.proofs.lemmas.Bool.{and_from, false_from_ne_true, not_from_false}
use Rattle.std.proofs.lemmas.List.{length-append, map-append, reverse-append}
use Rattle.ucd_table.proofs.TrieCheck.{all_below, all_below-at}
use Rattle.seg_text.specs.Boundaries.{boundary}
use Rattle.seg_machine.specs.Machine.{Machine, symbol_and_script, symbols_of}
use Rattle.seg_machine.specs.MachineFaults.{IsChecked}
use Rattle.seg_machine.specs.Pick.{machine_boundaries}
use Rattle.seg_rules.specs.declared.certificate.Configuration.{Configuration}
use Rattle.seg_rules.specs.Check.{Plan, Tables}
use Rattle.seg_rules.specs.Places.{Passes}
use Rattle.seg_rules.specs.Plain.{plain_verdict}
use Rattle.seg_rules.specs.RowRules.{RowRules}
use Rattle.icu_segmenter_uax29.proofs.Lists.{bool-cases}
use Rattle.icu_segmenter_uax29.proofs.Tests.{implied, implies}
use Rattle.icu_segmenter_uax14.specs.Characters.{character}
use Rattle.seg_rules.specs.Classes.{◌or◌, ◌but◌, no}
use Rattle.icu_segmenter_uax14.specs.LineClasses.{LineClass, every, BK, CR, LF, NL}
use Rattle.icu_segmenter_uax14.specs.LineRules.{line_rules}
use Rattle.icu_segmenter_uax14.specs.LineValues.{properties_of}
use Rattle.icu_segmenter_uax14.specs.Neighbours.{BreaksWith, ComeApart, EndsLine, Is, IsJoined, MustBreak, StayTogether}
use Rattle.icu_segmenter_uax14.specs.Tailored.{Tailoring, machine_by, style_of}
use Rattle.icu_segmenter_uax14.proofs.LineTables.{numbered_rules, plan, relation, rules-are, tables}
use Rattle.icu_segmenter_uax14.proofs.PlaceTests.{pair-kept, pair_keeps}
use Rattle.icu_segmenter_uax14.proofs.RowTests.{ByPatterns, clash}
use Rattle.icu_segmenter_uax14.proofs.Tailorings.{are-checked, pass, symbols-have-properties}

-- what boundaries are, by verdicts
abbrev pub ByVerdicts : Type 0
ByVerdicts =
    (rules : RowRules) (n : ℕ) (t : Tables) (plan : Plan) (relation : List (List Configuration)) (m : Machine)
    → Passes rules n t relation plan m → IsChecked m
    → (cs ds : List ℕ) (status : ℕ) → 0 < length cs
    → Contains (machine_boundaries m (cs ++ ds)) (boundary (length cs) status)
    ↔ (plain_verdict rules (reverse (symbols_of m cs)) (symbols_of m ds) ≡ suc status)

abbrev pub symbol : Tailoring → ℕ → ℕ
symbol tailoring c = (symbol_and_script (machine_by tailoring) c).0

-- the verdict of the rules of lines between two parts of a text
abbrev pub verdict_between : Tailoring → List ℕ → List ℕ → ℕ
verdict_between tailoring before after =
    plain_verdict line_rules (reverse (symbols_of (machine_by tailoring) before)) (symbols_of (machine_by tailoring) after)

pub in-class : (tailoring : Tailoring) (class : LineClass) (c : ℕ) → Is tailoring class c → class (Some (properties_of (symbol tailoring c))) ≡ true
in-class tailoring class c is = sym (ap (λ p. class (Some p)) (symbols-have-properties tailoring c).value) ∙ is

-- every character of a text is of this class
pub is-every : (tailoring : Tailoring) (c : ℕ) → Is tailoring every c
is-every tailoring c = refl

-- for every pair of symbols of two classes, the verdict passes a test
unfoldable pub pairs_keep : (ℕ → Bool) → LineClass → LineClass → Bool
pairs_keep test lasts nexts =
    all_below (λ x. implies (lasts (Some (properties_of x))) (all_below (λ y. implies (nexts (Some (properties_of y))) (pair_keeps numbered_rules test x y)) 73)) 73

pub turned-map : (f : ℕ → ℕ) (cs : List ℕ) → reverse (map f cs) ≡ map f (reverse cs)
turned-map f [] = refl
turned-map f (c ∷ cs) =
    reverse-append (f c ∷ []) (map f cs) ∙ ap (λ past. past ++ (f c ∷ [])) (turned-map f cs) ∙ sym (map-append f (reverse cs) (c ∷ []))
    ∙ ap (map f) (sym (reverse-append (c ∷ []) cs))

pub turned-last : (f : ℕ → ℕ) (before : List ℕ) (last : ℕ) → reverse (map f (before ++ (last ∷ []))) ≡ map f (last ∷ reverse before)
turned-last f before last = turned-map f (before ++ (last ∷ [])) ∙ ap (map f) (reverse-append before (last ∷ []))

module _ (by_patterns : ByPatterns) where
  pub pair-passes : (test : ℕ → Bool) (lasts nexts : LineClass) → pairs_keep test lasts nexts ≡ true
      → (tailoring : Tailoring) (before after : List ℕ) (last next : ℕ) → Is tailoring lasts last → Is tailoring nexts next
      → test (verdict_between tailoring (before ++ (last ∷ [])) (next ∷ after)) ≡ true
  unfolding pairs_keep numbered_rules
  pair-passes test lasts nexts kept tailoring before after last next is_last is_next =
      let f = symbol tailoring in
      let x = f last in
      let y = f next in
      let from_x = implied (lasts (Some (properties_of x))) _
      (all_below-at (λ x. implies (lasts (Some (properties_of x))) (all_below (λ y. implies (nexts (Some (properties_of y))) (pair_keeps numbered_rules test x y)) 73)) 73 x kept (symbols-have-properties tailoring last).below)
      (in-class tailoring lasts last is_last) in
      let to_y = implied (nexts (Some (properties_of y))) _
      (all_below-at (λ y. implies (nexts (Some (properties_of y))) (pair_keeps numbered_rules test x y)) 73 y from_x (symbols-have-properties tailoring next).below)
      (in-class tailoring nexts next is_next) in
      ap (λ past. test (plain_verdict line_rules past (map f (next ∷ after)))) (turned-last f before last)
      ∙ ap (λ rules. test (plain_verdict rules (map f (last ∷ reverse before)) (map f (next ∷ after)))) rules-are
      ∙ pair-kept numbered_rules by_patterns refl (omega arith) refl f (λ c. (symbols-have-properties tailoring c).below) test last next (reverse before) after to_y

  module _ (by_verdicts : ByVerdicts) where
    pub joined-at : (tailoring : Tailoring) (before after : List ℕ) → 0 < length before → (verdict_between tailoring before after == 0) ≡ true
        → IsJoined tailoring before after
    joined-at tailoring before after some none status breaks =
        let is = (by_verdicts line_rules 72 tables plan relation (machine_by tailoring) (pass tailoring) (are-checked tailoring) before after status some).0 breaks in
        let nothing = eqb-true _ _ none in
        omega (arith, is, nothing)

    some-before : (before : List ℕ) (last : ℕ) → 0 < length (before ++ (last ∷ []))
    some-before before last = omega (arith, length-append before (last ∷ []))

    pub verdict-is : (tailoring : Tailoring) (before after : List ℕ) (last status : ℕ)
        → BreaksWith tailoring status (before ++ (last ∷ [])) after ↔ (verdict_between tailoring (before ++ (last ∷ [])) after ≡ suc status)
    verdict-is tailoring before after last status =
        by_verdicts line_rules 72 tables plan relation (machine_by tailoring) (pass tailoring) (are-checked tailoring) (before ++ (last ∷ [])) after status
        (some-before before last)

    pub joined : (tailoring : Tailoring) (before after : List ℕ) (last : ℕ) → (verdict_between tailoring (before ++ (last ∷ [])) after == 0) ≡ true
        → IsJoined tailoring (before ++ (last ∷ [])) after
    joined tailoring before after last none status breaks =
        let is = (verdict-is tailoring before after last status).0 breaks in
        let nothing = eqb-true _ _ none in
        omega (arith, is, nothing)

    pub stay-together : (lasts nexts : LineClass) → pairs_keep (λ v. v == 0) lasts nexts ≡ true → StayTogether lasts nexts
    stay-together lasts nexts kept tailoring before after last next is_last is_next =
        joined tailoring before (next ∷ after) last (pair-passes (λ v. v == 0) lasts nexts kept tailoring before after last next is_last is_next)

    pub come-apart : (lasts nexts : LineClass) → pairs_keep (λ v. v == 1) lasts nexts ≡ true → ComeApart lasts nexts
    come-apart lasts nexts kept tailoring before after last next is_last is_next =
        (verdict-is tailoring before (next ∷ after) last 0).1
        (eqb-true _ _ (pair-passes (λ v. v == 1) lasts nexts kept tailoring before after last next is_last is_next))

    -- a break of a status isn't where the verdict is another
    pub not-with : (tailoring : Tailoring) (before after : List ℕ) (last status : ℕ)
        → not (verdict_between tailoring (before ++ (last ∷ [])) after == suc status) ≡ true
        → BreaksWith tailoring status (before ++ (last ∷ [])) after → ⊥
    not-with tailoring before after last status other breaks =
        clash (eq-eqb _ _ ((verdict-is tailoring before after last status).0 breaks)) other

    -- ---- mandatory breaks

    must : (lasts nexts : LineClass) → pairs_keep (λ v. v == 2) lasts nexts ≡ true
        → (tailoring : Tailoring) (before after : List ℕ) (last next : ℕ) → Is tailoring lasts last → Is tailoring nexts next
        → MustBreak tailoring (before ++ (last ∷ [])) (next ∷ after)
    must lasts nexts kept tailoring before after last next is_last is_next =
        (verdict-is tailoring before (next ∷ after) last 1).1
        (eqb-true _ _ (pair-passes (λ v. v == 2) lasts nexts kept tailoring before after last next is_last is_next))

    must-not : (lasts nexts : LineClass) → pairs_keep (λ v. not (v == 2)) lasts nexts ≡ true
        → (tailoring : Tailoring) (before after : List ℕ) (last next : ℕ) → Is tailoring lasts last → Is tailoring nexts next
        → MustBreak tailoring (before ++ (last ∷ [])) (next ∷ after) → ⊥
    must-not lasts nexts kept tailoring before after last next is_last is_next =
        not-with tailoring before (next ∷ after) last 1 (pair-passes (λ v. not (v == 2)) lasts nexts kept tailoring before after last next is_last is_next)

    pub must-where : (after_ends : pairs_keep (λ v. v == 2) (BK or LF or NL) every ≡ true) (after_returns : pairs_keep (λ v. v == 2) CR (no LF) ≡ true)
        (else_where : pairs_keep (λ v. not (v == 2)) (no CR but (BK or LF or NL)) every ≡ true) (within : pairs_keep (λ v. not (v == 2)) CR LF ≡ true)
        → (tailoring : Tailoring) (before after : List ℕ) (last next : ℕ)
        → MustBreak tailoring (before ++ (last ∷ [])) (next ∷ after) ↔ EndsLine tailoring last next
    must-where after_ends after_returns else_where within tailoring before after last next =
        let p = Some (style_of tailoring (character last)) in
        let q = Some (style_of tailoring (character next)) in (
          λ breaks. elim (bool-cases ((BK or LF or NL) p)) [
            | inl ends ↦ inl ends
            | inr no_end ↦ elim (bool-cases (CR p)) [
              | inl return ↦ inr (return, λ feed. must-not CR LF within tailoring before after last next return feed breaks)
              | inr no_return ↦
                  absurd (must-not (no CR but (BK or LF or NL)) every else_where tailoring before after last next
                  (and_from _ _ (not_from_false (CR p) no_return) (not_from_false _ no_end))
                  (is-every tailoring next) breaks)
            ]
          ],
          λ ends. elim ends [
            | inl ends ↦ must (BK or LF or NL) every after_ends tailoring before after last next ends (is-every tailoring next)
            | inr (return, no_feed) ↦
                must CR (no LF) after_returns tailoring before after last next return
                (not_from_false (LF q) (false_from_ne_true (LF q) no_feed))
          ],
        )

    -- the end of a text
    pub ends-with : (tailoring : Tailoring) (before : List ℕ) (last status : ℕ) → BreaksWith tailoring status (before ++ (last ∷ [])) [] ↔ (status ≡ 1)
    unfolding plain_verdict line_rules
    ends-with tailoring before last status = (
      λ breaks. let is = (verdict-is tailoring before [] last status).0 breaks in omega (arith, is),
      λ is. (verdict-is tailoring before [] last status).1 (ap suc (sym is)),
    )
