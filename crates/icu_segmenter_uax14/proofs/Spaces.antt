-- Where lines may break: after a space, by the character before it and the one after.
use Rattle.std.proofs.Common.{Some, ◌≡◌, ℕ, suc, ◌<◌, Bool, true, not, ◌&&◌, ◌||◌, ◌==◌, List, [], ◌∷◌, ◌++◌, get_or, length, map, reverse, refl, sym, ap, ap₂, ◌∙◌, arith, inl, inr, append_assoc, subst, eqb-true}
use Rattle.std.proofs.lemmas.Bool.{and_from, and_parts, not-true, or_left, or_right}
use Rattle.std.proofs.lemmas.List.{reverse-append}
use Rattle.ucd_table.proofs.TrieCheck.{all_below, all_below-at}
use Rattle.seg_rules.specs.declared.rules.Count.{Count}
use Rattle.seg_rules.specs.declared.rules.Count.TheVariants.{One, Optional, Star, Pairs}
use Rattle.seg_rules.specs.Patterns.{Fits, FitsItem, flags}
use Rattle.seg_rules.specs.Plain.{bases_after, bases_before, is_base, plain_verdict, right_fits, row_fits}
use Rattle.seg_rules.specs.RowRules.{Pattern, Row, RowRules, flow, has, is_full, no_flags, once}
use Rattle.icu_segmenter_uax29.proofs.Tests.{implied, implies}
use Rattle.seg_rules.specs.Classes.{◌or◌, no}
use Rattle.icu_segmenter_uax14.specs.LineClasses.{LineClass, B2, BK, CL, CM, CP, CR, EX, IS, LF, NL, NS, OP, SP, SY, WJ, ZW, ZWJ, QU_PF, QU_PI}
use Rattle.icu_segmenter_uax14.specs.LineValues.{properties_of}
use Rattle.icu_segmenter_uax14.specs.Neighbours.{BreaksWith, Is}
use Rattle.icu_segmenter_uax14.specs.Tailored.{Tailoring}
use Rattle.icu_segmenter_uax14.proofs.LineTables.{numbered_above, numbered_below, numbered_rules, rules-are}
use Rattle.icu_segmenter_uax14.proofs.Neighbours.{ByVerdicts, in-class, symbol, turned-map, verdict-is}
use Rattle.icu_segmenter_uax14.proofs.PlaceTests.{around-by-kept, around_by, base-alone, next-alone}
use Rattle.icu_segmenter_uax14.proofs.Sequences.{each_pair, pair-at}
use Rattle.icu_segmenter_uax14.proofs.Tailorings.{symbols-have-properties}
use Rattle.icu_segmenter_uax14.proofs.RowTests.{ByPatterns, fits-may, keeps, may_begin, may_end, nearest-has, sure-fits, sure_fit}

-- ---- the two nearest symbols

-- symbols that fit a pattern may have x nearest and w before it, where what is farther may end in w, or in x after it
unfoldable pub may_end_two : Bool → Bool → Pattern → ℕ → ℕ → Bool
may_end_two at_w at_x [] x w = at_x
may_end_two at_w at_x ((class, One) ∷ items) x w = may_end_two (has class w) (at_w && has class x) items x w
may_end_two at_w at_x ((class, Optional) ∷ items) x w = may_end_two (at_w || has class w) (at_x || ((at_w || has class w) && has class x)) items x w
may_end_two at_w at_x ((class, Star) ∷ items) x w = may_end_two (at_w || has class w) (at_x || ((at_w || has class w) && has class x)) items x w
may_end_two at_w at_x ((class, Pairs) ∷ items) x w = may_end_two (at_w || has class w) (at_x || ((at_w || has class w) && has class x)) items x w

same-at : (class k : ℕ) (xs ys : List ℕ) → xs ≡ ys → has class (get_or xs k 0) ≡ true → has class (get_or ys k 0) ≡ true
same-at class k xs ys is has_it = subst (λ all. has class (get_or all k 0) ≡ true) is has_it

-- what fits an item that may be empty: its symbols, if there are some, are of its class (the second, if the item has it, too)
abbrev SecondHas : ℕ → List ℕ → Type 0
SecondHas class [] = Unit {0}
SecondHas class (y ∷ []) = Unit {0}
SecondHas class (y ∷ (z ∷ ys)) = has class z ≡ true

second-has : (class : ℕ) (count : Count) (xs : List ℕ) → FitsItem class count xs → SecondHas class xs
second-has class count [] fits = tt
second-has class count (y ∷ []) fits = tt
second-has class One (y ∷ (z ∷ ys)) (x, (is, has_x)) = let no : suc (suc (length ys)) ≡ 1 = ap length is in absurd (omega (arith, no))
second-has class Optional (y ∷ (z ∷ ys)) (inl none) = cc
second-has class Optional (y ∷ (z ∷ ys)) (inr (x, (is, has_x))) = let no : suc (suc (length ys)) ≡ 1 = ap length is in absurd (omega (arith, no))
second-has class Star (y ∷ (z ∷ ys)) (has_y, (has_z, more)) = has_z
second-has class Pairs (y ∷ (z ∷ ys)) ((has_y, has_z), more) = has_z

-- the state after an item that may be empty: w may be nearest
w-next : (class : ℕ) (count : Count) (own farther : List ℕ) (at_w : Bool) (x w : ℕ) (rest : List ℕ) → FitsItem class count own
    → (x ∷ []) ++ (own ++ farther) ≡ x ∷ (w ∷ rest) → (own ≡ [] → at_w ≡ true) → (at_w || has class w) ≡ true
w-next class count [] farther at_w x w rest fits are empty = or_left _ _ (empty refl)
w-next class count (z ∷ own) farther at_w x w rest fits are empty =
    or_right at_w _ (same-at class 1 (x ∷ (z ∷ (own ++ farther))) (x ∷ (w ∷ rest)) are (nearest-has class count z own fits))

-- x may be
x-next : (class : ℕ) (count : Count) (own farther : List ℕ) (at_w at_x : Bool) (x w : ℕ) (rest : List ℕ) → FitsItem class count own
    → own ++ farther ≡ x ∷ (w ∷ rest) → (own ≡ [] → at_x ≡ true) → (own ≡ x ∷ [] → at_w ≡ true)
    → (at_x || ((at_w || has class w) && has class x)) ≡ true
x-next class count [] farther at_w at_x x w rest fits are none alone = or_left _ _ (none refl)
x-next class count (z ∷ []) farther at_w at_x x w rest fits are none alone =
    let first : z ≡ x = ap (λ all. get_or all 0 0) are in
    or_right at_x _ (and_from _ _ (or_left _ _ (alone (ap (λ n. n ∷ []) first)))
    (same-at class 0 (z ∷ farther) (x ∷ (w ∷ rest)) are (nearest-has class count z [] fits)))
x-next class count (z ∷ (y ∷ own)) farther at_w at_x x w rest fits are none alone =
    or_right at_x _ (and_from _ _
    (or_right at_w _ (same-at class 1 (z ∷ (y ∷ (own ++ farther))) (x ∷ (w ∷ rest)) are (second-has class count (z ∷ (y ∷ own)) fits)))
    (same-at class 0 (z ∷ (y ∷ (own ++ farther))) (x ∷ (w ∷ rest)) are (nearest-has class count z (y ∷ own) fits)))

two-there : (pattern : Pattern) (nearest farther : List ℕ) (at_w at_x : Bool) (x w : ℕ) (rest : List ℕ) → Fits pattern nearest
    → nearest ++ farther ≡ x ∷ (w ∷ rest) → (nearest ≡ x ∷ [] → at_w ≡ true) → (nearest ≡ [] → at_x ≡ true) → may_end_two at_w at_x pattern x w ≡ true
unfolding may_end_two
two-there [] nearest farther at_w at_x x w rest fits are one none = none fits
two-there ((class, One) ∷ items) nearest farther at_w at_x x w rest (later, own, (is, ((z, (alone, has_z)), fits))) are one none =
    let all = sym (append_assoc later own farther) ∙ ap (λ xs. xs ++ farther) (sym is) ∙ are in
    two-there items later (own ++ farther) (has class w) (at_w && has class x) x w rest fits all
    (λ later_is. same-at class 1 (x ∷ (z ∷ farther)) (x ∷ (w ∷ rest)) (sym (ap₂ (λ (l o : List ℕ). l ++ (o ++ farther)) later_is alone) ∙ all) has_z)
    (λ nothing.
    let here : z ∷ farther ≡ x ∷ (w ∷ rest) = sym (ap₂ (λ (l o : List ℕ). l ++ (o ++ farther)) nothing alone) ∙ all in
    let first : z ≡ x = ap (λ all. get_or all 0 0) here in
    and_from _ _ (one (is ∙ ap₂ (λ (l o : List ℕ). l ++ o) nothing alone ∙ ap (λ n. n ∷ []) first)) (same-at class 0 (z ∷ farther) (x ∷ (w ∷ rest)) here has_z))
two-there ((class, Optional) ∷ items) nearest farther at_w at_x x w rest (later, own, (is, (item, fits))) are one none =
    let all = sym (append_assoc later own farther) ∙ ap (λ xs. xs ++ farther) (sym is) ∙ are in
    two-there items later (own ++ farther) (at_w || has class w) (at_x || ((at_w || has class w) && has class x)) x w rest fits all
    (λ later_is. w-next class Optional own farther at_w x w rest item (ap (λ l. l ++ (own ++ farther)) (sym later_is) ∙ all)
    (λ empty. one (is ∙ ap₂ (λ (l o : List ℕ). l ++ o) later_is empty)))
    (λ nothing. x-next class Optional own farther at_w at_x x w rest item (ap (λ l. l ++ (own ++ farther)) (sym nothing) ∙ all)
    (λ empty. none (is ∙ ap₂ (λ (l o : List ℕ). l ++ o) nothing empty)) (λ own_is. one (is ∙ ap₂ (λ (l o : List ℕ). l ++ o) nothing own_is)))
two-there ((class, Star) ∷ items) nearest farther at_w at_x x w rest (later, own, (is, (item, fits))) are one none =
    let all = sym (append_assoc later own farther) ∙ ap (λ xs. xs ++ farther) (sym is) ∙ are in
    two-there items later (own ++ farther) (at_w || has class w) (at_x || ((at_w || has class w) && has class x)) x w rest fits all
    (λ later_is. w-next class Star own farther at_w x w rest item (ap (λ l. l ++ (own ++ farther)) (sym later_is) ∙ all)
    (λ empty. one (is ∙ ap₂ (λ (l o : List ℕ). l ++ o) later_is empty)))
    (λ nothing. x-next class Star own farther at_w at_x x w rest item (ap (λ l. l ++ (own ++ farther)) (sym nothing) ∙ all)
    (λ empty. none (is ∙ ap₂ (λ (l o : List ℕ). l ++ o) nothing empty)) (λ own_is. one (is ∙ ap₂ (λ (l o : List ℕ). l ++ o) nothing own_is)))
two-there ((class, Pairs) ∷ items) nearest farther at_w at_x x w rest (later, own, (is, (item, fits))) are one none =
    let all = sym (append_assoc later own farther) ∙ ap (λ xs. xs ++ farther) (sym is) ∙ are in
    two-there items later (own ++ farther) (at_w || has class w) (at_x || ((at_w || has class w) && has class x)) x w rest fits all
    (λ later_is. w-next class Pairs own farther at_w x w rest item (ap (λ l. l ++ (own ++ farther)) (sym later_is) ∙ all)
    (λ empty. one (is ∙ ap₂ (λ (l o : List ℕ). l ++ o) later_is empty)))
    (λ nothing. x-next class Pairs own farther at_w at_x x w rest item (ap (λ l. l ++ (own ++ farther)) (sym nothing) ∙ all)
    (λ empty. none (is ∙ ap₂ (λ (l o : List ℕ). l ++ o) nothing empty)) (λ own_is. one (is ∙ ap₂ (λ (l o : List ℕ). l ++ o) nothing own_is)))

-- a row may fit after two symbols and before another
abbrev pub may_fit_two : ℕ → ℕ → ℕ → Row → Bool
may_fit_two w x y row = may_end_two true true row.left x w && may_begin row.right y

pub fits-may-two : ByPatterns → (row : Row) (w x y : ℕ) (past rest : List ℕ) → row_fits row (x ∷ (w ∷ past)) (y ∷ rest) ≡ true → may_fit_two w x y row ≡ true
fits-may-two by row w x y past rest fits =
    let ((own, farther, (left, ends)), right) = (by row (x ∷ (w ∷ past)) (y ∷ rest)).0 fits in
    let begins = (and_parts (may_end true row.left x) _ (fits-may by row x y (w ∷ past) rest fits)).1 in
    and_from _ _ (two-there row.left own farther true true x w past ends (sym left) (λ one. refl) (λ none. refl)) begins

-- ---- after a space

abbrev space_keeps : ℕ → ℕ → ℕ → Bool
space_keeps w x y =
    not (has numbered_rules.marks w)
    && around_by numbered_rules (may_fit_two w x y) (may_fit_two w x y) (sure_fit (x ∷ []) (y ∷ [])) (λ v. v == 1) x y

abbrev Lasts : LineClass
Lasts = no (SP or OP or QU_PI or CM or ZWJ)

abbrev Nexts : LineClass
Nexts = no (BK or CR or LF or NL or SP or ZW or WJ or CL or CP or EX or SY or IS or QU_PF or NS or B2 or CM or ZWJ)

space-tests : all_below (λ w. implies (Lasts (Some (properties_of w))) (each_pair (space_keeps w) SP Nexts)) 73 ≡ true
unfolding around_by keeps may_end may_end_two may_begin all_below flags flow is_full no_flags once right_fits numbered_above numbered_below numbered_rules
space-tests = refl

module _ (tailoring : Tailoring) (by : ByPatterns) (by_verdicts : ByVerdicts) where
  abbrev f : ℕ → ℕ
  f = symbol tailoring

  few : (c : ℕ) → f c < 73
  few c = (symbols-have-properties tailoring c).below

  -- Law: a line may break after a space
  pub spaces-break : (before after : List ℕ) (last space next : ℕ) → Is tailoring Lasts last → Is tailoring SP space → Is tailoring Nexts next
      → BreaksWith tailoring 0 ((before ++ (last ∷ [])) ++ (space ∷ [])) (next ∷ after)
  unfolding numbered_rules around_by
  spaces-break before after last space next is_last is_space is_next =
      let w = f last in
      let x = f space in
      let y = f next in
      let past = map f (reverse before) in
      let tested = pair-at (space_keeps w) SP Nexts
      (implied (Lasts (Some (properties_of w))) _
      (all_below-at (λ w. implies (Lasts (Some (properties_of w))) (each_pair (space_keeps w) SP Nexts)) 73 w space-tests (few last)) (in-class tailoring Lasts last is_last))
      tailoring space next is_space is_next in
      let whole = and_parts (not (has numbered_rules.marks w)) _ tested in
      let parts = and_parts (not (has numbered_rules.marks x)) _ whole.1 in
      let more_parts = and_parts (not (has numbered_rules.marks y)) _ parts.1 in
      let base = is_base numbered_rules (x ∷ (w ∷ past)) in
      let before_is = base-alone numbered_rules by refl (omega arith) refl f few x (w ∷ past) (not-true _ parts.0)
      ∙ ap (λ s. x ∷ s) (base-alone numbered_rules by refl (omega arith) refl f few w past (not-true _ whole.0)) in
      let after_is = next-alone numbered_rules by refl (omega arith) refl f few base y (map f after) (not-true _ more_parts.0) in
      let further = bases_after numbered_rules ((has numbered_rules.marks y && base) || (numbered_rules.has_marks && not (has numbered_rules.bare y))) (map f after) in
      let same = λ (row : Row). ap₂ (λ (b a : List ℕ). row_fits row b a) before_is after_is in
      let turned : reverse ((before ++ (last ∷ [])) ++ (space ∷ [])) ≡ space ∷ (last ∷ reverse before) =
      reverse-append (before ++ (last ∷ [])) (space ∷ []) ∙ ap (λ l. space ∷ l) (reverse-append before (last ∷ [])) in
      (verdict-is by by_verdicts tailoring (before ++ (last ∷ [])) (next ∷ after) space 0).1
      (ap₂ (λ (rules : RowRules) (past : List ℕ). plain_verdict rules past (map f (next ∷ after))) rules-are
      (turned-map f ((before ++ (last ∷ [])) ++ (space ∷ [])) ∙ ap (map f) turned)
      ∙ eqb-true _ _
      (around-by-kept numbered_rules by refl (omega arith) refl f few (λ v. v == 1) (may_fit_two w x y) (may_fit_two w x y) (sure_fit (x ∷ []) (y ∷ []))
      space next (last ∷ reverse before) after
      (λ row. fits-may-two by row w x y (past ++ (0 ∷ [])) (map f after ++ (0 ∷ [])))
      (λ row fits. fits-may-two by row w x y (bases_before numbered_rules past) further (sym (same row) ∙ fits))
      (λ row sure. same row ∙ sure-fits by row (x ∷ []) (y ∷ []) (w ∷ bases_before numbered_rules past) further sure)
      whole.1))
