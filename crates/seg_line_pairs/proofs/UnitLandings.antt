-- Where a verdict on units leads a step.
use Rattle.std.proofs.Common.{◌≡◌, ℕ, suc, ◌<◌, ◌&&◌, ◌||◌, Bool, true, false, Some, None, List, [], ◌∷◌, drop, refl, sym, ap, ◌∙◌, subst}
use Rattle.std.proofs.lemmas.List.{drop-map}
use Rattle.seg_pairs.specs.declared.provider.pairs.BreakState.{BreakState}
use Rattle.seg_pairs.specs.declared.provider.pairs.BreakState.TheVariants.{Break as BreakEntry, Keep, NoMatch, Intermediate, Index}
use Rattle.seg_pairs.specs.PairTable.{named_state, PairTable, entry_of}
use Rattle.seg_pairs.specs.declared.walk.Stop.{Stop}
use Rattle.seg_pairs.specs.declared.verdicts.Step.{Step}
use Rattle.seg_pairs.specs.declared.verdicts.Step.TheVariants.{End, Go}
use Rattle.seg_pairs.specs.Elements.{classes_of, onto}
use Rattle.seg_pairs.specs.Verdict.{Lands, LandsOrWalks, IsStepBelow, IsStop, class_at, walk_of, Verdict, walk_from}
use Rattle.seg_pairs.specs.Verdict.Verdict.{BreakAfter, GoAfter}
use Rattle.seg_pairs.specs.Walk.{Walk, is_class}
use Rattle.seg_pairs.proofs.Landings.{rest-at, saved-at}
use Rattle.seg_line_pairs.specs.declared.units.UnitDetail.{UnitDetail}
use Rattle.seg_line_pairs.specs.declared.engines.LineEngine.TheVariants.{Classic}
use Rattle.seg_line_pairs.specs.declared.verdicts.Case.{Case}
use Rattle.seg_line_pairs.specs.declared.verdicts.Case.TheVariants.{Table}
use Rattle.seg_line_pairs.specs.LineRules.{TableRules}
use Rattle.seg_line_pairs.specs.LineVerdict.{step_unless, Found, unit_classes, begins_joined, joined_before, unless, is_taken_from, unit_stop_verdict, unit_end_verdict, unit_walk_verdict, unit_named_verdict, unit_first_verdict, case_of, case_verdict, unit_verdict}
use Rattle.seg_line_pairs.specs.LineUnits.{UnitElement, LineUnit, unit_seen, units_seen}

seen-classes : (elements : List UnitElement) → unit_classes (units_seen elements) ≡ classes_of elements
seen-classes [] = refl
seen-classes (element ∷ elements) = ap (λ (classes : List ℕ). element.class ∷ classes) (seen-classes elements)

-- what is right before so many elements and one more
joined-at : (elements : List UnitElement) (passed n : ℕ) (before : UnitElement) (left : List UnitElement) → n ≡ suc passed → before ∷ left ≡ drop passed elements
    → joined_before (units_seen elements) n ≡ before.detail.is_joined
joined-at elements passed n before left is here =
    rw is (ap begins_joined (drop-map unit_seen passed elements ∙ ap units_seen (sym here)))

lands-unless : (b : Bool) (n : ℕ) (elements : List UnitElement) (next : UnitElement) (left : List UnitElement) → drop n elements ≡ next ∷ left
    → Lands (unless b n) elements (step_unless b next) left
lands-unless true n elements next left is = is
lands-unless false n elements next left is = (refl, is)

-- what the stop of a walk from `left` and `right` says
module _ {E : Type 0} (left_of : E → List UnitElement) (t : PairTable) (start : ℕ) (left right : UnitElement) (after : List UnitElement) (stop : Stop E UnitDetail)
    (rest : List UnitElement) (at : IsStop left_of t start (left ∷ right ∷ after) stop rest) where
  abbrev es : List UnitElement
  es = left ∷ right ∷ after

  abbrev us : List LineUnit
  us = units_seen es

  abbrev w : Walk
  w = walk_of t start es

  abbrev at-rest : drop w.stop es ≡ onto stop.next rest
  at-rest = rest-at left_of t start left right after stop rest at

  abbrev at-saved : drop w.saved es ≡ stop.saved ∷ left_of stop.saved_rest
  at-saved = saved-at left_of t start left right after stop rest at

  joined-stop : joined_before us w.stop ≡ stop.before.detail.is_joined
  joined-stop = joined-at es at.passed w.stop stop.before (onto stop.next rest) at.stops at.left_after

  joined-saved : joined_before us w.saved ≡ stop.saved_before.detail.is_joined
  joined-saved = joined-at es at.saved_passed w.saved stop.saved_before (stop.saved ∷ left_of stop.saved_rest) at.saves at.saved_after

  named-is : unit_named_verdict t start (unit_seen left) us ≡ unit_walk_verdict t start us w (drop w.stop us)
  unfolding unit_named_verdict
  named-is =
      ap (λ (classes : List ℕ). let w = walk_from t start left.class classes in unit_walk_verdict t start us w (drop w.stop us)) (seen-classes after)

  verdict-next : (element : UnitElement) → stop.next ≡ Some element → unit_named_verdict t start (unit_seen left) us ≡ unit_stop_verdict t start us w stop.entry
  verdict-next element is =
      let there : drop w.stop us ≡ unit_seen element ∷ units_seen rest = drop-map unit_seen w.stop es ∙ ap units_seen (at-rest ∙ ap (λ n. onto n rest) is) in
      named-is
      ∙ ap (unit_walk_verdict t start us w) there
      ∙ ap (λ q. unit_stop_verdict t start us w (entry_of t q element.class)) at.in_state
      ∙ ap (unit_stop_verdict t start us w) (sym (at.at_entry ∙ ap (λ n. entry_of t stop.state (class_at t n)) is))

  verdict-end : stop.next ≡ None → unit_named_verdict t start (unit_seen left) us ≡ unit_end_verdict t start us w stop.entry
  verdict-end is =
      let there : drop w.stop us ≡ [] = drop-map unit_seen w.stop es ∙ ap units_seen (at-rest ∙ ap (λ n. onto n rest) is ∙ at.at_end is) in
      named-is
      ∙ ap (unit_walk_verdict t start us w) there
      ∙ ap (λ q. unit_end_verdict t start us w (entry_of t q t.eot_property)) at.in_state
      ∙ ap (unit_end_verdict t start us w) (sym (at.at_entry ∙ ap (λ n. entry_of t stop.state (class_at t n)) is))

  abbrev LandsOn : Step UnitDetail → List UnitElement → Type 0
  LandsOn step left_over = Lands (unit_named_verdict t start (unit_seen left) us) es step left_over

  lands-by : (v : Verdict) (step : Step UnitDetail) (left_over : List UnitElement) → unit_named_verdict t start (unit_seen left) us ≡ v → Lands v es step left_over → LandsOn step left_over
  lands-by v step left_over is lands = subst (λ v. Lands v es step left_over) (sym is) lands

  pub unit-go : (element : UnitElement) → stop.next ≡ Some element → stop.entry ≡ Keep → LandsOn (Go element) rest
  unit-go element is keep =
      lands-by (GoAfter w.stop) (Go element) rest (verdict-next element is ∙ ap (unit_stop_verdict t start us w) keep) (at-rest ∙ ap (λ n. onto n rest) is)

  pub unit-break : (element : UnitElement) → stop.next ≡ Some element → stop.entry ≡ BreakEntry → LandsOn (step_unless stop.before.detail.is_joined element) rest
  unit-break element is break =
      lands-by (unless stop.before.detail.is_joined w.stop) (step_unless stop.before.detail.is_joined element) rest
      (verdict-next element is ∙ ap (unit_stop_verdict t start us w) break ∙ ap (λ b. unless b w.stop) joined-stop)
      (lands-unless stop.before.detail.is_joined w.stop es element rest (at-rest ∙ ap (λ n. onto n rest) is))

  back-stop : (e : BreakState) → (e ≡ Keep → ⊥) → (e ≡ BreakEntry → ⊥) → unit_stop_verdict t start us w e ≡ unless (is_taken_from t start us w Found.SavedByUnit) w.saved
  back-stop Keep keep break = absurd (keep refl)
  back-stop BreakEntry keep break = absurd (break refl)
  back-stop NoMatch keep break = refl
  back-stop (Index q) keep break = refl
  back-stop (Intermediate q) keep break = refl

  pub unit-back : (element : UnitElement) (taken_away : Bool) → stop.next ≡ Some element → (stop.entry ≡ Keep → ⊥) → (stop.entry ≡ BreakEntry → ⊥)
      → taken_away ≡ (stop.saved_before.detail.is_joined || (stop.before.detail.is_joined && is_class t start)) → LandsOn (step_unless taken_away stop.saved) (left_of stop.saved_rest)
  unit-back element taken_away is keep break taken =
      let same : is_taken_from t start us w Found.SavedByUnit ≡ taken_away =
      ap (λ b. b || (joined_before us w.stop && is_class t start)) joined-saved
      ∙ ap (λ b. stop.saved_before.detail.is_joined || (b && is_class t start)) joined-stop ∙ sym taken in
      lands-by (unless taken_away w.saved) (step_unless taken_away stop.saved) (left_of stop.saved_rest)
      (verdict-next element is ∙ back-stop stop.entry keep break ∙ ap (λ b. unless b w.saved) same)
      (lands-unless taken_away w.saved es stop.saved (left_of stop.saved_rest) at-saved)

  pub unit-end-back : stop.next ≡ None → stop.entry ≡ NoMatch → LandsOn (step_unless stop.saved_before.detail.is_joined stop.saved) (left_of stop.saved_rest)
  unit-end-back is no_match =
      lands-by (unless stop.saved_before.detail.is_joined w.saved) (step_unless stop.saved_before.detail.is_joined stop.saved) (left_of stop.saved_rest)
      (verdict-end is ∙ ap (unit_end_verdict t start us w) no_match ∙ ap (λ b. unless b w.saved) joined-saved)
      (lands-unless stop.saved_before.detail.is_joined w.saved es stop.saved (left_of stop.saved_rest) at-saved)

  at-end : (e : BreakState) → (e ≡ NoMatch → ⊥) → unit_end_verdict t start us w e ≡ BreakAfter w.stop 0
  at-end NoMatch other = absurd (other refl)
  at-end Keep other = refl
  at-end BreakEntry other = refl
  at-end (Index q) other = refl
  at-end (Intermediate q) other = refl

  pub unit-end : stop.next ≡ None → (stop.entry ≡ NoMatch → ⊥) → LandsOn (End 0) rest
  unit-end is other =
      lands-by (BreakAfter w.stop 0) (End 0) rest (verdict-end is ∙ at-end stop.entry other)
      (refl, at-rest ∙ ap (λ n. onto n rest) is ∙ at.at_end is, at.at_end is)

-- the step of the table from two units

abbrev first-verdict : PairTable → UnitElement → UnitElement → List UnitElement → BreakState → Verdict
first-verdict t left right after entry = unit_first_verdict t (unit_seen left) (units_seen (left ∷ right ∷ after)) entry

pub first-lands : (t : PairTable) (left right : UnitElement) (after : List UnitElement) (entry : BreakState) (step : Step UnitDetail) (rest : List UnitElement)
    → entry ≡ entry_of t left.class right.class → Lands (first-verdict t left right after entry) (left ∷ right ∷ after) step rest
    → Lands (first-verdict t left right after (entry_of t left.class right.class)) (left ∷ right ∷ after) step rest
first-lands t left right after entry step rest is lands = subst (λ e. Lands (first-verdict t left right after e) (left ∷ right ∷ after) step rest) is lands

-- where the entry names a state, the verdict is that of the walk from there
pub first-named : (t : PairTable) (left right : UnitElement) (after : List UnitElement) (entry : BreakState) (state : ℕ)
    → entry ≡ entry_of t left.class right.class → named_state entry ≡ Some state
    → first-verdict t left right after (entry_of t left.class right.class) ≡ unit_named_verdict t state (unit_seen left) (units_seen (left ∷ right ∷ after))
first-named t left right after entry state is names = ap (first-verdict t left right after) (sym is) ∙ by_walk entry names
  where
    by_walk : (entry : BreakState) → named_state entry ≡ Some state
        → first-verdict t left right after entry ≡ unit_named_verdict t state (unit_seen left) (units_seen (left ∷ right ∷ after))
    by_walk BreakEntry names = cc
    by_walk Keep names = cc
    by_walk NoMatch names = cc
    by_walk (Index q) names = cc
    by_walk (Intermediate q) names = cc

-- where it names none, and isn't `Keep`, a boundary stands between the two, unless it is taken away
pub first-between : (walk : ℕ → Verdict) (t : PairTable) (left right : UnitElement) (after : List UnitElement) (entry : BreakState)
    → entry ≡ entry_of t left.class right.class → named_state entry ≡ None → (entry ≡ Keep → ⊥)
    → LandsOrWalks walk (first-verdict t left right after (entry_of t left.class right.class)) (left ∷ right ∷ after) (step_unless left.detail.is_joined right) after
first-between walk t left right after entry is none other =
    no-walk left.detail.is_joined (first-lands t left right after entry (step_unless left.detail.is_joined right) after is (by entry none other))
  where
    by : (entry : BreakState) → named_state entry ≡ None → (entry ≡ Keep → ⊥) → Lands (first-verdict t left right after entry) (left ∷ right ∷ after) (step_unless left.detail.is_joined right) after
    by BreakEntry none other = lands-unless left.detail.is_joined 1 (left ∷ right ∷ after) right after refl
    by Keep none other = absurd (other refl)
    by NoMatch none other = lands-unless left.detail.is_joined 1 (left ∷ right ∷ after) right after refl
    by (Index q) none other = cc
    by (Intermediate q) none other = cc

    no-walk : (b : Bool) → Lands (first-verdict t left right after (entry_of t left.class right.class)) (left ∷ right ∷ after) (step_unless b right) after
        → LandsOrWalks walk (first-verdict t left right after (entry_of t left.class right.class)) (left ∷ right ∷ after) (step_unless b right) after
    no-walk true lands = lands
    no-walk false lands = lands

-- the step from a unit

pub unit-last : (rules : TableRules Classic) (left : UnitElement) (after rest : List UnitElement) → after ≡ [] → rest ≡ []
    → Lands (unit_verdict rules (units_seen (left ∷ after))) (left ∷ after) (End 0) rest
unfolding unit_verdict
unit-last rules left after rest is none = rw is (refl, refl, none)

pub unit-case : (rules : TableRules Classic) (left right : UnitElement) (after more : List UnitElement) (case : Case) (step : Step UnitDetail) (rest : List UnitElement)
    → after ≡ right ∷ more → case ≡ case_of rules (unit_seen left) (unit_seen right)
    → Lands (case_verdict rules.table (unit_seen left) (unit_seen right) (units_seen (left ∷ right ∷ more)) case) (left ∷ right ∷ more) step rest
    → Lands (unit_verdict rules (units_seen (left ∷ after))) (left ∷ after) step rest
unfolding unit_verdict
unit-case rules left right after more case step rest is which lands =
    rw is
    (subst (λ c. Lands (case_verdict rules.table (unit_seen left) (unit_seen right) (units_seen (left ∷ right ∷ more)) c) (left ∷ right ∷ more) step rest) which lands)

abbrev walk-of : PairTable → UnitElement → List UnitElement → ℕ → Verdict
walk-of t left elements state = unit_named_verdict t state (unit_seen left) (units_seen elements)

pub unit-table : (rules : TableRules Classic) (t : PairTable) (left right : UnitElement) (after more : List UnitElement) (step : Step UnitDetail) (rest : List UnitElement)
    → after ≡ right ∷ more → Table ≡ case_of rules (unit_seen left) (unit_seen right) → t ≡ rules.table
    → LandsOrWalks (walk-of t left (left ∷ right ∷ more)) (first-verdict t left right more (entry_of t left.class right.class)) (left ∷ right ∷ more) step rest
    → LandsOrWalks (walk-of rules.table left (left ∷ after)) (unit_verdict rules (units_seen (left ∷ after))) (left ∷ after) step rest
unfolding unit_verdict
unit-table rules t left right after more step rest is which same lands =
    let by_table = subst (λ t. LandsOrWalks (walk-of t left (left ∷ right ∷ more)) (first-verdict t left right more (entry_of t left.class right.class)) (left ∷ right ∷ more) step rest) same lands in
    rw is
    (subst (λ c. LandsOrWalks (walk-of rules.table left (left ∷ right ∷ more)) (case_verdict rules.table (unit_seen left) (unit_seen right) (units_seen (left ∷ right ∷ more)) c) (left ∷ right ∷ more) step rest)
    which by_table)

-- the element that a step reaches has a class

pub unless-below : (b : Bool) (next : UnitElement) (count : ℕ) → next.class < count → IsStepBelow count (step_unless b next)
unless-below true next count below = below
unless-below false next count below = below
