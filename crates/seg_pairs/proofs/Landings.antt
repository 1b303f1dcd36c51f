-- What a walk's stop says.
use Rattle.std.proofs.Common.{◌≡◌, ◌≢◌, ℕ, suc, ◌<◌, ◌==◌, Bool, true, cond, Option, Some, None, List, [], ◌∷◌, length, drop, refl, sym, ap, ◌∙◌, subst, arith, eq-eqb}
use Rattle.std.proofs.lemmas.Bool.{ne_eqb}
use Rattle.std.proofs.lemmas.List.{drop-map, drop-drop, drop_all, length-drop}
use Rattle.seg_pairs.specs.declared.provider.pairs.BreakState.{BreakState}
use Rattle.seg_pairs.specs.declared.provider.pairs.BreakState.TheVariants.{Break as BreakEntry, Keep, NoMatch, Intermediate, Index}
use Rattle.seg_pairs.specs.PairTable.{PairTable, entry_of, named_state}
use Rattle.seg_pairs.specs.declared.elements.Element.{Element}
use Rattle.seg_pairs.specs.Elements.{classes_of, onto}
use Rattle.seg_pairs.specs.Walk.{Walk}
use Rattle.seg_pairs.specs.Verdict.{Verdict, stop_verdict, end_verdict, walk_verdict, named_verdict, first_verdict, verdict, complex_verdict, IsStop, class_at, walk_of, Lands, LandsOrWalks, EndsIn, IsRest, chain, TakesOf, IsForward}
use Rattle.seg_pairs.specs.declared.walk.Stop.{Stop}
use Rattle.seg_pairs.specs.declared.verdicts.Step.{Step}
use Rattle.seg_pairs.specs.declared.verdicts.Step.TheVariants.{Break, End, Go, Run, Walk as WalkOn}
use Rattle.seg_pairs.specs.declared.verdicts.Outcome.{Outcome}
use Rattle.seg_pairs.specs.declared.verdicts.Outcome.TheVariants.{Break as BreakOut, Run as RunOut}
use Rattle.seg_pairs.proofs.Chains.{IsOnChain, chain-break, chain-run}
use Rattle.seg_pairs.specs.Verdict.Verdict.{BreakAfter, GoAfter, RunBegins}
use Rattle.seg_pairs.proofs.Walks.{drop-next}

-- what the stop of a walk from `left` and `right` says
module _ {E D : Type 0} (left_of : E → List (Element D)) (t : PairTable) (start : ℕ) (left right : Element D) (after : List (Element D)) (stop : Stop E D)
    (rest : List (Element D)) (at : IsStop left_of t start (left ∷ right ∷ after) stop rest) where
  abbrev pub w : Walk
  w = walk_of t start (left ∷ right ∷ after)

  pub rest-at : drop w.stop (left ∷ right ∷ after) ≡ onto stop.next rest
  rest-at = ap (λ n. drop n (left ∷ right ∷ after)) at.stops ∙ sym (drop-next (left ∷ right ∷ after) (onto stop.next rest) stop.before at.passed at.left_after)

  pub saved-at : drop w.saved (left ∷ right ∷ after) ≡ stop.saved ∷ left_of stop.saved_rest
  saved-at = ap (λ n. drop n (left ∷ right ∷ after)) at.saves ∙ sym (drop-next (left ∷ right ∷ after) (stop.saved ∷ left_of stop.saved_rest) stop.saved_before at.saved_passed at.saved_after)

  verdict-next : (element : Element D) → stop.next ≡ Some element → named_verdict t start left.class (classes_of (left ∷ right ∷ after)) ≡ stop_verdict w stop.entry
  unfolding named_verdict
  verdict-next element is =
      let there : drop w.stop (classes_of (left ∷ right ∷ after)) ≡ element.class ∷ classes_of rest =
      drop-map (λ (e : Element D). e.class) w.stop (left ∷ right ∷ after)
      ∙ ap classes_of (rest-at ∙ ap (λ n. onto n rest) is) in
      ap (walk_verdict t w) there
      ∙ ap (λ q. stop_verdict w (entry_of t q element.class)) at.in_state
      ∙ ap (stop_verdict w) (sym (at.at_entry ∙ ap (λ n. entry_of t stop.state (class_at t n)) is))

  verdict-end : stop.next ≡ None → named_verdict t start left.class (classes_of (left ∷ right ∷ after)) ≡ end_verdict w stop.entry
  unfolding named_verdict
  verdict-end is =
      let there : drop w.stop (classes_of (left ∷ right ∷ after)) ≡ [] =
      drop-map (λ (e : Element D). e.class) w.stop (left ∷ right ∷ after)
      ∙ ap classes_of (rest-at ∙ ap (λ n. onto n rest) is ∙ at.at_end is) in
      ap (walk_verdict t w) there
      ∙ ap (λ q. end_verdict w (entry_of t q t.eot_property)) at.in_state
      ∙ ap (end_verdict w) (sym (at.at_entry ∙ ap (λ n. entry_of t stop.state (class_at t n)) is))

  abbrev LandsOn : Step D → List (Element D) → Type 0
  LandsOn step left_over = Lands (named_verdict t start left.class (classes_of (left ∷ right ∷ after))) (left ∷ right ∷ after) step left_over

  lands-by : (v : Verdict) (step : Step D) (left_over : List (Element D)) → named_verdict t start left.class (classes_of (left ∷ right ∷ after)) ≡ v
      → Lands v (left ∷ right ∷ after) step left_over → LandsOn step left_over
  lands-by v step left_over is lands = subst (λ v. Lands v (left ∷ right ∷ after) step left_over) (sym is) lands

  pub lands-go : (element : Element D) → stop.next ≡ Some element → stop.entry ≡ Keep → LandsOn (Go element) rest
  lands-go element is keep =
      lands-by (GoAfter w.stop) (Go element) rest (verdict-next element is ∙ ap (stop_verdict w) keep) (rest-at ∙ ap (λ n. onto n rest) is)

  pub lands-break : (element : Element D) → stop.next ≡ Some element → stop.entry ≡ BreakEntry → LandsOn (Break element stop.state) rest
  lands-break element is break =
      lands-by (BreakAfter w.stop w.state) (Break element stop.state) rest (verdict-next element is ∙ ap (stop_verdict w) break)
      (sym at.in_state, rest-at ∙ ap (λ n. onto n rest) is)

  back-stop : (e : BreakState) → (e ≡ Keep → ⊥) → (e ≡ BreakEntry → ⊥) → stop_verdict w e ≡ BreakAfter w.saved w.class
  back-stop Keep keep break = absurd (keep refl)
  back-stop BreakEntry keep break = absurd (break refl)
  back-stop NoMatch keep break = refl
  back-stop (Index q) keep break = refl
  back-stop (Intermediate q) keep break = refl

  pub lands-back : (element : Element D) → stop.next ≡ Some element → (stop.entry ≡ Keep → ⊥) → (stop.entry ≡ BreakEntry → ⊥) → LandsOn (Break stop.saved stop.saved_class) (left_of stop.saved_rest)
  lands-back element is keep break =
      lands-by (BreakAfter w.saved w.class) (Break stop.saved stop.saved_class) (left_of stop.saved_rest) (verdict-next element is ∙ back-stop stop.entry keep break) (sym at.saved_class, saved-at)

  pub lands-end-back : stop.next ≡ None → stop.entry ≡ NoMatch → LandsOn (Break stop.saved stop.saved_class) (left_of stop.saved_rest)
  lands-end-back is no_match =
      lands-by (BreakAfter w.saved w.class) (Break stop.saved stop.saved_class) (left_of stop.saved_rest) (verdict-end is ∙ ap (end_verdict w) no_match) (sym at.saved_class, saved-at)

  at-end : (e : BreakState) → (e ≡ NoMatch → ⊥) → end_verdict w e ≡ BreakAfter w.stop w.state
  at-end NoMatch other = absurd (other refl)
  at-end Keep other = refl
  at-end BreakEntry other = refl
  at-end (Index q) other = refl
  at-end (Intermediate q) other = refl

  pub lands-end : stop.next ≡ None → (stop.entry ≡ NoMatch → ⊥) → LandsOn (End stop.state) rest
  lands-end is other =
      lands-by (BreakAfter w.stop w.state) (End stop.state) rest (verdict-end is ∙ at-end stop.entry other)
      (sym at.in_state, rest-at ∙ ap (λ n. onto n rest) is ∙ at.at_end is, at.at_end is)

-- the step where the first entry names a state, or says what there is

pub lands-first : {D : Type 0} (t : PairTable) (left right : Element D) (after : List (Element D)) (entry : BreakState) (step : Step D) (rest : List (Element D))
    → entry ≡ entry_of t left.class right.class
    → Lands (first_verdict t left.class (classes_of (left ∷ right ∷ after)) entry) (left ∷ right ∷ after) step rest
    → Lands (verdict t (classes_of (left ∷ right ∷ after))) (left ∷ right ∷ after) step rest
unfolding verdict
lands-first t left right after entry step rest is lands =
    subst (λ e. Lands (first_verdict t left.class (classes_of (left ∷ right ∷ after)) e) (left ∷ right ∷ after) step rest) is lands

-- where the entry names a state, the verdict is that of the walk from there
pub walk-named : {D : Type 0} (t : PairTable) (left right : Element D) (after : List (Element D)) (entry : BreakState) (state : ℕ)
    → entry ≡ entry_of t left.class right.class → named_state entry ≡ Some state
    → verdict t (classes_of (left ∷ right ∷ after)) ≡ named_verdict t state left.class (classes_of (left ∷ right ∷ after))
unfolding verdict
walk-named t left right after entry state is names =
    ap (first_verdict t left.class (classes_of (left ∷ right ∷ after))) (sym is) ∙ by_walk entry names
  where
    by_walk : (entry : BreakState) → named_state entry ≡ Some state
        → first_verdict t left.class (classes_of (left ∷ right ∷ after)) entry ≡ named_verdict t state left.class (classes_of (left ∷ right ∷ after))
    by_walk BreakEntry names = cc
    by_walk Keep names = cc
    by_walk NoMatch names = cc
    by_walk (Index q) names = cc
    by_walk (Intermediate q) names = cc

-- where it names none, and isn't `Keep`, a boundary stands between the two
pub lands-between : {D : Type 0} (t : PairTable) (left right : Element D) (after : List (Element D)) (entry : BreakState)
    → entry ≡ entry_of t left.class right.class → named_state entry ≡ None → (entry ≡ Keep → ⊥)
    → Lands (verdict t (classes_of (left ∷ right ∷ after))) (left ∷ right ∷ after) (Break right left.class) after
lands-between t left right after BreakEntry is none other = lands-first t left right after BreakEntry _ after is (refl, refl)
lands-between t left right after Keep is none other = absurd (other refl)
lands-between t left right after NoMatch is none other = lands-first t left right after NoMatch _ after is (refl, refl)
lands-between t left right after (Index q) is none other = cc
lands-between t left right after (Intermediate q) is none other = cc

-- the step from the last element
pub lands-last : {D : Type 0} (t : PairTable) (left : Element D) (after rest : List (Element D)) → after ≡ [] → rest ≡ []
    → Lands (verdict t (classes_of (left ∷ after))) (left ∷ after) (End left.class) rest
unfolding verdict
lands-last t left after rest is none = rw is (refl, refl, none)

-- the steps where elements may be complex

pub complex-last : {D : Type 0} (t : PairTable) (left : Element D) (after rest : List (Element D)) → after ≡ [] → rest ≡ []
    → Lands (complex_verdict t (classes_of (left ∷ after))) (left ∷ after) (End left.class) rest
unfolding complex_verdict
complex-last t left after rest is none = rw is (refl, refl, none)

abbrev by-complex : {D : Type 0} → PairTable → Element D → Element D → List (Element D) → Bool → Bool → Verdict
by-complex t left right more second first =
    cond second (cond first RunBegins (BreakAfter 1 left.class)) (verdict t (classes_of (left ∷ right ∷ more)))

pub complex-pair : {D : Type 0} (walk : List (Element D) → ℕ → Verdict) (t : PairTable) (left right : Element D) (after more : List (Element D)) (step : Step D) (rest : List (Element D))
    → after ≡ right ∷ more → right.class ≢ t.complex_property
    → LandsOrWalks (walk (left ∷ right ∷ more)) (verdict t (classes_of (left ∷ right ∷ more))) (left ∷ right ∷ more) step rest
    → LandsOrWalks (walk (left ∷ after)) (complex_verdict t (classes_of (left ∷ after))) (left ∷ after) step rest
unfolding complex_verdict
complex-pair walk t left right after more step rest is other lands =
    rw is
    (subst (λ b. LandsOrWalks (walk (left ∷ right ∷ more)) (by-complex t left right more b (left.class == t.complex_property)) (left ∷ right ∷ more) step rest)
    (sym (ne_eqb right.class t.complex_property other)) lands)

pub complex-break : {D : Type 0} (t : PairTable) (left right : Element D) (after more : List (Element D))
    → after ≡ right ∷ more → right.class ≡ t.complex_property → left.class ≢ t.complex_property
    → Lands (complex_verdict t (classes_of (left ∷ after))) (left ∷ after) (Break right left.class) more
unfolding complex_verdict
complex-break t left right after more is complex other =
    rw is
    (subst (λ b. Lands (by-complex t left right more b (left.class == t.complex_property)) (left ∷ right ∷ more) (Break right left.class) more) (sym (eq-eqb right.class t.complex_property complex))
    (subst (λ b. Lands (by-complex t left right more true b) (left ∷ right ∷ more) (Break right left.class) more) (sym (ne_eqb left.class t.complex_property other)) (refl, refl)))

pub complex-run : {D : Type 0} (t : PairTable) (left right : Element D) (after more : List (Element D))
    → after ≡ right ∷ more → right.class ≡ t.complex_property → left.class ≡ t.complex_property
    → Lands (complex_verdict t (classes_of (left ∷ after))) (left ∷ after) (Run right) more
unfolding complex_verdict
complex-run t left right after more is complex same =
    rw is
    (subst (λ b. Lands (by-complex t left right more b (left.class == t.complex_property)) (left ∷ right ∷ more) (Run right) more) (sym (eq-eqb right.class t.complex_property complex))
    (subst (λ b. Lands (by-complex t left right more true b) (left ∷ right ∷ more) (Run right) more) (sym (eq-eqb left.class t.complex_property same)) refl))

-- the step of a walk that decides a verdict

pub walk-lands : {D : Type 0} (walk : List (Element D) → ℕ → Verdict) (verdict : Verdict) (left right : Element D) (after more : List (Element D)) (state : ℕ) (step : Step D) (rest : List (Element D))
    → LandsOrWalks (walk (left ∷ after)) verdict (left ∷ after) (WalkOn right state) more
    → Lands (walk (left ∷ right ∷ more) state) (left ∷ right ∷ more) step rest → Lands verdict (left ∷ after) step rest
walk-lands {D} walk verdict left right after more state step rest (is, here) lands =
    subst (λ v. Lands v (left ∷ after) step rest) (sym is)
    (subst (λ (elements : List (Element D)). Lands (walk (left ∷ elements) state) (left ∷ elements) step rest) (sym here) lands)

-- the step where a chain of verdicts ends

module _ {D : Type 0} (v : List (Element D) → Verdict) (whole : List (Element D)) (x : Element D) (xs : List (Element D)) (forward : IsForward v) (on : IsOnChain v whole x xs) where
  ends-at : (outcome : Outcome D) (rest : List (Element D)) (w : Verdict) → chain v (x ∷ xs) ≡ (0, w)
      → EndsIn (on.gone, w) whole outcome rest → EndsIn (chain v whole) whole outcome rest
  ends-at outcome rest w end ends =
      let passed : (chain v whole).0 ≡ on.gone = omega (arith, on.passed, ap (λ (f : ℕ × Verdict). f.0) end) in
      let last : (chain v whole).1 ≡ w = on.last ∙ ap (λ (f : ℕ × Verdict). f.1) end in
      let whole_is : (on.gone, w) ≡ chain v whole = ap (λ (n : ℕ). (n, w)) (sym passed) ∙ ap (λ (u : Verdict). ((chain v whole).0, u)) (sym last) in
      subst (λ (f : ℕ × Verdict). EndsIn f whole outcome rest) whole_is ends

  ends-boundary : (class : ℕ) (next : Option (Element D)) (rest : List (Element D)) (n with_class : ℕ) → v (x ∷ xs) ≡ BreakAfter n with_class
      → class ≡ with_class → IsRest next rest (drop n (x ∷ xs)) → EndsIn (chain v whole) whole (BreakOut class next) rest
  ends-boundary class next rest n with_class is same left =
      ends-at (BreakOut class next) rest (BreakAfter n with_class) (chain-break v forward x xs n with_class is)
      (same, subst (λ elements. IsRest next rest elements) (ap (drop n) on.here ∙ drop-drop n on.gone whole) left)

  pub ends-break : (class : ℕ) (next : Element D) (rest : List (Element D)) → Lands (v (x ∷ xs)) (x ∷ xs) (Break next class) rest
      → EndsIn (chain v whole) whole (BreakOut class (Some next)) rest
  ends-break class next rest lands = by (v (x ∷ xs)) refl lands
    where
      by : (w : Verdict) → v (x ∷ xs) ≡ w → Lands w (x ∷ xs) (Break next class) rest → EndsIn (chain v whole) whole (BreakOut class (Some next)) rest
      by (BreakAfter n with_class) is (same, left) = ends-boundary class (Some next) rest n with_class is same left
      by (GoAfter n) is lands = absurd lands
      by RunBegins is lands = absurd lands

  pub ends-end : (class : ℕ) (rest : List (Element D)) → Lands (v (x ∷ xs)) (x ∷ xs) (End class) rest
      → EndsIn (chain v whole) whole (BreakOut class None) rest
  ends-end class rest lands = by (v (x ∷ xs)) refl lands
    where
      by : (w : Verdict) → v (x ∷ xs) ≡ w → Lands w (x ∷ xs) (End class) rest → EndsIn (chain v whole) whole (BreakOut class None) rest
      by (BreakAfter n with_class) is (same, at_end, none) = ends-boundary class None rest n with_class is same (at_end, none)
      by (GoAfter n) is lands = absurd lands
      by RunBegins is lands = absurd lands

  pub ends-run : (second : Element D) (rest : List (Element D)) → Lands (v (x ∷ xs)) (x ∷ xs) (Run second) rest
      → EndsIn (chain v whole) whole (RunOut x second) rest
  ends-run second rest lands = by (v (x ∷ xs)) refl lands
    where
      by : (w : Verdict) → v (x ∷ xs) ≡ w → Lands w (x ∷ xs) (Run second) rest → EndsIn (chain v whole) whole (RunOut x second) rest
      by (BreakAfter n with_class) is lands = absurd lands
      by (GoAfter n) is lands = absurd lands
      by RunBegins is lands =
          ends-at (RunOut x second) rest RunBegins (chain-run v forward x xs is)
          (sym on.here ∙ ap (λ (elements : List (Element D)). x ∷ elements) lands)

-- a step to go on, by the verdict that says so
pub record Goes {D : Type 0} (v : List (Element D) → Verdict) (x : Element D) (xs : List (Element D)) (next : Element D) (rest : List (Element D)) : Type 0 where
  pub taken : ℕ
  pub goes : v (x ∷ xs) ≡ GoAfter taken
  pub here : drop taken (x ∷ xs) ≡ next ∷ rest
  pub fewer : length rest < length xs

pub goes-from : {D : Type 0} (v : List (Element D) → Verdict) (x : Element D) (xs : List (Element D)) (next : Element D) (rest : List (Element D)) → IsForward v
    → Lands (v (x ∷ xs)) (x ∷ xs) (Go next) rest → Goes v x xs next rest
goes-from v x xs next rest forward lands = by (v (x ∷ xs)) refl (forward x xs) lands
  where
    by : (w : Verdict) → v (x ∷ xs) ≡ w → TakesOf (length (x ∷ xs)) w → Lands w (x ∷ xs) (Go next) rest → Goes v x xs next rest
    by (BreakAfter n class) is takes lands = absurd lands
    by RunBegins is takes lands = absurd lands
    by (GoAfter n) is takes lands = record {
      taken = n;
      goes = is;
      here = lands;
      fewer = let long = length-drop n (x ∷ xs) in let some = ap length lands in omega (arith, long, some, takes.0);
    }

-- where a walk stops, and the place that it saved, are further on in the same elements

later-two : {D : Type 0} (left right first second : Element D) (after rest : List (Element D)) (passed : ℕ) → first ∷ second ∷ rest ≡ drop passed (left ∷ right ∷ after)
    → rest ≡ drop passed after
later-two left right first second after rest passed here =
    let whole = left ∷ right ∷ after in
    drop-next whole rest second (suc passed) (drop-next whole (second ∷ rest) first passed here)

later-rest : {D : Type 0} (left right before : Element D) (next : Option (Element D)) (after rest : List (Element D)) (passed : ℕ)
    → before ∷ onto next rest ≡ drop passed (left ∷ right ∷ after) → (next ≡ None → rest ≡ []) → (k : ℕ) × (rest ≡ drop k after)
later-rest left right before None after rest passed here none = (length after, none refl ∙ sym (drop_all (length after) after (omega arith)))
later-rest left right before (Some next) after rest passed here none = (passed, later-two left right before next after rest passed here)

pub later-stop : {E D : Type 0} (left_of : E → List (Element D)) (t : PairTable) (start : ℕ) (left right : Element D) (after : List (Element D)) (stop : Stop E D)
    (rest : List (Element D)) → IsStop left_of t start (left ∷ right ∷ after) stop rest → (k : ℕ) × (rest ≡ drop k after)
later-stop left_of t start left right after stop rest at =
    later-rest left right stop.before stop.next after rest at.passed at.left_after at.at_end

pub later-saved : {E D : Type 0} (left_of : E → List (Element D)) (t : PairTable) (start : ℕ) (left right : Element D) (after : List (Element D)) (stop : Stop E D)
    (rest : List (Element D)) → IsStop left_of t start (left ∷ right ∷ after) stop rest → (k : ℕ) × (left_of stop.saved_rest ≡ drop k after)
later-saved left_of t start left right after stop rest at =
    (at.saved_passed, later-two left right stop.saved_before stop.saved after (left_of stop.saved_rest) at.saved_passed at.saved_after)
