-- The verdict of a pair table on the first of some elements, from their classes.
use Rattle.std.specs.Prelude.{ℕ, ◌==◌, if◌then◌else◌, List, [], ◌∷◌, drop, ◌≡◌, suc, Option, Some, None, ◌≢◌, zero, ◌+◌, ◌<◌, ◌≤◌, length, IfSome}
use Rattle.std.specs.Option.{option_map_or}
use Rattle.seg_pairs.specs.declared.provider.pairs.BreakState.{BreakState}
use Rattle.seg_pairs.specs.declared.provider.pairs.BreakState.TheVariants.{Break, Keep, NoMatch, Intermediate, Index}
use Rattle.seg_pairs.specs.PairTable.{PairTable, entry_of, named_state}
use Rattle.seg_pairs.specs.Walk.{Walk, walk}
use Rattle.seg_pairs.specs.declared.elements.Element.{Element}
use Rattle.seg_pairs.specs.Elements.{classes_of, onto}
use Rattle.seg_pairs.specs.declared.verdicts.Step.{Step}
use Rattle.seg_pairs.specs.declared.verdicts.Step.TheVariants as steps
use Rattle.seg_pairs.specs.declared.verdicts.Outcome.{Outcome}
use Rattle.seg_pairs.specs.declared.verdicts.Outcome.TheVariants.{Break as BreakOut, Run as RunOut}
use Rattle.seg_pairs.specs.declared.walk.Stop.{Stop}

pub data Verdict : Type 0 where
  -- after so many elements stands a boundary, with a class
  BreakAfter : (taken class : ℕ) → Verdict
  -- none stands before the element after so many, of which the next verdict is asked
  GoAfter : (taken : ℕ) → Verdict
  -- a run of complex elements begins with the first
  RunBegins : Verdict

-- what an entry says that stops a walk before an element
abbrev pub stop_verdict : Walk → BreakState → Verdict
stop_verdict w Keep = GoAfter w.stop
stop_verdict w Break = BreakAfter w.stop w.state
stop_verdict w _ = BreakAfter w.saved w.class

-- what the entry of its state and the end of the text says of a walk that reaches it
abbrev pub end_verdict : Walk → BreakState → Verdict
end_verdict w NoMatch = BreakAfter w.saved w.class
end_verdict w _ = BreakAfter w.stop w.state

abbrev pub walk_verdict : PairTable → Walk → List ℕ → Verdict
walk_verdict t w [] = end_verdict w (entry_of t w.state t.eot_property)
walk_verdict t w (class ∷ classes) = stop_verdict w (entry_of t w.state class)

-- the walk of elements with these classes whose first two name a state: the place before the second is saved, with
-- the class of the first
abbrev pub walk_from : PairTable → ℕ → ℕ → List ℕ → Walk
walk_from t state first after =
    let second : ℕ = 1 in
    let third : ℕ = 2 in
    walk t state third second first after

unfoldable pub named_verdict : PairTable → ℕ → ℕ → List ℕ → Verdict
named_verdict t state first classes =
    let w = walk_from t state first (drop 2 classes) in
    walk_verdict t w (drop w.stop classes)

-- what the entry of the first two classes says
abbrev pub first_verdict : PairTable → ℕ → List ℕ → BreakState → Verdict
first_verdict t first classes Break = BreakAfter 1 first
first_verdict t first classes NoMatch = BreakAfter 1 first
first_verdict t first classes Keep = GoAfter 1
first_verdict t first classes (Index state) = named_verdict t state first classes
first_verdict t first classes (Intermediate state) = named_verdict t state first classes

-- what means the verdict on no elements, which is never asked for
abbrev pub unasked : Verdict
unasked = RunBegins

-- the verdict of the table on the first of some elements with these classes
unfoldable pub verdict : PairTable → List ℕ → Verdict
verdict t [] = unasked
verdict t (first ∷ []) = BreakAfter 1 first
verdict t (first ∷ second ∷ after) = first_verdict t first (first ∷ second ∷ after) (entry_of t first second)

-- the verdict where elements may be complex: a boundary stands before one after another, and two begin a run
unfoldable pub complex_verdict : PairTable → List ℕ → Verdict
complex_verdict t [] = unasked
complex_verdict t (first ∷ []) = BreakAfter 1 first
complex_verdict t (first ∷ second ∷ after) =
    if second == t.complex_property
    then (if first == t.complex_property then RunBegins else BreakAfter 1 first)
    else verdict t (first ∷ second ∷ after)

-- Where a walk over elements stops.

-- the class of the next element, or else of the end of the text
abbrev pub class_at : {D : Type 0} → PairTable → Option (Element D) → ℕ
class_at {D} t next = option_map_or (λ (element : Element D). element.class) next t.eot_property

-- the walk of these elements, whose first two name a state
abbrev pub walk_of : {D : Type 0} → PairTable → ℕ → List (Element D) → Walk
walk_of t start [] = walk_from t start 0 []
walk_of t start (first ∷ []) = walk_from t start first.class []
walk_of t start (first ∷ second ∷ after) = walk_from t start first.class (classes_of after)

-- the walk of `elements` stops so, where an entry names no state or the text ends, and `left` come after
pub record IsStop
    {E D : Type 0} (left_of : E → List (Element D)) (t : PairTable) (start : ℕ) (elements : List (Element D)) (stop : Stop E D)
    (left : List (Element D)) : Type 0 where
  pub passed : ℕ
  pub stops : (walk_of t start elements).stop ≡ suc passed
  pub left_after : stop.before ∷ onto stop.next left ≡ drop passed elements
  pub in_state : (walk_of t start elements).state ≡ stop.state
  pub at_entry : stop.entry ≡ entry_of t stop.state (class_at t stop.next)
  pub names_none : (element : Element D) → stop.next ≡ Some element → named_state stop.entry ≡ None
  pub at_end : stop.next ≡ None → left ≡ []
  pub saved_passed : ℕ
  pub saves : (walk_of t start elements).saved ≡ suc saved_passed
  pub saved_after : stop.saved_before ∷ stop.saved ∷ left_of stop.saved_rest ≡ drop saved_passed elements
  pub saved_class : (walk_of t start elements).class ≡ stop.saved_class

-- Chains of verdicts: where those to go on lead.

-- where the verdicts to go on lead from the first of these elements, at most so many of them: how many elements they
-- take, and the verdict there
abbrev pub go_on : (ℕ → ℕ × Verdict) → Verdict → ℕ × Verdict
go_on from (GoAfter taken) = (taken + (from taken).0, (from taken).1)
go_on from (BreakAfter taken class) = (0, BreakAfter taken class)
go_on from RunBegins = (0, RunBegins)

unfoldable pub chain_within : {X : Type 0} → (List X → Verdict) → ℕ → List X → ℕ × Verdict
chain_within verdict zero xs = (0, verdict xs)
chain_within verdict (suc most) xs = go_on (λ taken. chain_within verdict most (drop taken xs)) (verdict xs)

unfoldable pub chain : {X : Type 0} → (List X → Verdict) → List X → ℕ × Verdict
chain verdict xs = chain_within verdict (length xs) xs

-- a verdict takes some of the elements; to go on it leaves some
abbrev pub TakesOf : ℕ → Verdict → Type 0
TakesOf count (BreakAfter taken class) = (0 < taken) × (taken ≤ count)
TakesOf count (GoAfter taken) = (0 < taken) × (taken < count)
TakesOf count RunBegins = Unit {0}

abbrev pub IsForward : {X : Type 0} → (List X → Verdict) → Type 0
IsForward {X} verdict = (x : X) (xs : List X) → TakesOf (length (x ∷ xs)) (verdict (x ∷ xs))

abbrev pub HasNoRun : {X : Type 0} → (List X → Verdict) → Type 0
HasNoRun {X} verdict = (x : X) (xs : List X) → verdict (x ∷ xs) ≢ RunBegins

-- Steps of an engine: what a verdict on the first of some elements leads to, and which are left.

-- the next element, which was read already, and those after it; or none
abbrev pub IsRest : {D : Type 0} → Option (Element D) → List (Element D) → List (Element D) → Type 0
IsRest None left elements = (elements ≡ []) × (left ≡ [])
IsRest (Some next) left elements = elements ≡ next ∷ left

-- the step is what the verdict says, and leaves the elements after those that it takes
abbrev pub Lands : {D : Type 0} → Verdict → List (Element D) → Step D → List (Element D) → Type 0
Lands (BreakAfter taken with_class) elements (steps.Break next class) left = (class ≡ with_class) × (drop taken elements ≡ next ∷ left)
Lands (BreakAfter taken with_class) elements (steps.End class) left = (class ≡ with_class) × (drop taken elements ≡ []) × (left ≡ [])
Lands (GoAfter taken) elements (steps.Go next) left = drop taken elements ≡ next ∷ left
Lands RunBegins elements (steps.Run second) left = drop 1 elements ≡ second ∷ left
Lands verdict elements step left = ⊥

-- the verdict is known, or the first two elements name a state, and the verdict is that of the walk from there
abbrev pub LandsOrWalks : {D : Type 0} → (ℕ → Verdict) → Verdict → List (Element D) → Step D → List (Element D) → Type 0
LandsOrWalks walk verdict elements (steps.Walk second state) left = (verdict ≡ walk state) × (drop 1 elements ≡ second ∷ left)
LandsOrWalks walk verdict elements step left = Lands verdict elements step left

-- the outcome is what the verdict at the end of a chain says, after the elements that the chain takes
abbrev pub EndsIn : {D : Type 0} → ℕ × Verdict → List (Element D) → Outcome D → List (Element D) → Type 0
EndsIn (gone, BreakAfter taken with_class) elements (BreakOut class next) left = (class ≡ with_class) × IsRest next left (drop (gone + taken) elements)
EndsIn (gone, RunBegins) elements (RunOut first second) left = drop gone elements ≡ first ∷ second ∷ left
EndsIn found elements outcome left = ⊥

-- the class of the element that was read already is below this number, and so is the state of a walk
abbrev pub IsStepBelow : {D : Type 0} → ℕ → Step D → Type 0
IsStepBelow count (steps.Break next class) = next.class < count
IsStepBelow count (steps.End class) = Unit {0}
IsStepBelow count (steps.Go next) = next.class < count
IsStepBelow count (steps.Run second) = second.class < count
IsStepBelow count (steps.Walk second state) = (second.class < count) × (state < count)

abbrev pub IsOutcomeBelow : {D : Type 0} → ℕ → Outcome D → Type 0
IsOutcomeBelow count (BreakOut class next) = IfSome next (λ next. next.class < count)
IsOutcomeBelow count (RunOut first second) = (first.class < count) × (second.class < count)
