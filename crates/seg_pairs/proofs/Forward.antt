-- A verdict takes some of the elements, and one to go on leaves some.
use Rattle.std.proofs.Common.{◌≡◌, ◌≢◌, ℕ, suc, ◌+◌, ◌<◌, ◌≤◌, ◌||◌, ◌==◌, Bool, true, false, cond, List, [], ◌∷◌, length, drop, refl, ap, subst, inl, inr, arith}
use Rattle.std.specs.Prelude.{Contains}
use Rattle.std.proofs.lemmas.Bool.{ne_eqb}
use Rattle.std.proofs.lemmas.List.{length-drop, length-map}
use Rattle.seg_data.proofs.Options.{option-cases}
use Rattle.seg_pairs.specs.declared.provider.pairs.BreakState.{BreakState}
use Rattle.seg_pairs.specs.declared.provider.pairs.BreakState.TheVariants.{Break, Keep, NoMatch, Intermediate, Index}
use Rattle.seg_pairs.specs.PairTable.{named_state, is_intermediate, PairTable, entry_of}
use Rattle.seg_pairs.specs.Walk.{Walk, walk, is_class}
use Rattle.seg_pairs.specs.Verdict.{Verdict, stop_verdict, end_verdict, walk_verdict, named_verdict, first_verdict, verdict, complex_verdict, TakesOf, IsForward, HasNoRun}
use Rattle.seg_pairs.specs.Elements.{classes_of}
use Rattle.seg_pairs.specs.declared.elements.Element.{Element}
use Rattle.seg_pairs.proofs.Walks.{walk-named, walk-stop, walk-end}

-- a walk stops at or after the element before which it is, and was saved before that
pub record Within (number count : ℕ) (w : Walk) : Type 0 where
  pub from : number ≤ w.stop
  pub to : w.stop ≤ number + count
  pub some : 0 < w.saved
  pub before : w.saved < w.stop

pub walk-within : (t : PairTable) (state number saved class : ℕ) (classes : List ℕ) → 0 < saved → saved < number
    → Within number (length classes) (walk t state number saved class classes)
walk-within t state number saved class [] some less =
    rw (walk-end t state number saved class) (record { from = omega arith; to = omega arith; some = some; before = less })
walk-within t state number saved class (next ∷ classes) some less =
    elim (option-cases (named_state (entry_of t state next))) [
      | inl none ↦ rw (walk-stop t state number saved class next classes none) (record { from = omega arith; to = omega arith; some = some; before = less })
      | inr (to, named) ↦
          let b : Bool = is_intermediate (entry_of t state next) || is_class t state in
          let later = walk-within t to (suc number) (cond b number saved) (cond (is_class t state) to class) classes (above b) (below b) in
          rw (walk-named t state number saved class next to classes named)
          (record { from = omega (arith, later.from); to = omega (arith, later.to); some = later.some; before = later.before })
    ]
  where
    above : (b : Bool) → 0 < cond b number saved
    above true = omega arith
    above false = some

    below : (b : Bool) → cond b number saved < suc number
    below true = omega arith
    below false = omega arith

stop-takes : (w : Walk) (entry : BreakState) (number count : ℕ) → 0 < w.saved → w.saved < w.stop → w.stop < count → TakesOf count (stop_verdict w entry)
stop-takes w Keep number count some before within = (omega arith, within)
stop-takes w Break number count some before within = (omega arith, omega arith)
stop-takes w NoMatch number count some before within = (some, omega arith)
stop-takes w (Index q) number count some before within = (some, omega arith)
stop-takes w (Intermediate q) number count some before within = (some, omega arith)

end-takes : (w : Walk) (entry : BreakState) (count : ℕ) → 0 < w.saved → w.saved < w.stop → w.stop ≤ count → TakesOf count (end_verdict w entry)
end-takes w NoMatch count some before within = (some, omega arith)
end-takes w Keep count some before within = (omega arith, within)
end-takes w Break count some before within = (omega arith, within)
end-takes w (Index q) count some before within = (omega arith, within)
end-takes w (Intermediate q) count some before within = (omega arith, within)

named-takes : (t : PairTable) (state first second : ℕ) (after : List ℕ) → TakesOf (length (first ∷ second ∷ after)) (named_verdict t state first (first ∷ second ∷ after))
unfolding named_verdict
named-takes t state first second after =
    let w = walk t state 2 1 first after in
    let within = walk-within t state 2 1 first after (omega arith) (omega arith) in
    on w within (drop w.stop (first ∷ second ∷ after)) refl
  where
    on : (w : Walk) → Within 2 (length after) w → (rest : List ℕ) → drop w.stop (first ∷ second ∷ after) ≡ rest → TakesOf (length (first ∷ second ∷ after)) (walk_verdict t w rest)
    on w within [] is = end-takes w (entry_of t w.state t.eot_property) (length (first ∷ second ∷ after)) within.some within.before (omega (arith, within.to))
    on w within (class ∷ classes) is =
        let long = length-drop w.stop (first ∷ second ∷ after) in
        let left = ap length is in
        stop-takes w (entry_of t w.state class) 0 (length (first ∷ second ∷ after)) within.some within.before (omega (arith, long, left))

first-takes : (t : PairTable) (first second : ℕ) (after : List ℕ) (entry : BreakState) → TakesOf (length (first ∷ second ∷ after)) (first_verdict t first (first ∷ second ∷ after) entry)
first-takes t first second after Break = (omega arith, omega arith)
first-takes t first second after NoMatch = (omega arith, omega arith)
first-takes t first second after Keep = (omega arith, omega arith)
first-takes t first second after (Index q) = named-takes t q first second after
first-takes t first second after (Intermediate q) = named-takes t q first second after

pub verdict-forward : (t : PairTable) → IsForward (verdict t)
unfolding verdict
verdict-forward t first [] = (omega arith, omega arith)
verdict-forward t first (second ∷ after) = first-takes t first second after (entry_of t first second)

pub complex-forward : (t : PairTable) → IsForward (complex_verdict t)
unfolding complex_verdict
complex-forward t first [] = (omega arith, omega arith)
complex-forward t first (second ∷ after) = outer (second == t.complex_property)
  where
    inner : (b : Bool) → TakesOf (length (first ∷ second ∷ after)) (cond b Verdict.RunBegins (Verdict.BreakAfter 1 first))
    inner true = tt
    inner false = (omega arith, omega arith)

    outer : (b : Bool) → TakesOf (length (first ∷ second ∷ after)) (cond b (cond (first == t.complex_property) Verdict.RunBegins (Verdict.BreakAfter 1 first)) (verdict t (first ∷ second ∷ after)))
    outer true = inner (first == t.complex_property)
    outer false = verdict-forward t first (second ∷ after)

-- a verdict on classes that only reads on does so on elements with these classes
pub on-classes : {D : Type 0} (v : List ℕ → Verdict) → IsForward v → IsForward (λ (elements : List (Element D)). v (classes_of elements))
on-classes {D} v forward x xs = subst (λ n. TakesOf (suc n) (v (classes_of (x ∷ xs)))) (length-map xs (λ (element : Element D). element.class)) (forward x.class (classes_of xs))

-- no run begins by a pair table alone

stop-no-run : (w : Walk) (entry : BreakState) → stop_verdict w entry ≢ Verdict.RunBegins
stop-no-run w Keep is = cc
stop-no-run w Break is = cc
stop-no-run w NoMatch is = cc
stop-no-run w (Index q) is = cc
stop-no-run w (Intermediate q) is = cc

end-no-run : (w : Walk) (entry : BreakState) → end_verdict w entry ≢ Verdict.RunBegins
end-no-run w NoMatch is = cc
end-no-run w Keep is = cc
end-no-run w Break is = cc
end-no-run w (Index q) is = cc
end-no-run w (Intermediate q) is = cc

walk-no-run : (t : PairTable) (w : Walk) (rest : List ℕ) → walk_verdict t w rest ≢ Verdict.RunBegins
walk-no-run t w [] = end-no-run w (entry_of t w.state t.eot_property)
walk-no-run t w (class ∷ classes) = stop-no-run w (entry_of t w.state class)

named-no-run : (t : PairTable) (state first : ℕ) (classes : List ℕ) → named_verdict t state first classes ≢ Verdict.RunBegins
unfolding named_verdict
named-no-run t state first classes = let w = walk t state 2 1 first (drop 2 classes) in walk-no-run t w (drop w.stop classes)

first-no-run : (t : PairTable) (first : ℕ) (classes : List ℕ) (entry : BreakState) → first_verdict t first classes entry ≢ Verdict.RunBegins
first-no-run t first classes Break is = cc
first-no-run t first classes NoMatch is = cc
first-no-run t first classes Keep is = cc
first-no-run t first classes (Index q) is = named-no-run t q first classes is
first-no-run t first classes (Intermediate q) is = named-no-run t q first classes is

pub verdict-no-run : (t : PairTable) → HasNoRun (verdict t)
unfolding verdict
verdict-no-run t first [] is = cc
verdict-no-run t first (second ∷ after) is = first-no-run t first (first ∷ second ∷ after) (entry_of t first second) is

-- where no class is complex, complex items are no matter
pub no-complex : (t : PairTable) (class : ℕ) (classes : List ℕ) → (Contains (class ∷ classes) t.complex_property → ⊥)
    → complex_verdict t (class ∷ classes) ≡ verdict t (class ∷ classes)
unfolding complex_verdict verdict
no-complex t first [] none = refl
no-complex t first (second ∷ after) none =
    let other : second ≢ t.complex_property = λ is. none (1, omega arith, is) in
    ap (λ b. cond b (cond (first == t.complex_property) Verdict.RunBegins (Verdict.BreakAfter 1 first)) (first_verdict t first (first ∷ second ∷ after) (entry_of t first second)))
    (ne_eqb second t.complex_property other)
