-- Boundaries of a machine that are given some at once, as far as no run begins.
use Rattle.std.proofs.Common.{◌≡◌, ℕ, zero, suc, ◌-◌, ◌<◌, ◌≤◌, List, [], ◌∷◌, ◌++◌, drop, length, map, slice_index, take, take-append-drop, refl, sym, ap, ◌∙◌, subst, arith}
use Rattle.std.specs.Prelude.{Option, None, Some}
use Rattle.std.proofs.lemmas.List.{drop_all, length-take-le, take-map, take-take}
use Rattle.seg_text.specs.declared.boundary.Boundary.{Boundary}
use Rattle.std.specs.Option.{option_to_list}
use Rattle.seg_text.specs.Boundaries.{boundaries_in, boundary, cut_places, offsets}
use Rattle.seg_text.specs.Filled.{WritesSome}
use Rattle.seg_text.specs.Items.{Text, IsRising, start_of}
use Rattle.seg_text.proofs.Filling.{last-place, some-ahead}
use Rattle.seg_machine.specs.Machine.{Machine}
use Rattle.seg_machine.specs.Pick.{machine_boundaries}
use Rattle.seg_rows.specs.Underway.{GivesBehind, HasPassed, behind}
use Rattle.seg_rows.proofs.Filling.{behind-nil}
use Rattle.seg_rows.proofs.Underway.{same-rest}
use Rattle.seg_clusters.specs.Payloads.{Payloads, piece_cuts_by}
use Rattle.seg_clusters.specs.Scripts.{CoverPieces}
use Rattle.seg_clusters.specs.Spans.{AreBeyond, CutsLeft, cuts_left, inner_cuts, is_between}
use Rattle.seg_clusters.proofs.RunsAhead.{beyond, over-passed}
use Rattle.seg_lines.specs.LineBreaks.{AreAbove, AreOfOneText, AreRising, joined}
use Rattle.seg_lines.proofs.Joins.{AreAtMost, beyond-above, boundary-first}

-- what is left of one text from one place on is the same
pub of-one-place : (one other : Text) → AreOfOneText one other → start_of one ≡ start_of other → one ≡ other
of-one-place one other (whole, rising, (j, here), (k, there)) same =
    here ∙ same-rest whole j k rising (sym (ap start_of here) ∙ same ∙ ap start_of there) ∙ sym there

pub of-one-alone : (text one other : Text) → IsRising text.items text.end → one ≡ text → other ≡ text → AreOfOneText one other
of-one-alone text one other rising here there = (text, rising, (0, here), (0, there))

-- all boundaries of a text, from a place and a text that equal its own on
pub rising-at : (m : Machine) (place : ℕ) (rest text : Text) → place ≡ start_of text → rest ≡ text → AreRising (offsets (boundaries_in (machine_boundaries m) text))
    → AreRising (offsets (boundary place 0 ∷ behind m rest))
rising-at m place rest text here same rising =
    subst (λ (t : Text). AreRising (offsets (boundary place 0 ∷ behind m t))) (sym same)
    (subst (λ (n : ℕ). AreRising (offsets (boundary n 0 ∷ behind m text))) (sym here) rising)

pub none-behind : (m : Machine) (text left : Text) (given : Option Boundary) → GivesBehind m text given left → given ≡ None → behind m left ≡ []
none-behind m text left None (none, same) is = behind-nil m left (rw same none)
none-behind m text left (Some found) gives is = absurd cc

pub rising-left : (count : ℕ) (all left : List Boundary) → left ≡ drop count all → AreRising (offsets all) → AreRising (offsets left)
rising-left count all left is rising = subst (λ (l : List Boundary). AreRising (offsets l)) (sym is) (dropped count all rising)
  where
    dropped : (count : ℕ) (all : List Boundary) → AreRising (offsets all) → AreRising (offsets (drop count all))
    dropped zero all rising = rising
    dropped (suc count) [] rising = tt
    dropped (suc count) (first ∷ all) rising = dropped count all rising.1

-- boundaries that rise to a place stand at it or before
at-most : (front rest : List Boundary) (limit : ℕ) → AreRising (offsets (front ++ rest)) → (0 < length front → slice_index (offsets front) (length front - 1) ≤ limit)
    → AreAtMost limit (offsets front)
at-most [] rest limit rising last = tt
at-most (first ∷ []) rest limit rising last = (last (omega arith), tt)
at-most (first ∷ next ∷ front) rest limit rising last =
    let one : length (first ∷ next ∷ front) - 1 ≡ suc (length (next ∷ front) - 1) = omega arith in
    let more = at-most (next ∷ front) rest limit rising.1 (λ some. rw one at (last (omega arith))) in
    (omega (arith, rising.0.0, more.0), more)

-- boundaries that no cut stands before come first
joined-front : (front rest : List Boundary) (cuts : List ℕ) (limit : ℕ) → AreAtMost limit (offsets front) → AreAbove limit cuts → joined (front ++ rest) cuts ≡ front ++ joined rest cuts
joined-front [] rest cuts limit most above = refl
joined-front (first ∷ front) rest cuts limit most above =
    boundary-first first (front ++ rest) cuts (above-least first.offset limit cuts most.0 above)
    ∙ ap (λ (l : List Boundary). first ∷ l) (joined-front front rest cuts limit most.1 above)
  where
    above-least : (low high : ℕ) (numbers : List ℕ) → low ≤ high → AreAbove high numbers → AreAbove low numbers
    above-least low high [] less above = tt
    above-least low high (n ∷ numbers) less above = (omega (arith, less, above.0), above-least low high numbers less above.1)

-- Of what a machine has still to give some were written, up to a place, and no cut stands up to there.
module _ (found later : List Boundary) (old new olds news : List ℕ) (count : ℕ) (writes : WritesSome found later old new olds news count) where
  abbrev front : List Boundary
  front = take count found

  whole : found ≡ front ++ later
  whole = sym (take-append-drop count found) ∙ ap (λ (l : List Boundary). front ++ l) (sym writes.left)

  few : length front ≡ count
  few = length-take-le count found writes.some

  firsts : (of : Boundary → ℕ) → take count (map of found) ≡ take count (map of front)
  firsts of = sym (ap (take count) (sym (take-map of count found)) ∙ take-take count count (map of found) (omega arith))

  alone : WritesSome front [] old new olds news count
  alone = record {
    some = omega (arith, few);
    room = writes.room;
    places = writes.places ∙ ap (λ (l : List ℕ). l ++ drop count old) (firsts (λ (b : Boundary). b.offset));
    statuses_are = writes.statuses_are ∙ ap (λ (l : List ℕ). l ++ drop count olds) (firsts (λ (b : Boundary). b.status));
    left = sym (drop_all count front (omega (arith, few)));
  }

  pub gives-some : (place : ℕ) (cuts : List ℕ) → (0 < count → slice_index new (count - 1) ≡ place) → AreRising (offsets found) → AreRising cuts → AreBeyond (Some place) cuts
      → WritesSome (joined found cuts) (joined later cuts) old new olds news count
  gives-some place cuts last rising cuts-rise beyond =
      let above : AreAbove place cuts = beyond-above place cuts beyond cuts-rise in
      let ends : 0 < length front → slice_index (offsets front) (length front - 1) ≤ place =
      λ some. let here = last-place front [] old new olds news count alone (omega (arith, some, few)) in
      let there = last (omega (arith, some, few)) in
      rw few (omega (arith, here, there)) in
      let most : AreAtMost place (offsets front) = at-most front later place (subst (λ (l : List Boundary). AreRising (offsets l)) whole rising) ends in
      let all : joined found cuts ≡ front ++ joined later cuts = ap (λ (l : List Boundary). joined l cuts) whole ∙ joined-front front later cuts place most above in
      subst (λ (l : List Boundary). WritesSome l (joined later cuts) old new olds news count) (sym all) (some-ahead front [] (joined later cuts) old new olds news count alone)

-- What is left is that of a machine from one place on, and cuts from there on; some of its code points passed, and this is left behind them.
module _ (m : Machine) (payloads : Payloads) (pieces : CoverPieces (piece_cuts_by payloads)) (rest left : Text) (cuts : CutsLeft) (found : Option Boundary) (cut : Option ℕ)
    (no-boundary : found ≡ None) (no-cut : cut ≡ None) (no-run : cuts.run ≡ []) (same : AreOfOneText rest cuts.rest) (at : start_of cuts.rest ≡ start_of rest)
    (passed : HasPassed (is_between m payloads.words) rest left)
    (rising : AreRising (offsets (option_to_list found ++ behind m rest))) (rising-cuts : AreRising (option_to_list cut ++ cuts_left m payloads cuts)) where
  abbrev inside : Text → List ℕ
  inside text = cut_places (inner_cuts m payloads) text

  plain : (text : Text) → option_to_list found ++ behind m text ≡ behind m text
  plain text = ap (λ (found : Option Boundary). option_to_list found ++ behind m text) no-boundary

  before : option_to_list cut ++ cuts_left m payloads cuts ≡ inside left
  before =
      ap (λ (cut : Option ℕ). option_to_list cut ++ cuts_left m payloads cuts) no-cut
      ∙ ap (λ (run : List ℕ). run ++ inside cuts.rest) no-run
      ∙ ap inside (sym (of-one-place rest cuts.rest same (sym at)))
      ∙ over-passed m payloads pieces rest left passed

  behind-them : (text : Text) → text ≡ left → option_to_list cut ++ cuts_left m payloads (record { run = []; rest = text }) ≡ inside left
  behind-them text is = ap (λ (cut : Option ℕ). option_to_list cut ++ inside text) no-cut ∙ ap inside is

  rises-left : AreRising (inside left)
  rises-left = subst AreRising before rising-cuts

  rises : AreRising (offsets (behind m rest))
  rises = subst (λ (l : List Boundary). AreRising (offsets l)) (plain rest) rising

  pub batch-rises : (count : ℕ) → behind m left ≡ drop count (behind m rest) → AreRising (offsets (option_to_list found ++ behind m left))
  batch-rises count is = subst (λ (l : List Boundary). AreRising (offsets l)) (sym (plain left)) (rising-left count (behind m rest) (behind m left) is rises)

  pub batch-cuts-rise : (text : Text) → text ≡ left → AreRising (option_to_list cut ++ cuts_left m payloads (record { run = []; rest = text }))
  batch-cuts-rise text is = subst AreRising (sym (behind-them text is)) rises-left

  pub batch-gives : (text : Text) (old new olds news : List ℕ) (count : ℕ) → text ≡ left → IsRising left.items left.end
      → WritesSome (behind m rest) (behind m left) old new olds news count → (0 < count → slice_index new (count - 1) ≡ start_of left)
      → WritesSome (joined (option_to_list found ++ behind m rest) (option_to_list cut ++ cuts_left m payloads cuts))
      (joined (option_to_list found ++ behind m left) (option_to_list cut ++ cuts_left m payloads (record { run = []; rest = text }))) old new olds news count
  batch-gives text old new olds news count is in-order writes last =
      let gives : WritesSome (joined (behind m rest) (inside left)) (joined (behind m left) (inside left)) old new olds news count =
      gives-some (behind m rest) (behind m left) old new olds news count writes (start_of left) (inside left) last rises rises-left
      (beyond m payloads pieces left (start_of left) in-order (omega arith)) in
      let first : joined (option_to_list found ++ behind m rest) (option_to_list cut ++ cuts_left m payloads cuts) ≡ joined (behind m rest) (inside left) =
      ap (λ (l : List Boundary). joined l (option_to_list cut ++ cuts_left m payloads cuts)) (plain rest) ∙ ap (joined (behind m rest)) before in
      let then : joined (option_to_list found ++ behind m left) (option_to_list cut ++ cuts_left m payloads (record { run = []; rest = text })) ≡ joined (behind m left) (inside left) =
      ap (λ (l : List Boundary). joined l (option_to_list cut ++ cuts_left m payloads (record { run = []; rest = text }))) (plain left)
      ∙ ap (joined (behind m left)) (behind-them text is) in
      subst (λ (l : List Boundary). WritesSome l (joined (option_to_list found ++ behind m left) (option_to_list cut ++ cuts_left m payloads (record { run = []; rest = text }))) old new olds news count) (sym first)
      (subst (λ (l : List Boundary). WritesSome (joined (behind m rest) (inside left)) l old new olds news count) (sym then) gives)
