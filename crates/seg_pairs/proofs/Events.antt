-- What comes next of a text that is read by a pair table, event by event.
use Rattle.std.proofs.Common.{◌≡◌, ℕ, ◌+◌, ◌<◌, ◌≤◌, Option, Some, None, List, [], ◌∷◌, ◌++◌, length, map, take, drop, refl, sym, ap, ◌∙◌, subst, arith}
use Rattle.std.specs.Prelude.{IfSome}
use Rattle.std.specs.Iterator.{YieldsFirst}
use Rattle.std.proofs.lemmas.List.{drop-drop, length-drop, length-take, take-map}
use Rattle.seg_text.specs.declared.boundary.Boundary.{Boundary}
use Rattle.seg_text.specs.Items.{Item, Text, place_of, start_of, rest_after, text_before, code_points, prefix_length}
use Rattle.seg_text.specs.Boundaries.{boundary, boundary_in, shift_all, Cuts, AreCutsOf, with_status, cut_places, Stretch, later_boundaries}
use Rattle.seg_text.proofs.Places.{in-shift, code_points-drop, place-before}
use Rattle.seg_text.proofs.Stretches.{text-later-next}
use Rattle.seg_data.specs.Table.{Table}
use Rattle.seg_pairs.specs.declared.pair_data.PairDataBorrowed.{PairDataBorrowed}
use Rattle.seg_pairs.specs.declared.verdicts.Outcome.TheVariants.{Break as BreakOut, Run as RunOut}
use Rattle.seg_pairs.specs.PairData.{pair_table_of, override_of}
use Rattle.seg_pairs.specs.PairTable.{PairTable, class_of}
use Rattle.seg_pairs.specs.Elements.{ItemElement, classes_of, onto, place_at, elements_of, IsElementAhead}
use Rattle.seg_pairs.specs.Verdict.{Verdict, complex_verdict, chain, TakesOf, EndsIn}
use Rattle.seg_pairs.specs.Verdict.Verdict.{BreakAfter, GoAfter, RunBegins}
use Rattle.seg_pairs.specs.Breaks.{status_of, GoesOnUnread, is_complex, run_length, run_status, stretch_with_runs, complex_stretch, unread_by, unread_boundaries}
use Rattle.seg_pairs.proofs.Chained.{Chained, chain-map}
use Rattle.seg_pairs.proofs.ComplexStretches.{point_verdict, point-forward, run-some, complex-going, complex-chained}
use Rattle.seg_pairs.proofs.ItemElements.{elements-drop, elements-place}
use Rattle.seg_pairs.proofs.Engine.{read-onto, none-left, new-empty, items-codes, rest-is}

-- the verdict on the first of some elements, of which some may be complex
abbrev pub element_verdict : PairTable → List ItemElement → Verdict
element_verdict t elements = complex_verdict t (classes_of elements)

-- from elements to items

elements-chain : (pairs : PairDataBorrowed) (items : List Item)
    → chain (element_verdict (pair_table_of pairs)) (elements_of pairs items) ≡ chain (point_verdict (pair_table_of pairs) (override_of pairs)) (code_points items)
elements-chain pairs items =
    let t = pair_table_of pairs in
    chain-map (λ (element : ItemElement). element.class) (complex_verdict t) (elements_of pairs items)
    ∙ ap (chain (complex_verdict t)) (items-codes pairs items)
    ∙ sym (chain-map (class_of t (override_of pairs)) (complex_verdict t) (code_points items))

-- cuts of a beginning of a text stand at the same places in the text

pub cuts-placed : (text : Text) (n status count : ℕ) (cuts : List ℕ) → count ≤ n → AreCutsOf count cuts
    → map (boundary_in text) (with_status status cuts) ≡ with_status status (map (λ (cut : ℕ). start_of (rest_after cut (text_before n text))) cuts)
cuts-placed text n status count [] below are = refl
cuts-placed text n status count (cut ∷ cuts) below are =
    rw (place-before text.items text.end n cut (omega (arith, below, are.0)), cuts-placed text n status count cuts below are.1) refl

-- a boundary comes next, so many items on
pub record HasBreak (pairs : PairDataBorrowed) (text : Text) (class : ℕ) (after : List ItemElement) : Type 0 where
  pub taken : ℕ
  pub rest : after ≡ elements_of pairs (drop taken text.items)
  pub fewer : length (drop taken text.items) < length text.items
  pub leads : (cuts : Cuts) → unread_boundaries cuts (unread_by pairs text)
      ≡ boundary (start_of (rest_after taken text)) (status_of (pair_table_of pairs).rule_status_table class) ∷ unread_boundaries cuts (unread_by pairs (rest_after taken text))

-- the items of a text up to the first that isn't complex
abbrev pub run_extent : PairDataBorrowed → Text → ℕ
run_extent pairs text = prefix_length (is_complex (pair_table_of pairs) (override_of pairs)) text

-- a run comes next, so many items on
pub record HasRun (pairs : PairDataBorrowed) (text : Text) (place : ℕ) : Type 0 where
  pub gone : ℕ
  pub here : place ≡ start_of (rest_after gone text)
  pub fewer : let left = rest_after gone text in length (drop (run_extent pairs left) left.items) < length text.items
  pub leads : (cuts : Cuts) → let left = rest_after gone text in let run = text_before (run_extent pairs left) left in
      AreCutsOf (length run.items) (cuts (code_points run.items))
      → unread_boundaries cuts (unread_by pairs text)
      ≡ with_status (run_status (pair_table_of pairs)) (cut_places cuts run) ++ unread_boundaries cuts (unread_by pairs (rest_after (run_extent pairs left) left))

-- the first stretch of a text, and what is left after it
first-stretch : (pairs : PairDataBorrowed) (cuts : Cuts) (items : List Item) (end first : ℕ) (others : List ℕ) (s : Stretch) → code_points items ≡ first ∷ others
    → complex_stretch cuts (pair_table_of pairs) (override_of pairs) (code_points items) ≡ s
    → let text : Text = record { items = items; end = end } in
    unread_boundaries cuts (unread_by pairs text) ≡ map (boundary_in text) s.boundaries ++ unread_boundaries cuts (unread_by pairs (rest_after s.extent text))
first-stretch pairs cuts [] end first others s some is = cc
first-stretch pairs cuts (item ∷ items) end first others s some is =
    let t = pair_table_of pairs in
    let o = override_of pairs in
    let text : Text = record { items = item ∷ items; end = end } in
    text-later-next (complex_stretch cuts t o) (complex-going t o cuts) item items end
    ∙ ap (λ (s : Stretch). map (boundary_in text) s.boundaries ++ unread_boundaries cuts (unread_by pairs (rest_after s.extent text))) is

-- a run that begins a text, with its cuts
run-first : (pairs : PairDataBorrowed) (cuts : Cuts) (items : List Item) (end first : ℕ) (others : List ℕ) → code_points items ≡ first ∷ others
    → point_verdict (pair_table_of pairs) (override_of pairs) (first ∷ others) ≡ RunBegins
    → let text : Text = record { items = items; end = end } in let run = text_before (run_extent pairs text) text in
    AreCutsOf (length run.items) (cuts (code_points run.items))
    → unread_boundaries cuts (unread_by pairs text)
    ≡ with_status (run_status (pair_table_of pairs)) (cut_places cuts run) ++ unread_boundaries cuts (unread_by pairs (rest_after (run_extent pairs text) text))
run-first pairs cuts items end first others points begins are =
    let t = pair_table_of pairs in
    let o = override_of pairs in
    let text : Text = record { items = items; end = end } in
    let n : ℕ = run_length t o (code_points items) in
    let s : Stretch = record { extent = n; boundaries = with_status (run_status t) (cuts (take n (code_points items))) } in
    let stretch : complex_stretch cuts t o (code_points items) ≡ s = ap (stretch_with_runs cuts t o (code_points items)) (ap (point_verdict t o) points ∙ begins) in
    let same : map (boundary_in text) s.boundaries ≡ with_status (run_status t) (cut_places cuts (text_before n text)) =
    ap (λ (run : List ℕ). map (boundary_in text) (with_status (run_status t) (cuts run))) (take-map (λ (item : Item). item.1) n items)
    ∙ cuts-placed text n (run_status t) (length (take n items)) (cuts (code_points (take n items))) (omega (arith, length-take n items)) are in
    first-stretch pairs cuts items end first others s points stretch
    ∙ ap (λ (bs : List Boundary). bs ++ unread_boundaries cuts (unread_by pairs (rest_after n text))) same

module _ (pairs : PairDataBorrowed) (item : Item) (items : List Item) (end : ℕ) where
  abbrev t : PairTable
  t = pair_table_of pairs

  abbrev o : Option Table
  o = override_of pairs

  abbrev all : List Item
  all = item ∷ items

  abbrev whole : Text
  whole = record { items = all; end = end }

  -- the boundaries of the whole are those from the end of the chain on
  from-chain : (cuts : Cuts) (ch : Chained (complex_stretch cuts t o) (point_verdict t o) (code_points all))
      → unread_boundaries cuts (unread_by pairs whole) ≡ unread_boundaries cuts (unread_by pairs (rest_after ch.gone whole))
  from-chain cuts ch =
      ap (map (boundary_in whole)) (ch.later_is ∙ ap (λ (cs : List ℕ). shift_all ch.gone (later_boundaries (complex_stretch cuts t o) cs)) (sym ch.there ∙ sym (code_points-drop ch.gone all)))
      ∙ in-shift whole ch.gone (later_boundaries (complex_stretch cuts t o) (code_points (drop ch.gone all)))

  -- a chain to its end, whatever the cuts
  record Ends (gone : ℕ) (last : Verdict) : Type 0 where
    first : ℕ
    others : List ℕ
    points : code_points (drop gone all) ≡ first ∷ others
    last_is : point_verdict t o (first ∷ others) ≡ last
    leads : (cuts : Cuts) → unread_boundaries cuts (unread_by pairs whole) ≡ unread_boundaries cuts (unread_by pairs (rest_after gone whole))

  chain-ends : (found : ℕ × Verdict) → chain (element_verdict t) (elements_of pairs all) ≡ found → Ends found.0 found.1
  chain-ends found is =
      let none : Cuts = λ run. [] in
      let ch = complex-chained t o none item.1 (code_points items) in
      let at : (cuts : Cuts) → let mine = complex-chained t o cuts item.1 (code_points items) in (mine.gone, mine.last) ≡ found =
      λ cuts. sym (complex-chained t o cuts item.1 (code_points items)).chain_is ∙ sym (elements-chain pairs all) ∙ is in
      let gone : ch.gone ≡ found.0 = ap (λ (found : ℕ × Verdict). found.0) (at none) in
      record {
        first = ch.element;
        others = ch.others;
        points = ap (λ (n : ℕ). code_points (drop n all)) (sym gone) ∙ code_points-drop ch.gone all ∙ ch.there;
        last_is = ch.last_is ∙ ap (λ (found : ℕ × Verdict). found.1) (at none);
        leads = λ cuts.
            from-chain cuts (complex-chained t o cuts item.1 (code_points items))
            ∙ ap (λ (n : ℕ). unread_boundaries cuts (unread_by pairs (rest_after n whole))) (ap (λ (found : ℕ × Verdict). found.0) (at cuts));
      }

  break-at : (gone n class : ℕ) (after : List ItemElement) → Ends gone (BreakAfter n class) → after ≡ drop (gone + n) (elements_of pairs all) → HasBreak pairs whole class after
  break-at gone n class after ends is =
      let some : 0 < n = (subst (TakesOf (length (ends.first ∷ ends.others))) ends.last_is (point-forward t o ends.first ends.others)).0 in
      let s : Stretch = record { extent = n; boundaries = boundary n (status_of t.rule_status_table class) ∷ [] } in
      record {
        taken = gone + n;
        rest = is ∙ elements-drop pairs (gone + n) all;
        fewer = omega (arith, some, length-drop (gone + n) all);
        leads = λ cuts.
            let stretch : complex_stretch cuts t o (code_points (drop gone all)) ≡ s =
            ap (complex_stretch cuts t o) ends.points ∙ ap (stretch_with_runs cuts t o (ends.first ∷ ends.others)) ends.last_is in
            ends.leads cuts ∙ first-stretch pairs cuts (drop gone all) end ends.first ends.others s ends.points stretch
            ∙ rw (drop-drop n gone all) refl;
      }

  run-at : (gone place : ℕ) → Ends gone RunBegins → place ≡ place_of (drop gone all) end → HasRun pairs whole place
  run-at gone place ends is =
      let left : Text = rest_after gone whole in
      let some : 0 < run_length t o (code_points left.items) = rw ends.points (run-some t o ends.first ends.others ends.last_is) in
      record {
        gone = gone;
        here = is;
        fewer = omega (arith, some, length-drop (run_extent pairs left) left.items, length-drop gone all);
        leads = λ cuts are. ends.leads cuts ∙ run-first pairs cuts (drop gone all) end ends.first ends.others ends.points ends.last_is are;
      }

  break-in : (class : ℕ) (next : Option ItemElement) (rest : List ItemElement)
      → EndsIn (chain (element_verdict t) (elements_of pairs all)) (elements_of pairs all) (BreakOut class next) rest → HasBreak pairs whole class (onto next rest)
  break-in class next rest = on (chain (element_verdict t) (elements_of pairs all)) refl
    where
      on : (found : ℕ × Verdict) → chain (element_verdict t) (elements_of pairs all) ≡ found → EndsIn found (elements_of pairs all) (BreakOut class next) rest → HasBreak pairs whole class (onto next rest)
      on (gone, BreakAfter n with_class) is ends =
          subst (λ class. HasBreak pairs whole class (onto next rest)) (sym ends.0)
          (break-at gone n with_class (onto next rest) (chain-ends (gone, BreakAfter n with_class) is) (rest-is next rest _ ends.1))
      on (gone, GoAfter n) is ends = absurd ends
      on (gone, RunBegins) is ends = absurd ends

  run-in : (first second : ItemElement) (rest : List ItemElement)
      → EndsIn (chain (element_verdict t) (elements_of pairs all)) (elements_of pairs all) (RunOut first second) rest → HasRun pairs whole first.place
  run-in first second rest = on (chain (element_verdict t) (elements_of pairs all)) refl
    where
      on : (found : ℕ × Verdict) → chain (element_verdict t) (elements_of pairs all) ≡ found → EndsIn found (elements_of pairs all) (RunOut first second) rest → HasRun pairs whole first.place
      on (gone, BreakAfter n class) is ends = absurd ends
      on (gone, GoAfter n) is ends = absurd ends
      on (gone, RunBegins) is ends =
          run-at gone first.place (chain-ends (gone, RunBegins) is)
          (ap (λ (elements : List ItemElement). place_at elements end) (sym ends ∙ elements-drop pairs gone all) ∙ elements-place pairs (drop gone all) end)

-- an event of which a call has at hand the first element, the elements after it, and the table

break-whole : (pairs : PairDataBorrowed) (items : List Item) (end : ℕ) (whole : List ItemElement) (class : ℕ) (after : Option ItemElement) (later : List ItemElement)
    → whole ≡ elements_of pairs items → 0 < length whole
    → EndsIn (chain (element_verdict (pair_table_of pairs)) whole) whole (BreakOut class after) later
    → HasBreak pairs (record { items = items; end = end }) class (onto after later)
break-whole pairs [] end whole class after later is some ends = absurd (omega (arith, some, ap length is))
break-whole pairs (item ∷ items) end whole class after later is some ends =
    break-in pairs item items end class after later (subst (λ (es : List ItemElement). EndsIn (chain (element_verdict (pair_table_of pairs)) es) es (BreakOut class after) later) is ends)

run-whole : (pairs : PairDataBorrowed) (items : List Item) (end : ℕ) (whole : List ItemElement) (first second : ItemElement) (later : List ItemElement)
    → whole ≡ elements_of pairs items → 0 < length whole
    → EndsIn (chain (element_verdict (pair_table_of pairs)) whole) whole (RunOut first second) later
    → HasRun pairs (record { items = items; end = end }) first.place
run-whole pairs [] end whole first second later is some ends = absurd (omega (arith, some, ap length is))
run-whole pairs (item ∷ items) end whole first second later is some ends =
    run-in pairs item items end first second later (subst (λ (es : List ItemElement). EndsIn (chain (element_verdict (pair_table_of pairs)) es) es (RunOut first second) later) is ends)

pub break-of : (pairs : PairDataBorrowed) (text : Text) (next : Option ItemElement) (left : ItemElement) (rest : List ItemElement) (t : PairTable) (class : ℕ) (after : Option ItemElement) (later : List ItemElement)
    → t ≡ pair_table_of pairs → next ≡ Some left → onto next rest ≡ elements_of pairs text.items
    → EndsIn (chain (element_verdict t) (left ∷ rest)) (left ∷ rest) (BreakOut class after) later
    → HasBreak pairs text class (onto after later)
break-of pairs text next left rest t class after later same here is ends =
    break-whole pairs text.items text.end (left ∷ rest) class after later (ap (λ (n : Option ItemElement). onto n rest) (sym here) ∙ is) (omega arith)
    (subst (λ (t : PairTable). EndsIn (chain (element_verdict t) (left ∷ rest)) (left ∷ rest) (BreakOut class after) later) same ends)

pub run-of : (pairs : PairDataBorrowed) (text : Text) (next : Option ItemElement) (left : ItemElement) (rest : List ItemElement) (t : PairTable) (first second : ItemElement) (later : List ItemElement)
    → t ≡ pair_table_of pairs → next ≡ Some left → onto next rest ≡ elements_of pairs text.items
    → EndsIn (chain (element_verdict t) (left ∷ rest)) (left ∷ rest) (RunOut first second) later
    → HasRun pairs text first.place
run-of pairs text next left rest t first second later same here is ends =
    run-whole pairs text.items text.end (left ∷ rest) first second later (ap (λ (n : Option ItemElement). onto n rest) (sym here) ∙ is) (omega arith)
    (subst (λ (t : PairTable). EndsIn (chain (element_verdict t) (left ∷ rest)) (left ∷ rest) (RunOut first second) later) same ends)

pub place-after : (pairs : PairDataBorrowed) (text : Text) (n place end : ℕ) (after : List ItemElement) → place ≡ place_at after end → after ≡ elements_of pairs (drop n text.items) → end ≡ text.end
    → place ≡ start_of (rest_after n text)
place-after pairs text n place end after is same stays = is ∙ rw (same, stays) (elements-place pairs (drop n text.items) text.end)

pub nothing-left : (pairs : PairDataBorrowed) (items : List Item) (next : Option ItemElement) (rest : List ItemElement) → next ≡ None → rest ≡ [] → onto next rest ≡ elements_of pairs items → items ≡ []
nothing-left pairs items next rest none empty is = none-left pairs items (sym is ∙ ap (λ (n : Option ItemElement). onto n rest) none ∙ empty)

-- the first element of a text is read
pub ahead-read : (pairs : PairDataBorrowed) (from text : Text) (next : Option ItemElement) (rest_pairs : PairDataBorrowed) (rest : Text) → from ≡ text
    → YieldsFirst (λ (elements : List ItemElement). elements) (elements_of pairs from.items) next (elements_of rest_pairs rest.items)
    → rest.end ≡ from.end → pair_table_of rest_pairs ≡ pair_table_of pairs → IfSome next (λ next. next.class < (pair_table_of pairs).property_count)
    → IsElementAhead pairs text next rest_pairs rest
ahead-read pairs from text next rest_pairs rest same gives end table below = record {
  same = sym (read-onto (λ (elements : List ItemElement). elements) (elements_of pairs from.items) next (elements_of rest_pairs rest.items) gives) ∙ ap (λ (text : Text). elements_of pairs text.items) same;
  same_end = end ∙ ap (λ (text : Text). text.end) same;
  same_table = table;
  empty = new-empty (elements_of pairs from.items) next rest_pairs rest.items gives;
  below = below;
}

-- what is left after an event
pub goes-on : (pairs : PairDataBorrowed) (text after : Text) (n : ℕ) → after ≡ rest_after n text → length (drop n text.items) < length text.items
    → GoesOnUnread (unread_by pairs text) (unread_by pairs after)
goes-on pairs text after n is fewer = rw is (record { table = refl; overriding = refl; end = refl; fewer = λ some. fewer })

pub break-leads : (pairs : PairDataBorrowed) (text after : Text) (class place : ℕ) (elements : List ItemElement) (b : HasBreak pairs text class elements)
    → place ≡ start_of (rest_after b.taken text) → after ≡ rest_after b.taken text → (cuts : Cuts)
    → unread_boundaries cuts (unread_by pairs text)
    ≡ boundary place (status_of (pair_table_of pairs).rule_status_table class) ∷ unread_boundaries cuts (unread_by pairs after)
break-leads pairs text after class place elements b place_is is cuts = rw (place_is, is) (b.leads cuts)

pub run-leads : (pairs : PairDataBorrowed) (text left run after : Text) (place : ℕ) (r : HasRun pairs text place) → left ≡ rest_after r.gone text
    → run ≡ text_before (run_extent pairs left) left → after ≡ rest_after (run_extent pairs left) left
    → (cuts : Cuts) → AreCutsOf (length run.items) (cuts (code_points run.items))
    → unread_boundaries cuts (unread_by pairs text)
    ≡ with_status (run_status (pair_table_of pairs)) (cut_places cuts run) ++ unread_boundaries cuts (unread_by pairs after)
run-leads pairs text left run after place r left_is run_is is = rw (is, run_is, left_is) r.leads

pub run-goes : (pairs : PairDataBorrowed) (text left after : Text) (place : ℕ) (r : HasRun pairs text place) → left ≡ rest_after r.gone text
    → after ≡ rest_after (run_extent pairs left) left → GoesOnUnread (unread_by pairs text) (unread_by pairs after)
run-goes pairs text left after place r left_is is =
    rw (is, left_is) (record { table = refl; overriding = refl; end = refl; fewer = λ some. r.fewer })
