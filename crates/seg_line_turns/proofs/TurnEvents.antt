-- What comes next of a text that is read turn by turn.
use Rattle.std.proofs.Common.{◌≡◌, ℕ, ◌+◌, ◌-◌, ◌<◌, ◌&&◌, Bool, false, List, [], ◌∷◌, ◌++◌, length, map, take, drop, refl, sym, ap, ◌∙◌, subst, arith}
use Rattle.std.proofs.lemmas.List.{drop-drop, length-drop, length-take, length-map, take-map}
use Rattle.std.proofs.lemmas.List.Sums.{prefix_len-le-length}
use Rattle.seg_text.specs.declared.boundary.Boundary.{Boundary}
use Rattle.seg_text.specs.Items.{Item, Text, start_of, rest_after, text_before, code_points, prefix_length}
use Rattle.seg_text.specs.Boundaries.{boundary, boundary_in, boundaries_in, shift_all, Cuts, AreCutsOf, with_status, cut_places}
use Rattle.seg_text.proofs.Places.{in-append, in-shift, code_points-drop}
use Rattle.seg_pairs.proofs.Events.{cuts-placed}
use Rattle.seg_line_pairs.specs.LineRules.{TableRules, is_complex_point}
use Rattle.seg_line_pairs.specs.declared.plain_pairs.ClassedItem.{ClassedItem}
use Rattle.seg_line_pairs.specs.LineEvents.{LeavesLess, text_from}
use Rattle.seg_line_pairs.specs.ReadAhead.{TakesRun, UnreadItems, items_after, rules_of}
use Rattle.seg_line_pairs.specs.LineBoundaries.{complex_length}
use Rattle.seg_line_pairs.specs.declared.engines.LineEngine.TheVariants.{Seventeen}
use Rattle.seg_line_turns.specs.declared.turn_units.Left.{Left}
use Rattle.seg_line_turns.specs.declared.turn_units.TurnOutcome.{TurnOutcome}
use Rattle.seg_line_turns.specs.declared.turn_units.TurnOutcome.TheVariants.{Break, Go, Run}
use Rattle.seg_line_turns.specs.TurnEvents.{turns_of, turns_unread, unread_turns, after_cuts}
use Rattle.seg_line_turns.specs.TurnBoundaries.{has_none, turn_stretch_of, turn_stretch, later_turns}
use Rattle.seg_line_turns.specs.TurnPlaces.{item_place, placed, left_seen, FindsFrom}
use Rattle.seg_line_turns.specs.Turns.{Turn, turn, first_unit}
use Rattle.seg_line_turns.specs.Turns.Turn.{BreakAt, GoTo, RunAt}
use Rattle.seg_line_turns.proofs.TurnForward.{IsTurnOf, first-forward}
use Rattle.seg_line_turns.proofs.TurnPlaces.{next-of}
use Rattle.seg_line_turns.proofs.TurnStretches.{turns-next}

module _ (rules : TableRules Seventeen) where
  abbrev unread : Cuts → (starts opened : Bool) → Text → List Boundary
  unread cuts starts opened text = boundaries_in (later_turns cuts rules starts opened) text

  -- what a turn leads to in a text
  pub record TurnsTo (starts opened : Bool) (here : Text) (found : Turn) : Type 0 where
    pub leads : (cuts : Cuts) → let s = turn_stretch_of cuts rules (code_points here.items) found in
        unread cuts starts opened here ≡ map (boundary_in here) s.boundaries ++ unread cuts false s.opened (rest_after s.extent here)
    pub forward : IsTurnOf rules (code_points here.items) found

  turn-first : (starts opened : Bool) (item : Item) (items : List Item) (end : ℕ)
      → TurnsTo starts opened (record { items = item ∷ items; end = end }) (turn rules opened (first_unit rules starts item.1) (code_points items))
  turn-first starts opened item items end = record {
    leads = λ cuts.
        let whole : Text = record { items = item ∷ items; end = end } in
        let s = turn_stretch cuts rules starts opened item.1 (code_points items) in
        rw (turns-next cuts rules starts opened item.1 (code_points items), in-append, in-shift whole s.extent, code_points-drop s.extent (item ∷ items)) refl;
    forward = first-forward rules starts opened item.1 (code_points items);
  }

  pub turn-next : (starts opened : Bool) (here after : Text) (item : Item) → here.items ≡ item ∷ after.items
      → TurnsTo starts opened here (turn rules opened (first_unit rules starts item.1) (code_points after.items))
  turn-next starts opened here after item is =
      subst (λ (items : List Item). TurnsTo starts opened (record { items = items; end = here.end }) (turn rules opened (first_unit rules starts item.1) (code_points after.items)))
      (sym is) (turn-first starts opened item after.items here.end)

  -- what the turn from the first unit found
  pub turn-found : (starts opened : Bool) (here after : Text) (item : Item) (first : Left) (result : TurnOutcome) → here.items ≡ item ∷ after.items → after.end ≡ here.end
      → left_seen 0 first ≡ first_unit rules starts item.1 → first.last_place ≡ item.0
      → FindsFrom first after result (λ unit. turn rules opened unit (code_points after.items))
      → result ≡ placed here (turn rules opened (first_unit rules starts item.1) (code_points after.items))
  turn-found starts opened here after item first result items end unit place finds =
      let next = next-of here here after 0 item refl items end in
      finds here 0 (record { place = place ∙ next.place_is; after = next.after_is })
      ∙ ap (λ left. placed here (turn rules opened left (code_points after.items))) unit

  fewer : {X : Type 0} (n : ℕ) (xs : List X) → 0 < n → 0 < length xs → length (drop n xs) < length xs
  fewer n xs some there = let long = length-drop n xs in omega (arith, long)

  -- a boundary
  pub record ToBreak (starts opened : Bool) (here : Text) (place resume : ℕ) : Type 0 where
    pub taken : ℕ
    pub resume_is : resume ≡ item_place taken here
    pub fewer : length (drop taken here.items) < length here.items
    pub leads : (cuts : Cuts) → unread cuts starts opened here ≡ boundary place 0 ∷ unread cuts false false (rest_after taken here)

  abbrev break-in : TurnOutcome → ℕ × ℕ
  break-in (Break place resume) = (place, resume)
  break-in (Go place opened) = (0, 0)
  break-in (Run place opened) = (0, 0)

  pub to-break : (starts opened : Bool) (here : Text) (found : Turn) (place resume : ℕ) → 0 < length here.items → TurnsTo starts opened here found
      → Break place resume ≡ placed here found → ToBreak starts opened here place resume
  to-break starts opened here (BreakAt at to) place resume there turns is =
      let some : 0 < to = omega (arith, turns.forward.0, turns.forward.1) in
      let both : (place, resume) ≡ (item_place at here, item_place to here) = ap break-in is in
      record {
        taken = to;
        resume_is = ap (λ (both : ℕ × ℕ). both.1) both;
        fewer = fewer to here.items some there;
        leads = λ cuts. turns.leads cuts ∙ ap (λ n. boundary n 0 ∷ unread cuts false false (rest_after to here)) (sym (ap (λ (both : ℕ × ℕ). both.0) both));
      }
  to-break starts opened here (GoTo at wide) place resume there turns is = cc
  to-break starts opened here (RunAt first wide) place resume there turns is = cc

  -- none
  pub record ToGo (starts opened : Bool) (here : Text) (place : ℕ) (after : Bool) : Type 0 where
    pub taken : ℕ
    pub place_is : place ≡ item_place taken here
    pub fewer : length (drop taken here.items) < length here.items
    pub leads : (cuts : Cuts) → unread cuts starts opened here ≡ unread cuts false after (rest_after taken here)

  abbrev go-in : TurnOutcome → ℕ × Bool
  go-in (Break place resume) = (0, false)
  go-in (Go place opened) = (place, opened)
  go-in (Run place opened) = (place, opened)

  pub to-go : (starts opened : Bool) (here : Text) (found : Turn) (place : ℕ) (after : Bool) → 0 < length here.items → TurnsTo starts opened here found
      → Go place after ≡ placed here found → ToGo starts opened here place after
  to-go starts opened here (GoTo at wide) place after there turns is =
      let both : (place, after) ≡ (item_place at here, wide) = ap go-in is in
      record {
        taken = at;
        place_is = ap (λ (both : ℕ × Bool). both.0) both;
        fewer = fewer at here.items turns.forward.0 there;
        leads = λ cuts. turns.leads cuts ∙ ap (λ b. unread cuts false b (rest_after at here)) (sym (ap (λ (both : ℕ × Bool). both.1) both));
      }
  to-go starts opened here (BreakAt at to) place after there turns is = cc
  to-go starts opened here (RunAt first wide) place after there turns is = cc

  has_none-map : (f : ℕ → ℕ) (xs : List ℕ) → has_none (map f xs) ≡ has_none xs
  has_none-map f [] = refl
  has_none-map f (x ∷ xs) = refl

  -- a run
  abbrev extent : Text → ℕ
  extent left = prefix_length (is_complex_point rules) left

  pub record ToRun (starts opened : Bool) (here : Text) (place : ℕ) (after : Bool) : Type 0 where
    pub first : ℕ
    pub place_is : place ≡ item_place first here
    pub fewer : let left = rest_after first here in length (drop (extent left - 1) left.items) < length here.items
    pub leads : (cuts : Cuts) → let left = rest_after first here in let run = text_before (extent left) left in
        AreCutsOf (length run.items) (cuts (code_points run.items))
        → unread cuts starts opened here
        ≡ with_status 0 (cut_places cuts run) ++ unread cuts false (has_none (cut_places cuts run) && after) (rest_after (extent left - 1) left)

  run-leads : (cuts : Cuts) (here : Text) (first : ℕ) (after : Bool) → let left = rest_after first here in let run = text_before (extent left) left in
      let s = turn_stretch_of cuts rules (code_points here.items) (RunAt first after) in
      AreCutsOf (length run.items) (cuts (code_points run.items))
      → map (boundary_in here) s.boundaries ++ unread cuts false s.opened (rest_after s.extent here)
      ≡ with_status 0 (cut_places cuts run) ++ unread cuts false (has_none (cut_places cuts run) && after) (rest_after (extent left - 1) left)
  run-leads cuts here first after are =
      let left : Text = rest_after first here in
      let n : ℕ = extent left in
      let run : Text = text_before n left in
      let points : drop first (code_points here.items) ≡ code_points left.items = sym (code_points-drop first here.items) in
      let cut : List ℕ = cuts (take n (code_points left.items)) in
      let inner : cut ≡ cuts (code_points run.items) = ap cuts (take-map (λ (item : Item). item.1) n left.items) in
      let places : map (boundary_in here) (shift_all first (with_status 0 cut)) ≡ with_status 0 (cut_places cuts run) =
      in-shift here first (with_status 0 cut) ∙ ap (λ (cut : List ℕ). map (boundary_in left) (with_status 0 cut)) inner
      ∙ cuts-placed left n 0 (length (take n left.items)) (cuts (code_points run.items)) (omega (arith, length-take n left.items)) are in
      let none : has_none cut ≡ has_none (cut_places cuts run) = ap has_none inner ∙ sym (has_none-map (λ cut. start_of (rest_after cut run)) (cuts (code_points run.items))) in
      let rest : rest_after (first + (n - 1)) here ≡ rest_after (n - 1) left = ap (λ (items : List Item). record { items = items; end = here.end }) (sym (drop-drop (n - 1) first here.items)) in
      ap (λ (xs : List ℕ). map (boundary_in here) (shift_all first (with_status 0 (cuts (take (complex_length rules xs) xs))))
      ++ unread cuts false (has_none (cuts (take (complex_length rules xs) xs)) && after) (rest_after (first + (complex_length rules xs - 1)) here)) points
      ∙ ap (λ (bs : List Boundary). bs ++ unread cuts false (has_none cut && after) (rest_after (first + (n - 1)) here)) places
      ∙ ap (λ b. with_status 0 (cut_places cuts run) ++ unread cuts false (b && after) (rest_after (first + (n - 1)) here)) none
      ∙ ap (λ (text : Text). with_status 0 (cut_places cuts run) ++ unread cuts false (has_none (cut_places cuts run) && after) text) rest

  pub to-run : (starts opened : Bool) (here : Text) (found : Turn) (place : ℕ) (after : Bool) → TurnsTo starts opened here found
      → Run place after ≡ placed here found → ToRun starts opened here place after
  to-run starts opened here (RunAt at wide) place after turns is =
      let both : (place, after) ≡ (item_place at here, wide) = ap go-in is in
      let left : Text = rest_after at here in
      let points : drop at (code_points here.items) ≡ code_points left.items = sym (code_points-drop at here.items) in
      let two : 1 < extent left = subst (λ (xs : List ℕ). 1 < complex_length rules xs) points turns.forward in
      let most = prefix_len-le-length (is_complex_point rules) (code_points left.items) in
      let long = length-map left.items (λ (item : Item). item.1) in
      record {
        first = at;
        place_is = ap (λ (both : ℕ × Bool). both.0) both;
        fewer = omega (arith, two, most, long, length-drop at here.items, length-drop (extent left - 1) left.items);
        leads = λ cuts are.
            turns.leads cuts ∙ run-leads cuts here at wide are
            ∙ ap (λ b. let run = text_before (extent left) left in with_status 0 (cut_places cuts run) ++ unread cuts false (has_none (cut_places cuts run) && b) (rest_after (extent left - 1) left))
            (sym (ap (λ (both : ℕ × Bool). both.1) both));
      }
  to-run starts opened here (BreakAt place resume) at after turns is = cc
  to-run starts opened here (GoTo place wide) at after turns is = cc

-- a turn of which a call has at hand the first item, its unit, what the turn found, and what is left after it
module _ (before : UnreadItems) (rules : TableRules Seventeen) (starts opened : Bool) (one : ClassedItem) (after : Text) (from : before.text ≡ text_from one after)
    (first : Left) (result : TurnOutcome) (unit : left_seen 0 first ≡ first_unit rules starts one.code_point) (place_is : first.last_place ≡ one.place)
    (finds : FindsFrom first after result (λ unit. turn rules opened unit (code_points after.items))) where
  there : 0 < length before.text.items
  there = rw from (omega arith)

  abbrev found_turn : Turn
  found_turn = turn rules opened (first_unit rules starts one.code_point) (code_points after.items)

  turns : TurnsTo rules starts opened before.text found_turn
  turns = turn-next rules starts opened before.text after (one.place, one.code_point) (ap (λ (t : Text). t.items) from)

  found : result ≡ placed before.text found_turn
  found =
      turn-found rules starts opened before.text after (one.place, one.code_point) first result (ap (λ (t : Text). t.items) from)
      (sym (ap (λ (t : Text). t.end) from)) unit place_is finds

  pub break-of : (place resume : ℕ) → result ≡ Break place resume → ToBreak rules starts opened before.text place resume
  break-of place resume is = to-break rules starts opened before.text _ place resume there turns (sym is ∙ found)

  pub go-of : (place : ℕ) (wide : Bool) → result ≡ Go place wide → ToGo rules starts opened before.text place wide
  go-of place wide is = to-go rules starts opened before.text _ place wide there turns (sym is ∙ found)

  pub run-of : (place : ℕ) (wide : Bool) → result ≡ Run place wide → ToRun rules starts opened before.text place wide
  run-of place wide is = to-run rules starts opened before.text _ place wide turns (sym is ∙ found)

-- what is left after a turn
module _ (before : UnreadItems) (rules : TableRules Seventeen) (same : rules ≡ rules_of Seventeen before) (starts opened : Bool) (after : UnreadItems) where
  goes-on : (wide : Bool) (n : ℕ) → after ≡ items_after n before → length (drop n before.text.items) < length before.text.items
      → LeavesLess (turns_unread (turns_of starts opened before)) (turns_unread (turns_of false wide after))
  goes-on wide n is fewer = rw is (record { end = refl; fewer = λ some. fewer })

  module _ (place resume : ℕ) (b : ToBreak rules starts opened before.text place resume) (is : after ≡ items_after b.taken before) where
    pub break-leads : (cuts : Cuts) → unread_turns cuts (turns_of starts opened before) ≡ boundary place 0 ∷ unread_turns cuts (turns_of false false after)
    break-leads cuts = rw (is, ← same) (b.leads cuts)

    pub break-goes : LeavesLess (turns_unread (turns_of starts opened before)) (turns_unread (turns_of false false after))
    break-goes = goes-on false b.taken is b.fewer

  module _ (place : ℕ) (wide : Bool) (b : ToGo rules starts opened before.text place wide) (is : after ≡ items_after b.taken before) where
    pub go-leads : (cuts : Cuts) → unread_turns cuts (turns_of starts opened before) ≡ unread_turns cuts (turns_of false wide after)
    go-leads cuts = rw (is, ← same) (b.leads cuts)

    pub go-goes : LeavesLess (turns_unread (turns_of starts opened before)) (turns_unread (turns_of false wide after))
    go-goes = goes-on wide b.taken is b.fewer

  module _ (place : ℕ) (wide : Bool) (r : ToRun rules starts opened before.text place wide) (run : Text)
      (takes : TakesRun (rules_of Seventeen before) (items_after r.first before) run after) where
    pub run-leads-to : (cuts : Cuts) → AreCutsOf (length run.items) (cuts (code_points run.items))
        → unread_turns cuts (turns_of starts opened before)
        ≡ with_status 0 (cut_places cuts run) ++ unread_turns cuts (after_cuts (cut_places cuts run) (turns_of false wide after))
    run-leads-to = rw (takes.rest, takes.run_is, ← same) r.leads

    pub run-goes : LeavesLess (turns_unread (turns_of starts opened before)) (turns_unread (turns_of false wide after))
    run-goes = rw (takes.rest, ← same) (record { end = refl; fewer = λ some. r.fewer })
