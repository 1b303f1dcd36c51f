-- A segment that is read by rows, entry by entry.
use Rattle.std.proofs.Common.{◌≡◌, ◌≢◌, ℕ, zero, suc, ◌*◌, ◌/◌, ◌%◌, ◌<◌, Bool, Option, Some, None, List, [], ◌∷◌, drop, length, slice_index, replicate, IsSome, refl, sym, ap, ◌∙◌, subst, arith}
use Rattle.seg_text.specs.declared.boundary.Boundary.{Boundary}
use Rattle.seg_text.specs.Boundaries.{boundary}
use Rattle.seg_text.specs.Items.{Item, Text, IsRising, code_points, place_of, rest_after, start_of}
use Rattle.seg_text.proofs.Places.{place_of-drop-lt}
use Rattle.seg_machine.specs.declared.provider.Acceptance.{Acceptance}
use Rattle.seg_machine.specs.declared.provider.Acceptance.TheVariants.{Continue, Accept, Conditional}
use Rattle.seg_machine.specs.Machine.{Machine, state_at, step, symbols_of}
use Rattle.seg_machine.specs.MachineFaults.{IsChecked}
use Rattle.seg_machine.specs.Pick.{acceptance_status, pick}
use Rattle.seg_machine.specs.Scan.{acceptance_after, condition_end, place_for, places_after, IsPicked, IsSegment, IsSymbolAhead}
use Rattle.seg_machine.proofs.Scanned.{found-pick, none-picked, pick-some, scanned-start, scanned-step, scanned-stop}
use Rattle.seg_machine.specs.DenseRows.{AreStatuses, row_entry, slow, status_of}
use Rattle.seg_rows.specs.Underway.{IsNextEntry, IsScannedTo, IsUnderway}
use Rattle.seg_machine.proofs.Entries.{IsUnconditional, ends-before, goes-on}

pub scanned-to : (m : Machine) (text : Text) (picked : Boundary) (stood symbol : ℕ) (after : Text) → IsPicked m text picked
    → (k : ℕ) × (stood ≡ start_of (rest_after k text)) × IsSymbolAhead m (rest_after k text) symbol after → IsScannedTo m text picked stood symbol after
scanned-to m text picked stood symbol after pick (passed, place, ahead) = record { pick = pick; passed = passed; place = place; ahead = ahead }

-- places tell items apart
same-items : (items : List Item) (end j k : ℕ) → IsRising items end → place_of (drop j items) end ≡ place_of (drop k items) end → drop j items ≡ drop k items
same-items [] end zero zero rises same = refl
same-items [] end zero (suc k) rises same = refl
same-items [] end (suc j) zero rises same = refl
same-items [] end (suc j) (suc k) rises same = refl
same-items (item ∷ items) end zero zero rises same = refl
same-items (item ∷ items) end zero (suc k) rises same =
    let later = place_of-drop-lt item items end (suc k) rises (omega arith) in
    absurd (omega (arith, later, same))
same-items (item ∷ items) end (suc j) zero rises same =
    let later = place_of-drop-lt item items end (suc j) rises (omega arith) in
    absurd (omega (arith, later, same))
same-items (item ∷ items) end (suc j) (suc k) rises same = same-items items end j k rises.1 same

pub same-rest : (text : Text) (j k : ℕ) → IsRising text.items text.end → start_of (rest_after j text) ≡ start_of (rest_after k text) → rest_after j text ≡ rest_after k text
same-rest text j k rises same = ap (λ (items : List Item). record text { items = items }) (same-items text.items text.end j k rises same)

-- a state that is no condition ends nothing, and neither does any where no place is kept
unconditional : (kept : List (Option ℕ)) (state : Acceptance × Option ℕ) → IsUnconditional state.0 → None ≡ condition_end kept state
unfolding condition_end
unconditional kept (Continue, name) plain = refl
unconditional kept (Accept status, name) plain = refl
unconditional kept (Conditional lookahead status, name) plain = absurd plain

none-kept : (n lookahead : ℕ) → place_for (replicate n None) lookahead ≡ None
none-kept zero lookahead = refl
none-kept (suc n) zero = refl
none-kept (suc n) (suc lookahead) = none-kept n lookahead

nothing-named : (n : ℕ) (state : Acceptance × Option ℕ) → None ≡ condition_end (replicate n None) state
unfolding condition_end
nothing-named n (Continue, name) = refl
nothing-named n (Accept status, name) = refl
nothing-named n (Conditional lookahead status, name) = rw (none-kept n lookahead) refl

-- the acceptance of the state that was entered last
accepted : (place status : ℕ) (state : Acceptance × Option ℕ) (last : Option Boundary) → acceptance_status state ≡ Some status
    → acceptance_after place state last ≡ Some (boundary place status)
unfolding acceptance_after
accepted place status state last is = rw is refl

-- the first symbol of a text is read
pub begins : (m : Machine) (text after : Text) (symbol next : ℕ) → IsChecked m → IsSymbolAhead m text symbol after → step m 0 symbol ≡ Some next
    → next < length m.states → IsUnderway m text (next * 256) after
begins m text after symbol next checked ahead leads below =
    let none = replicate m.num_lookaheads None in
    record {
      state = next;
      row_is = refl;
      kept = places_after (start_of after) (state_at m next) none;
      last = acceptance_after (start_of after) (state_at m next) None;
      scanned =
          scanned-step m text 0 text none None symbol after next (start_of after) checked
          (scanned-start m text none m.num_lookaheads checked (omega arith) refl)
          (ahead.begins 0 checked.some_state) leads below ahead.left refl (nothing-named m.num_lookaheads (state_at m next));
      agrees = λ status is. accepted (start_of after) status (state_at m next) None is;
    }

-- START goes on by it
pub begins-some : (m : Machine) (text after : Text) (symbol : ℕ) → IsChecked m → IsSymbolAhead m text symbol after → text.items ≢ [] → step m 0 symbol ≡ None → ⊥
begins-some m text after symbol checked ahead some stops =
    let none = replicate m.num_lookaheads None in
    none-picked text _
    (scanned-stop m text 0 text none None symbol after (scanned-start m text none m.num_lookaheads checked (omega arith) refl) (ahead.begins 0 checked.some_state) stops)
    (pick-some m checked text.items some)

told : (m : Machine) (at state symbol entry : ℕ) → at ≡ state → entry ≡ row_entry m at symbol → entry ≡ row_entry m state symbol
told m at state symbol entry here says = subst (λ (s : ℕ). entry ≡ row_entry m s symbol) here says

-- the next symbol is read, and the segment goes on
pub goes : {passes : ℕ → Bool} (m : Machine) (text left after : Text) (row entry : ℕ) → IsChecked m → IsUnderway m text row left → IsNextEntry m passes left (row / 256) entry after
    → entry ≢ slow → entry % 2 ≡ 0 → IsUnderway m text (entry / 256 * 256) after
goes m text left after row entry checked under next fast even =
    let here : row / 256 ≡ under.state = omega (arith, under.row_is) in
    let on = goes-on m under.state next.symbol entry checked under.scanned.in_range next.ahead.below (told m (row / 256) under.state next.symbol entry here (next.says fast)) fast even in
    record {
      state = entry / 256;
      row_is = refl;
      kept = places_after (start_of after) (state_at m (entry / 256)) under.kept;
      last = acceptance_after (start_of after) (state_at m (entry / 256)) under.last;
      scanned =
          scanned-step m text under.state left under.kept under.last next.symbol after (entry / 256) (start_of after) checked under.scanned
          (next.ahead.begins under.state under.scanned.in_range) on.leads on.below next.ahead.left refl
          (unconditional under.kept (state_at m (entry / 256)) on.plain);
      agrees = λ status is. accepted (start_of after) status (state_at m (entry / 256)) under.last is;
    }

some-of : (found : Option ℕ) → IsSome found → (value : ℕ) × (found ≡ Some value)
some-of None some = cc
some-of (Some value) some = (value, refl)

-- where a state accepts, and goes on to none by the next symbol, the segment ends: what is left there is `left`
pub stops-at : (m : Machine) (text left after : Text) (row symbol status accepts : ℕ) → IsRising text.items text.end → (under : IsUnderway m text row left)
    → IsSymbolAhead m left symbol after → step m under.state symbol ≡ None → acceptance_status (state_at m under.state) ≡ Some accepts → status ≡ accepts
    → IsSegment m text left status
stops-at m text left after row symbol status accepts rises under ahead stops is same =
    let stop = scanned-stop m text under.state left under.kept under.last symbol after under.scanned (ahead.begins under.state under.scanned.in_range) stops in
    let found = found-pick text (pick m (symbols_of m (code_points text.items))) (boundary (start_of left) accepts) (sym (under.agrees accepts is) ∙ stop) in
    let place : start_of left ≡ start_of (rest_after found.0.offset text) = ap (λ (b : Boundary). b.offset) found.2 in (
      found.0,
      found.1,
      same ∙ ap (λ (b : Boundary). b.status) found.2,
      under.scanned.rest
          ∙ same-rest text (length under.scanned.entered) found.0.offset rises
          (subst (λ (t : Text). start_of t ≡ start_of (rest_after found.0.offset text)) under.scanned.rest place),
    )

accepts-with : (m : Machine) (at state status : ℕ) → at ≡ state → acceptance_status (state_at m state) ≡ Some status → status_of m at ≡ status
accepts-with m at state status here is = rw (here, is) refl

-- the segment ends before the next symbol, and another begins by it
pub record EndsAt (m : Machine) (text left : Text) (status row : ℕ) (after : Text) : Type 0 where
  pub segment : IsSegment m text left status
  pub under : IsUnderway m left row after

pub ends-at : {passes : ℕ → Bool} (m : Machine) (text left after : Text) (row entry : ℕ) → IsChecked m → IsRising text.items text.end → IsUnderway m text row left
    → IsNextEntry m passes left (row / 256) entry after → entry ≢ slow → entry % 2 ≡ 1 → EndsAt m text left (status_of m (row / 256)) (entry / 256 * 256) after
ends-at m text left after row entry checked rises under next fast odd =
    let here : row / 256 ≡ under.state = omega (arith, under.row_is) in
    let end = ends-before m under.state next.symbol entry checked next.ahead.below (told m (row / 256) under.state next.symbol entry here (next.says fast)) fast odd in
    let accepts = some-of (acceptance_status (state_at m under.state)) end.accepts in
    let status = accepts-with m (row / 256) under.state accepts.0 here accepts.1 in
    record {
      segment = stops-at m text left after row next.symbol (status_of m (row / 256)) accepts.0 rises under next.ahead end.stops accepts.1 status;
      under = begins m left after next.symbol (entry / 256) checked next.ahead end.begins end.below;
    }

pub row-in : (m : Machine) (text : Text) (row : ℕ) (left : Text) → IsUnderway m text row left → row / 256 < length m.states
row-in m text row left under =
    let here : row / 256 ≡ under.state = omega (arith, under.row_is) in
    omega (arith, here, under.scanned.in_range)

-- the status of a row's state
pub status-in : (m : Machine) (statuses : List ℕ) (row : ℕ) → AreStatuses m statuses → row / 256 < length m.states → slice_index statuses (row / 256) ≡ status_of m (row / 256)
status-in m statuses row are within = are.stand (row / 256) (omega (arith, within, are.size))

pub underway-same : (m : Machine) (first text : Text) (row : ℕ) (left : Text) → first ≡ text → IsUnderway m first row left → IsUnderway m text row left
underway-same m first text row left same under = subst (λ (t : Text). IsUnderway m t row left) same under
