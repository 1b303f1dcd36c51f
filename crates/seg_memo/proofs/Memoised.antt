-- The iterator, of what its code has in hand: a table of which all cells are unknown, and a boundary more.
use Rattle.std.proofs.Common.{◌≡◌, ◌≢◌, ℕ, ◌==◌, Bool, true, Some, List, [], ◌∷◌, length, drop, get_or, min, refl, sym, ap, ◌∙◌, subst, suc, ◌*◌, ◌%◌, ◌^◌, ◌<◌, ◌≤◌, Option, arith, inl, inr}
use Rattle.std.specs.Prelude.{⊤}
use Rattle.std.specs.Iterator.{MakesProgress, item_count}
use Rattle.seg_text.specs.Items.{Text, code_points, rest_after, start_of, Item}
use Rattle.seg_memo.specs.Configurations.{Boundary, reading, subject, Acceptance, Configuration, AreLookedUp, AreStarts, Subject, all_look_ups, configurations, different}
use Rattle.seg_text.specs.Boundaries.{boundary, shift, remainder}
use Rattle.seg_text.proofs.Cursors.{fewer-left}
use Rattle.seg_machine.specs.Machine.{Machine, symbol_and_script, symbols_of, symbol_count, without_transitions}
use Rattle.seg_machine.specs.Pick.{pick, machine_stretch}
use Rattle.seg_machine.proofs.Engine.{end-left, gives-next}
use Rattle.seg_machine.proofs.Scanned.{after-after}
use Rattle.seg_memo.specs.Grids.{IsKeptSymbol, IsReadBy, Unknown, Table, HasCell, IsConfigurationOf, IsMemo, IsOn, IsSound, Tells, cell, number}
use Rattle.seg_memo.specs.Memos.{Memo, memo, memo_places}
use Rattle.seg_memo.proofs.Reading.{symbols-drop, symbols-length}
use Rattle.std.proofs.lemmas.Bool.{cases_lt}
use Rattle.std.proofs.lemmas.List.{get_or_past, get_or-map, length-map}
use Rattle.std.proofs.lemmas.Nat.{pow_below}
use Rattle.seg_machine.specs.MachineFaults.{IsChecked}
use Rattle.seg_memo.proofs.Lists.{different-bound}
use Rattle.seg_memo.proofs.Cells.{items-fit, number-below}
use Rattle.seg_memo.proofs.Scanning.{all-nil, all-within}

-- at the end nothing is left
pub end-none : (m : Machine) (text left : Text) (given : ℕ) (started : Bool) (status : ℕ) → started ≡ true → left ≡ rest_after given text → (length left.items == 0) ≡ true
    → (remainder started (machine_stretch m) (rest_after given text) status).left ≡ []
end-none m text left given started status on is none =
    end-left (machine_stretch m) (rest_after given text) started status on (subst (λ (x : Text). (length x.items == 0) ≡ true) is none)

pub record GivesMemo (before after : Memo) (place : ℕ) : Type 0 where
  pub steps : (memo_places before ≡ place ∷ memo_places after) × (before.coming.left ≡ boundary place after.coming.status ∷ after.coming.left)
  pub goes : MakesProgress (λ _. ⊤) (item_count memo_places) before (Some place) after

pub memo-next : (m after_reading : Machine) (text same_text left rest : Text) (given after_given lookups lookups_after place : ℕ) (started : Bool) (status : ℕ) (b : Boundary)
    → after_reading ≡ m → same_text ≡ text → after_given ≡ b.offset → started ≡ true → left ≡ rest_after given text → left.items ≢ []
    → (p : Boundary) × (pick m (drop given (symbols_of m (code_points text.items))) ≡ Some p) × (b ≡ shift given p) → rest ≡ rest_after after_given text → place ≡ start_of rest
    → GivesMemo (memo m text given started status lookups) (memo after_reading same_text after_given started b.status lookups_after) place
memo-next m after_reading text same_text left rest given after_given lookups lookups_after place started status b same stays goes on is some (p, picks, moved) after begins =
    let ends : rest_after b.offset text ≡ rest_after p.offset (rest_after given text) = ap (λ (x : Boundary). rest_after x.offset text) moved ∙ sym (after-after p.offset given text) in
    let gives = gives-next m (rest_after given text) (rest_after b.offset text) started status b.status place on (subst (λ (x : Text). x.items ≢ []) is some)
    (p, ap (pick m) (symbols-drop m given text.items) ∙ picks, ap (λ (x : Boundary). x.status) moved, ends) (begins ∙ ap start_of (after ∙ ap (λ (n : ℕ). rest_after n text) goes)) in
    let next : GivesMemo (memo m text given started status lookups) (memo after_reading text b.offset started b.status lookups_after) place =
    rw same (record { steps = gives.steps; goes = fewer-left memo_places _ _ place gives.steps.0 }) in
    subst (λ (x : Text). GivesMemo (memo m text given started status lookups) (memo after_reading x after_given started b.status lookups_after) place) (sym stays)
    (subst (λ (n : ℕ). GivesMemo (memo m text given started status lookups) (memo after_reading text n started b.status lookups_after) place) (sym goes) next)

-- a machine is read by a reader of its states and of transitions in the place of its own
pub read-by : (m : Machine) (transitions : List ℕ) (states : ℕ) (whole : Text) → states ≡ length m.states
    → IsReadBy (record { subject = subject (reading m transitions) (symbols_of (reading m transitions) (code_points whole.items)); whole = whole }) m states transitions
unfolding symbol_and_script
read-by m transitions states whole is = record { machine = refl; symbols = refl; states_are = is }

-- the first symbol of the text, of which there is a copy
pub made-ahead : (m : Machine) (transitions : List ℕ) (copy text left : Text) (symbol next : ℕ) → copy ≡ text → symbol ≡ get_or (symbols_of m (code_points copy.items)) 0 0 → next ≡ min 1 (length (symbols_of m (code_points copy.items)))
    → left ≡ rest_after next copy → IsKeptSymbol (record { subject = subject (reading m transitions) (symbols_of (reading m transitions) (code_points text.items)); whole = text }) 0 symbol left
unfolding symbol_and_script
made-ahead m transitions copy text left symbol next same symbol_is next_is rest =
    rw (← same) (record { symbol_is = symbol_is; rest = rest ∙ ap (λ (n : ℕ). rest_after n copy) next_is })

-- the symbols of a text are the machine's
symbols-own : (m : Machine) (code_points : List ℕ) (place : ℕ) → IsChecked m → get_or (symbols_of m code_points) place 0 < symbol_count m
symbols-own m code_points place checked =
    elim (cases_lt place (length code_points)) [
      | inl less ↦
          rw (get_or-map (λ code_point. (symbol_and_script m code_point).0) code_points place 0 0 less) ((checked.text_symbols (get_or code_points place 0)).1)
      | inr past ↦
          let long : length (symbols_of m code_points) ≤ place = omega (arith, past, length-map code_points (λ code_point. (symbol_and_script m code_point).0)) in
          let text = checked.text_symbols 0 in
          rw (get_or_past (symbols_of m code_points) place 0 long) (omega (arith, text.0, text.1))
    ]

pub fresh-sound : (m : Machine) (items : List Item) → IsChecked m → configurations m (length items) < 2 ^ 64 → IsSound (subject m (symbols_of m (code_points items)))
fresh-sound m items checked room = record {
  checked = checked;
  own = λ place. symbols-own m (code_points items) place checked;
  room = subst (λ (n : ℕ). configurations m n < 2 ^ 64) (sym (symbols-length m items)) room;
}

none-different : (s : Subject) → different (all_look_ups s []) ≡ 0
unfolding all_look_ups different
none-different s = refl

fresh-memo : (s : Subject) (t : Table) (counted : ℕ) → IsSound s → ((c : Configuration) → IsConfigurationOf s c → HasCell t c) → ((c : Configuration) → IsConfigurationOf s c → 0 < c.place → cell t c ≡ Unknown) → counted ≡ 0
    → IsMemo s t counted 0
fresh-memo s t counted sound has unknown none = record {
  starts = [];
  are = refl;
  within = omega arith;
  fit = record { sound = sound; has = λ c within past. has c within };
  cells = record { at = λ c within past off. inl (unknown c within past, λ on. subst (IsOn c) (all-nil s) on) };
  count = none ∙ sym (none-different s);
}

-- the number of states, and that of sets, as the code makes them
pub states-made : (m : Machine) (states : List (Acceptance × Option ℕ)) → states ≡ m.states → length states ≡ length m.states
states-made m states is = ap length is

pub sets-made : (m : Machine) (lookaheads : ℕ) → IsChecked m → lookaheads ≡ m.num_lookaheads → 1 * 2 ^ lookaheads % 2 ^ 64 ≡ 2 ^ m.num_lookaheads
sets-made m lookaheads checked is =
    let small : 2 ^ m.num_lookaheads < 2 ^ 9 = pow_below m.num_lookaheads 9 (omega (arith, checked.few_lookaheads)) in
    rw is (omega (arith, small))

-- the first table
pub made-memo : (m parts : Machine) (transitions : List ℕ) (text : List Item) (t : Table) (states sets room counted : ℕ) → parts ≡ without_transitions m → IsChecked m → transitions ≡ m.transitions
    → states ≡ length m.states → sets ≡ 2 ^ m.num_lookaheads → configurations m (length text) < 2 ^ 64 → configurations m (length text) ≤ room → ((c : Configuration) → cell t c ≡ Unknown)
    → ((c : Configuration) → c.state < states → c.kept < sets → number states sets c < room → number states sets c < 2 ^ 64 → HasCell t c) → counted ≡ 0
    → IsMemo (subject (reading parts transitions) (symbols_of (reading parts transitions) (code_points text))) t counted 0
made-memo m parts transitions text t states sets room counted parts_are checked transitions_are states_are sets_are fits most unknown has none =
    let s = subject m (symbols_of m (code_points text)) in
    let sound = fresh-sound m text checked fits in
    let all : configurations m (length s.symbols) ≡ configurations m (length text) = ap (configurations m) (symbols-length m text) in
    rw (parts_are, transitions_are)
    (fresh-memo s t counted sound
    (λ c within.
    let below = number-below s c within in
    has c (rw states_are within.state) (rw sets_are within.kept) (rw (states_are, sets_are) (omega (arith, below, all, most))) (rw (states_are, sets_are) (omega (arith, below, all, fits))))
    (λ c within past. unknown c) none)

-- another reader, before the first scan

first-unknown : (s : Subject) (t : Table) (counted : ℕ) (memo : IsMemo s t counted 0) (c : Configuration) → IsConfigurationOf s c → 0 < c.place → cell t c ≡ Unknown
first-unknown s t counted memo c within past = on memo.starts memo.are (memo.cells.at c within past (λ on. on))
  where
    on : (starts : List ℕ) → AreStarts s starts 0 → Tells s (all_look_ups s starts) c (cell t c) → cell t c ≡ Unknown
    on [] are tells = elim tells [ inl new ↦ new.0 | inr old ↦ absurd (subst (IsOn c) (all-nil s) old.1) ]
    on (start ∷ starts) are tells = absurd (omega (arith, are.1))

pub other-memo : (m : Machine) (before after : List ℕ) (place counted count : ℕ) (text : List Item) (t : Table)
    → IsMemo (subject (reading m before) (symbols_of (reading m before) (code_points text))) t counted place → place ≡ 0 → IsChecked (reading m after) → count ≡ 0
    → IsMemo (subject (reading m after) (symbols_of (reading m after) (code_points text))) t count place
other-memo m before after place counted count text t memo is checked none =
    let old = subject (reading m before) (symbols_of (reading m before) (code_points text)) in
    let new = subject (reading m after) (symbols_of (reading m after) (code_points text)) in
    let first : IsMemo old t counted 0 = subst (IsMemo old t counted) is memo in
    let longs : length new.symbols ≡ length old.symbols = symbols-length (reading m after) text ∙ sym (symbols-length (reading m before) text) in
    let room : configurations m (length text) < 2 ^ 64 = subst (λ (n : ℕ). configurations m n < 2 ^ 64) (symbols-length (reading m before) text) first.fit.sound.room in
    let same : (c : Configuration) → IsConfigurationOf new c → IsConfigurationOf old c = λ c within. record { state = within.state; place = omega (arith, longs, within.place); kept = within.kept } in
    subst (IsMemo new t count) (sym is)
    (fresh-memo new t count (fresh-sound (reading m after) text checked room) (λ c within. first.fit.has c (same c within) (omega arith)) (λ c within past. first-unknown old t counted first c (same c within) past) none)

-- what is counted

pub looked-up : (s : Subject) (t : Table) (place counted count : ℕ) → IsMemo s t counted place → count ≡ counted → AreLookedUp s place count
looked-up s t place counted count memo is = (memo.starts, memo.are, is ∙ memo.count)

pub memo-bound : (s : Subject) (t : Table) (place counted count items : ℕ) → IsMemo s t counted place → count ≡ counted → length s.symbols ≡ items → count ≤ configurations s.machine items
memo-bound s t place counted count items memo is long =
    let most = different-bound s (all_look_ups s memo.starts) (all-within s memo.starts place memo.fit.sound memo.are memo.within) in
    rw (← long) (omega (arith, is, memo.count, most))

-- the symbols by a machine's parts can be counted
pub parts-fit : (m parts : Machine) (items : List Item) → IsChecked m → configurations m (length items) < 2 ^ 64
    → suc (length (symbols_of parts (code_points items))) < 2 ^ 64
parts-fit m parts items checked room =
    let long = symbols-length m items ∙ sym (symbols-length parts items) in
    rw (← long) (items-fit _ (fresh-sound m items checked room))
