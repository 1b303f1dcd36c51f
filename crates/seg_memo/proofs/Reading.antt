-- What a cursor and a reader read, of what the code has in hand.
use Rattle.std.proofs.Common.{◌≡◌, ℕ, suc, ◌+◌, ◌-◌, ◌*◌, ◌/◌, ◌<◌, ◌≤◌, ◌==◌, Option, Some, None, List, [], ◌∷◌, length, drop, get_or, min, refl, sym, ap, ◌∙◌, subst, arith, drop-cons, eq-eqb}
use Rattle.std.specs.Prelude.{slice_index}
use Rattle.std.proofs.lemmas.Bool.{cond-true, cond-false, ne_eqb}
use Rattle.std.proofs.lemmas.List.{drop-map, get_or_past, length-drop, length-map}
use Rattle.seg_text.specs.Items.{Item, Text, code_points, rest_after, start_of}
use Rattle.seg_memo.specs.Configurations.{Acceptance, Configuration, Outcome, Nothing, LookUp, Ends, Leads, Subject, entered, reading, arrival, look_up, IfLeads}
use Rattle.seg_machine.specs.Machine.{Machine, symbol_and_script, symbols_of, symbol_count, step, state_at}
use Rattle.seg_machine.specs.MachineFaults.{NamesPast}
use Rattle.seg_machine.proofs.Scanned.{after-after, one-less}
use Rattle.seg_memo.specs.Grids.{IsReadBy, IsSound, IsConfigurationOf, Source}
use Rattle.seg_memo.proofs.Following.{leads-within, look-up-none, look-up-some, names-few, step-within}

-- what is left of the text

pub symbols-length : (m : Machine) (items : List Item) → length (symbols_of m (code_points items)) ≡ length items
symbols-length m items = length-map (code_points items) (λ code_point. (symbol_and_script m code_point).0) ∙ length-map items (λ (item : Item). item.1)

pub symbols-drop : (m : Machine) (n : ℕ) (items : List Item) → symbols_of m (code_points (drop n items)) ≡ drop n (symbols_of m (code_points items))
symbols-drop m n items =
    sym (drop-map (λ code_point. (symbol_and_script m code_point).0) n (code_points items)
    ∙ ap (symbols_of m) (drop-map (λ (item : Item). item.1) n items))

-- an item is read
pub record ReadsItem (r : Source) (m : Machine) (place : ℕ) (item : Item) (new : Text) : Type 0 where
  pub symbol : (symbol_and_script m item.1).0 ≡ get_or r.subject.symbols place 0
  pub place_is : place + 1 ≡ min (suc place) (length r.subject.symbols)
  pub rest : new ≡ rest_after (place + 1) r.whole

pub reads-item : (r : Source) (m : Machine) (place : ℕ) (item : Item) (old new : Text) → r.subject.symbols ≡ symbols_of m (code_points r.whole.items) → old ≡ rest_after place r.whole → old.items ≡ item ∷ new.items
    → new.end ≡ old.end → ReadsItem r m place item new
reads-item r m place item old new symbols is gives end =
    let left : drop place r.whole.items ≡ item ∷ new.items = ap (λ (x : Text). x.items) (sym is) ∙ gives in
    let long : length r.whole.items - place ≡ suc (length new.items) = sym (length-drop place r.whole.items) ∙ ap length left in
    let same : length r.subject.symbols ≡ length r.whole.items = ap length symbols ∙ symbols-length m r.whole.items in
    let less : place < length r.subject.symbols = omega (arith, long, same) in
    let own : (symbol_and_script m item.1).0 ∷ symbols_of m (code_points new.items) ≡ drop place r.subject.symbols =
    ap (λ (items : List Item). symbols_of m (code_points items)) (sym left) ∙ symbols-drop m place r.whole.items ∙ ap (drop place) (sym symbols) in
    record {
      symbol = ap (λ (xs : List ℕ). get_or xs 0 0) (own ∙ drop-cons r.subject.symbols place 0 less);
      place_is = omega (arith, less);
      rest = one-less old new item gives end ∙ ap (rest_after 1) is ∙ after-after 1 place r.whole;
    }

-- or none is left
pub record ReadsNone (r : Source) (place : ℕ) (new : Text) : Type 0 where
  pub symbol : 0 ≡ get_or r.subject.symbols place 0
  pub place_is : place ≡ min (suc place) (length r.subject.symbols)
  pub rest : new ≡ rest_after place r.whole

pub reads-none : (r : Source) (m : Machine) (place : ℕ) (old new : Text) → r.subject.symbols ≡ symbols_of m (code_points r.whole.items) → place ≤ length r.subject.symbols → old ≡ rest_after place r.whole → old.items ≡ []
    → new.items ≡ [] → new.end ≡ old.end → ReadsNone r place new
reads-none r m place old new symbols within is none still end =
    let left : length r.whole.items - place ≡ 0 = sym (length-drop place r.whole.items) ∙ ap length (ap (λ (x : Text). x.items) (sym is) ∙ none) in
    let same : length r.subject.symbols ≡ length r.whole.items = ap length symbols ∙ symbols-length m r.whole.items in
    let past : length r.subject.symbols ≤ place = omega (arith, left, same) in
    let stays : new ≡ old = rw (still, end, ← none) refl in
    record { symbol = sym (get_or_past r.subject.symbols place 0 past); place_is = omega (arith, past, within); rest = stays ∙ is }

-- what a reader reads

module _ {r : Source} {m : Machine} {states : ℕ} {transitions : List ℕ} (read : IsReadBy r m states transitions) where
  pub symbol-fits : (place symbol : ℕ) → IsSound r.subject → symbol ≡ get_or r.subject.symbols place 0 → symbol < length transitions / states
  unfolding symbol_count
  symbol-fits place symbol sound is =
      let own : get_or r.subject.symbols place 0 < length r.subject.machine.transitions / length r.subject.machine.states = sound.own place in
      rw (is, read.states_are) (subst (λ (x : Machine). get_or r.subject.symbols place 0 < length x.transitions / length x.states) read.machine own)

  step-read : (state symbol : ℕ) → step r.subject.machine state symbol ≡ step (reading m transitions) state symbol
  step-read state symbol = ap (λ (x : Machine). step x state symbol) read.machine

  step-none : (state symbol next : ℕ) → next ≡ slice_index transitions (state + symbol * states) → next ≡ 255 → step r.subject.machine state symbol ≡ None
  unfolding step
  step-none state symbol next is none =
      step-read state symbol ∙ rw (← read.states_are, ← is) (cond-true {A = Option ℕ} (next == 255) None (Some next) (eq-eqb next 255 none))

  step-some : (state symbol next : ℕ) → next ≡ slice_index transitions (state + symbol * states) → (next ≡ 255 → ⊥) → step r.subject.machine state symbol ≡ Some next
  unfolding step
  step-some state symbol next is some =
      step-read state symbol ∙ rw (← read.states_are, ← is) (cond-false {A = Option ℕ} (next == 255) None (Some next) (ne_eqb next 255 some))

  pub state-read : (state : ℕ) → state_at r.subject.machine state ≡ state_at m state
  unfolding state_at
  state-read state = ap (λ (x : Machine). state_at x state) read.machine

  pub entry-few : (next : ℕ) (entry : Acceptance × Option ℕ) → IsSound r.subject → entry ≡ state_at m next → NamesPast 8 entry → ⊥
  entry-few next entry sound is past = names-few r.subject.machine next sound.checked (subst (NamesPast 8) (is ∙ sym (state-read next)) past)

  pub entered-read : (c : Configuration) (o result : Outcome) (entry : Acceptance × Option ℕ) → entry ≡ state_at m c.state → result ≡ entered c.place entry o → entered c.place (state_at r.subject.machine c.state) o ≡ result
  entered-read c o result entry e is = ap (λ (x : Acceptance × Option ℕ). entered c.place x o) (state-read c.state ∙ sym e) ∙ sym is

-- what the code has in hand after a reading
pub record Read (r : Source) (m : Machine) (c : Configuration) (states : ℕ) (transitions : List ℕ) (symbol next : ℕ) : Type 0 where
  pub sound : IsSound r.subject
  pub read : IsReadBy r m states transitions
  pub within : IsConfigurationOf r.subject c
  pub symbol_is : symbol ≡ get_or r.subject.symbols c.place 0
  pub next_is : next ≡ slice_index transitions (c.state + symbol * states)

module _ {r : Source} {m : Machine} {c : Configuration} {states : ℕ} {transitions : List ℕ} {symbol next : ℕ} (k : Read r m c states transitions symbol next) where
  pub value-none : next ≡ 255 → Ends Nothing ≡ look_up r.subject c
  value-none none = sym (look-up-none r.subject c (rw k.symbol_is at (step-none k.read c.state symbol next k.next_is none)))

  leads-on : (next ≡ 255 → ⊥) → step r.subject.machine c.state (get_or r.subject.symbols c.place 0) ≡ Some next
  leads-on some = ap (step r.subject.machine c.state) (sym k.symbol_is) ∙ step-some k.read c.state symbol next k.next_is some

  pub next-within : (next ≡ 255 → ⊥) → next < length m.states
  next-within some = subst (λ (x : Machine). next < length x.states) k.read.machine (step-within r.subject c next k.sound k.within (leads-on some))

  pub value-some : (place : ℕ) (entry : Acceptance × Option ℕ) (result : LookUp) → (next ≡ 255 → ⊥) → entry ≡ state_at m next → place ≡ min (suc c.place) (length r.subject.symbols) → result ≡ arrival entry next place c.kept
      → result ≡ look_up r.subject c
  value-some place entry result some e p is =
      is ∙ ap (λ (x : Acceptance × Option ℕ). arrival x next place c.kept) (e ∙ sym (state-read k.read next))
      ∙ ap (λ (x : ℕ). arrival (state_at r.subject.machine next) next x c.kept) p
      ∙ sym (look-up-some r.subject c next (leads-on some))

pub result-within : (s : Subject) (c : Configuration) (result : LookUp) → IsSound s → IsConfigurationOf s c → result ≡ look_up s c → IfLeads result (IsConfigurationOf s)
result-within s c (Ends o) sound within is = tt
result-within s c (Leads d) sound within is = leads-within s c d sound within (sym is)

-- by an item
pub goes-more : (whole left after : Text) (place : ℕ) → left ≡ rest_after place whole → after ≡ rest_after 1 left → after ≡ rest_after (place + 1) whole
goes-more whole left after place is one = one ∙ ap (rest_after 1) is ∙ after-after 1 place whole

-- to a place
pub sought : (whole text : Text) (start offset : ℕ) → text ≡ rest_after start whole → start ≤ offset → rest_after (offset - start) text ≡ rest_after offset whole
sought whole text start offset is past = ap (rest_after (offset - start)) is ∙ after-after (offset - start) start whole ∙ ap (λ (n : ℕ). rest_after n whole) (omega (arith, past))

pub seeks : (whole text new : Text) (start offset stood : ℕ) → text ≡ rest_after start whole → start ≤ offset → stood ≡ start_of (rest_after offset whole) → ((k : ℕ) → stood ≡ start_of (rest_after k text) → new ≡ rest_after k text)
    → new ≡ rest_after offset whole
seeks whole text new start offset stood is past stands to =
    let same = sought whole text start offset is past in
    to (offset - start) (stands ∙ ap start_of (sym same)) ∙ same
