-- A scan while no lookahead is named, of what the code has in hand.
use Rattle.std.proofs.Common.{◌≡◌, ℕ, suc, ◌+◌, ◌*◌, ◌<◌, Option, Some, None, List, length, min, refl, sym, ap, ◌∙◌, subst, arith, inl}
use Rattle.std.specs.Prelude.{slice_index, slice_index_or}
use Rattle.seg_text.specs.Items.{Text, rest_after, start_of}
use Rattle.seg_memo.specs.Configurations.{Boundary, Acceptance, Accept, Configuration, Leads, Ends, Nothing, configuration, floor, reading, subject, look_up}
use Rattle.seg_machine.specs.Machine.{Machine, state_at, symbol_and_script, symbols_of}
use Rattle.seg_machine.specs.MachineFaults.{NamesPast}
use Rattle.seg_machine.specs.Search.{keep}
use Rattle.seg_memo.specs.Grids.{Table, IsKeptSymbol, IsMemo, IsReadBy, IsConfigurationOf, Source}
use Rattle.seg_memo.proofs.Following.{leads-within}
use Rattle.seg_memo.proofs.Onward.{Turn, turn-begins}
use Rattle.seg_memo.proofs.Plain.{free-held}
use Rattle.seg_memo.proofs.Reading.{Read, next-within, state-read, value-none, value-some}
use Rattle.seg_memo.proofs.Ways.{keep-some}

-- what the code has in hand before a reading
pub record Scans (r : Source) (m : Machine) (states : ℕ) (transitions : List ℕ) (counted : ℕ) (t : Table) (start : ℕ) (here : Configuration) (after symbol : ℕ) (left : Text) (last : Option Boundary) (stood : ℕ) : Type 0 where
  pub read : IsReadBy r m states transitions
  pub turn : Turn r.subject t start here last (counted + 1)
  pub ahead : IsKeptSymbol r here.place symbol left
  pub after_is : after ≡ min (suc here.place) (length r.subject.symbols)
  pub stands : stood ≡ start_of (rest_after (floor start last) r.whole)

-- the configuration that comes
pub record LeadsOn (r : Source) (here next : Configuration) : Type 0 where
  pub leads : look_up r.subject here ≡ Leads next
  pub within : IsConfigurationOf r.subject next

-- no lookahead is named where the machine has none
free-name : (count : ℕ) (entry : Acceptance × Option ℕ) → count ≡ 0 → (NamesPast count entry → ⊥) → entry.1 ≡ None
free-name count (acceptance, None) none free = refl
free-name count (acceptance, Some name) none free = absurd (free (inl (omega (arith, none))))

module _ {r : Source} {m : Machine} {states : ℕ} {transitions : List ℕ} {counted : ℕ} {t : Table} {start : ℕ} {here : Configuration} {after symbol : ℕ} {left : Text} {last : Option Boundary} {stood : ℕ}
    (w : Scans r m states transitions counted t start here after symbol left last stood) where
  in-hand : (next : ℕ) → next ≡ slice_index transitions (here.state + symbol * states) → Read r m here states transitions symbol next
  in-hand next is = record { sound = w.turn.fit.sound; read = w.read; within = w.turn.within; symbol_is = w.ahead.symbol_is; next_is = is }

  pub stops : (next : ℕ) → next ≡ slice_index transitions (here.state + symbol * states) → next ≡ 255 → look_up r.subject here ≡ Ends Nothing
  stops next is none = sym (value-none (in-hand next is) none)

  pub next-state : (next : ℕ) → next ≡ slice_index transitions (here.state + symbol * states) → (next ≡ 255 → ⊥) → next < length m.states
  next-state next is some = next-within (in-hand next is) some

  pub comes : (next : ℕ) (entry : Acceptance × Option ℕ) → next ≡ slice_index transitions (here.state + symbol * states) → (next ≡ 255 → ⊥) → entry ≡ state_at m next → LeadsOn r here (configuration next after (keep 0 entry.1))
  comes next entry is some e =
      let free : here.kept ≡ 0 = (w.turn.before here (inl refl)).free in
      let leads = sym (value-some (in-hand next is) after entry (Leads (configuration next after (keep 0 entry.1))) some e w.after_is (rw (free, free-held 0 entry refl) refl)) in
      record { leads = leads; within = leads-within r.subject here (configuration next after (keep 0 entry.1)) w.turn.fit.sound w.turn.within leads }

  -- where no lookahead is named
  pub comes-free : (next : ℕ) (entry : Acceptance × Option ℕ) → next ≡ slice_index transitions (here.state + symbol * states) → (next ≡ 255 → ⊥) → entry ≡ state_at m next → entry.1 ≡ None
      → LeadsOn r here (configuration next after 0)
  comes-free next entry is some e none = subst (λ (x : Option ℕ). LeadsOn r here (configuration next after (keep 0 x))) none (comes next entry is some e)

  pub names-none : (state : ℕ) (entry : Acceptance × Option ℕ) → entry ≡ state_at m state → r.subject.machine.num_lookaheads ≡ 0 → entry.1 ≡ None
  names-none state entry is none =
      ap (λ (x : Acceptance × Option ℕ). x.1) (is ∙ sym (state-read w.read state)) ∙ free-name r.subject.machine.num_lookaheads (state_at r.subject.machine state) none (w.turn.fit.sound.checked.lookaheads state)

  pub entry-accepts : (state status : ℕ) (entry : Acceptance × Option ℕ) → entry ≡ state_at m state → entry.0 ≡ Accept status → state_at r.subject.machine state ≡ (Accept status, entry.1)
  entry-accepts state status entry is accepts = state-read w.read state ∙ sym is ∙ ap (λ (a : Acceptance). (a, entry.1)) accepts

  pub entry-not : (state : ℕ) (entry : Acceptance × Option ℕ) → entry ≡ state_at m state → ((status : ℕ) → entry.0 ≡ Accept status → ⊥) → (status : ℕ) → (state_at r.subject.machine state).0 ≡ Accept status → ⊥
  entry-not state entry is not status accepts = not status (ap (λ (x : Acceptance × Option ℕ). x.0) (is ∙ sym (state-read w.read state)) ∙ accepts)

  -- what is left, and where the last acceptance stands
  pub scans-text : left ≡ rest_after after r.whole
  scans-text = w.ahead.rest ∙ ap (λ (n : ℕ). rest_after n r.whole) (sym w.after_is)

  pub scans-left : (next : Configuration) (entry : ℕ × ℕ) → next ≡ configuration entry.0 after entry.1 → left ≡ rest_after next.place r.whole
  scans-left next entry is = scans-text ∙ ap (λ (c : Configuration). rest_after c.place r.whole) (sym is)

  pub scans-stand : (b : Option Boundary) → last ≡ b → stood ≡ start_of (rest_after (floor start b) r.whole)
  scans-stand b is = w.stands ∙ ap (λ (x : Option Boundary). start_of (rest_after (floor start x) r.whole)) is

-- the symbol that comes
pub scans-next : {r : Source} {place symbol next : ℕ} {new : Text} → symbol ≡ slice_index_or r.subject.symbols place 0 → next ≡ min (suc place) (length r.subject.symbols) → new ≡ rest_after next r.whole → IsKeptSymbol r place symbol new
scans-next {r = r} symbol_is next_is rest = record { symbol_is = symbol_is; rest = rest ∙ ap (λ (n : ℕ). rest_after n r.whole) next_is }

pub scans-on : (r : Source) (m : Machine) (states : ℕ) (transitions : List ℕ) (counted : ℕ) (t u : Table) (start : ℕ) (here : Configuration) (after symbol : ℕ) (left : Text) (last b : Option Boundary) (stood : ℕ)
    → IsReadBy r m states transitions → Turn r.subject t start here b (counted + 1) → u ≡ t → last ≡ b → IsKeptSymbol r here.place symbol left → after ≡ min (suc here.place) (length r.subject.symbols)
    → stood ≡ start_of (rest_after (floor start b) r.whole) → Scans r m states transitions counted u start here after symbol left last stood
scans-on r m states transitions counted t u start here after symbol left last b stood read turn same is ahead after_is stands = rw (same, is) (record { read = read; turn = turn; ahead = ahead; after_is = after_is; stands = stands })

pub scans-begin : (r : Source) (m : Machine) (states : ℕ) (transitions : List ℕ) (counted : ℕ) (t : Table) (start place symbol : ℕ) (left : Text) (stood : ℕ) → IsReadBy r m states transitions → IsMemo r.subject t counted start
    → place ≡ start → start < length r.subject.symbols → IsKeptSymbol r start symbol left → stood ≡ start_of (rest_after start r.whole)
    → Scans r m states transitions counted t start (configuration 0 place 0) (place + 1) symbol left None stood
scans-begin r m states transitions counted t start place symbol left stood read memo is some ahead stands =
    rw is (record { read = read; turn = turn-begins r m states transitions t start counted memo read some; ahead = ahead; after_is = omega (arith, some); stands = stands })

-- and where one is
pub comes-kept : (r : Source) (here first : Configuration) (next after lookahead : ℕ) (name : Option ℕ) → LeadsOn r here (configuration next after (keep 0 name)) → first ≡ configuration next after (keep 0 name)
    → name ≡ Some lookahead → LeadsOn r here first × (0 < first.kept)
comes-kept r here first next after lookahead name k is some = rw is (k, subst (λ (x : Option ℕ). 0 < keep 0 x) (sym some) (keep-some 0 lookahead))

pub still-read : (r : Source) (m : Machine) (states after : ℕ) (transitions later : List ℕ) → IsReadBy r m states transitions → after ≡ states → later ≡ transitions → IsReadBy r m after later
still-read r m states after transitions later read same unchanged = rw (same, unchanged) read

-- another reader's machine has the same symbols
pub other-ahead : (m : Machine) (before after : List ℕ) (codes : List ℕ) (whole left : Text) (place symbol : ℕ)
    → IsKeptSymbol (record { subject = subject (reading m before) (symbols_of (reading m before) codes); whole = whole }) place symbol left
    → IsKeptSymbol (record { subject = subject (reading m after) (symbols_of (reading m after) codes); whole = whole }) place symbol left
unfolding symbol_and_script
other-ahead m before after codes whole left place symbol ahead = record { symbol_is = ahead.symbol_is; rest = ahead.rest }
