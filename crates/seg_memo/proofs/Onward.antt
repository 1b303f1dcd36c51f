-- The turns of a scan while no lookahead is named.
use Rattle.std.proofs.Common.{◌≡◌, ◌≢◌, ℕ, suc, ◌+◌, ◌<◌, ◌≤◌, Option, Some, None, List, [], ◌∷◌, ◌++◌, length, min, refl, sym, ap, ◌∙◌, subst, arith, inl, inr}
use Rattle.seg_memo.specs.Configurations.{Boundary, Accept, Configuration, Outcome, Nothing, Picked, Kept, Ends, Leads, Subject, start_at, different, floor, following, later, look_ups, all_look_ups, AreStarts, outcome_at, look_up, picked}
use Rattle.seg_text.specs.Boundaries.{boundary}
use Rattle.seg_machine.specs.Machine.{Machine, state_at}
use Rattle.seg_memo.specs.Grids.{Unknown, KnownNothing, Table, Before, HasCell, IsFit, IsLeft, IsMemo, IsNamed, IsOn, IsReadBy, IsScanned, IsConfigurationOf, IsSet, Source, TellFrom, Tells, cell, known, onto}
use Rattle.seg_memo.proofs.Following.{ends, fewer, leads, look-ups-leads, outcome-leads}
use Rattle.seg_memo.proofs.Lists.{AreWithin, different-new, different-same, on-append}
use Rattle.seg_memo.proofs.Plain.{all-accept, all-picked, known-nothing, never-kept, outcome-accepts, outcome-passes, plain-ends}
use Rattle.seg_memo.proofs.Scanning.{all-part, start-within, visited, visited-within}
use Rattle.seg_memo.proofs.Picking.{memo-more, start-picks}
use Rattle.seg_memo.proofs.Tells.{count-room, fit-later, fit-left, fit-set, left-still, tell-fill, tell-left, tell-less, tell-more, tell-same, tell-set, tells-none}

-- the scan from a place is to look up this configuration: it is counted already. The cells from the last acceptance on tell, but for those of
-- its scan; and where nothing comes of it, those of its scan too
pub record Turn (s : Subject) (t : Table) (start : ℕ) (here : Configuration) (last : Option Boundary) (counted : ℕ) : Type 0 where
  pub starts : List ℕ
  pub are : AreStarts s starts start
  pub some : start < length s.symbols
  pub path : List Configuration
  pub within : IsConfigurationOf s here
  pub before : (d : Configuration) → IsOn d (here ∷ path) → Before s here d
  pub covers : look_ups s (start_at start) ≡ onto path (look_ups s here)
  pub past : start < floor (suc start) last
  pub low : floor (suc start) last ≤ min (suc here.place) (length s.symbols)
  pub fit : IsFit s t (floor (suc start) last)
  pub cells : TellFrom s t (floor (suc start) last) ((here ∷ path) ++ all_look_ups s starts) (here ∷ path)
  pub right : (b : Boundary) → last ≡ Some b → outcome_at s here ≡ Nothing → TellFrom s t (suc b.offset) ((here ∷ path) ++ all_look_ups s starts) []
  pub is : outcome_at s (start_at start) ≡ later last (outcome_at s here)
  pub picks : outcome_at s (start_at start) ≡ Nothing → ⊥
  pub count : counted ≡ different ((here ∷ path) ++ all_look_ups s starts)

-- the configuration that comes
pub record Next (s : Subject) (t : Table) (start : ℕ) (here next : Configuration) (last : Option Boundary) (starts : List ℕ) (path : List Configuration) : Type 0 where
  pub within : IsConfigurationOf s next
  pub place : next.place ≡ min (suc here.place) (length s.symbols)
  pub low : floor (suc start) last ≤ next.place
  pub fewer : length (following s next) < length (following s here)
  pub off : IsOn next (here ∷ path) → ⊥
  pub look_ups_are : look_ups s here ≡ here ∷ look_ups s next
  pub has : HasCell t next
  pub tells : Tells s ((here ∷ path) ++ all_look_ups s starts) next (cell t next)

-- what is so after a turn
record Step (s : Subject) (u : Table) (start : ℕ) (next : Configuration) (last : Option Boundary) (found path : List Configuration) : Type 0 where
  pub new : IsOn next found → ⊥
  pub past : start < floor (suc start) last
  pub low : floor (suc start) last ≤ next.place
  pub fit : IsFit s u (floor (suc start) last)
  pub cells : TellFrom s u (floor (suc start) last) (next ∷ found) (next ∷ path)
  pub right : (b : Boundary) → last ≡ Some b → outcome_at s next ≡ Nothing → TellFrom s u (suc b.offset) (next ∷ found) []
  pub is : outcome_at s (start_at start) ≡ later last (outcome_at s next)

later-later : (last : Option Boundary) (b : Boundary) (o : Outcome) → later last (later (Some b) o) ≡ later (Some b) o
later-later None b o = refl
later-later (Some a) b Nothing = refl
later-later (Some a) b (Picked found) = refl
later-later (Some a) b (Kept lookahead status) = refl

offset-is : (a b : Boundary) → Some a ≡ Some b → a.offset ≡ b.offset
offset-is a b is = let same : a ≡ b = cc in ap (λ (x : Boundary). x.offset) same

floors-up : (start place : ℕ) (last : Option Boundary) → floor (suc start) last ≤ place → floor (suc start) last ≤ floor place last
floors-up start place None low = low
floors-up start place (Some b) low = omega arith

floors-under : (start place : ℕ) (last : Option Boundary) → floor (suc start) last ≤ place → floor place last ≤ place
floors-under start place None low = omega arith
floors-under start place (Some b) low = low

module _ {s : Subject} {t : Table} {start : ℕ} {here : Configuration} {last : Option Boundary} {counted : ℕ} (w : Turn s t start here last counted) where
  turn-most : start ≤ length s.symbols
  turn-most = let some = w.some in omega (arith, some)

  turn-within : AreWithin s ((here ∷ w.path) ++ all_look_ups s w.starts)
  turn-within = visited-within s w.starts start (here ∷ w.path) w.fit.sound w.are turn-most (λ d on. (w.before d on).within)

  pub next-is : {next : Configuration} → look_up s here ≡ Leads next → IsConfigurationOf s next → Next s t start here next last w.starts w.path
  next-is {next = next} is inside =
      let place = (leads s here next w.fit.sound w.within is).place in
      let less = fewer s here next w.fit.sound w.within is in
      let off : IsOn next (here ∷ w.path) → ⊥ = λ on. let longer = (w.before next on).longer in omega (arith, longer, less) in
      let low = w.low in
      let past : floor (suc start) last ≤ next.place = omega (arith, low, place) in
      record {
        within = inside;
        place = place;
        low = past;
        fewer = less;
        off = off;
        look_ups_are = look-ups-leads s here next w.fit.sound w.within is;
        has = w.fit.has next inside past;
        tells = w.cells.at next inside past off;
      }

  -- where it was looked up before, it was by the scan of a segment before
  next-before : {next : Configuration} → Next s t start here next last w.starts w.path → IsOn next ((here ∷ w.path) ++ all_look_ups s w.starts) → IsOn next (all_look_ups s w.starts)
  next-before {next = next} n on = elim (on-append next (here ∷ w.path) (all_look_ups s w.starts) on) [ inl path ↦ absurd (n.off path) | inr before ↦ before ]

  before-next : {next : Configuration} → Next s t start here next last w.starts w.path → (d : Configuration) → IsOn d (here ∷ w.path) → Before s next d
  before-next n d on =
      let b = w.before d on in
      let place = n.place in
      let first = b.place in
      let at = w.within.place in
      let longer = b.longer in
      let fewer = n.fewer in
      record { within = b.within; free = b.free; place = omega (arith, first, place, at); longer = omega (arith, longer, fewer) }

  step : {u : Table} {next : Configuration} {after : Option Boundary} {count : ℕ} → Next s t start here next last w.starts w.path
      → next.kept ≡ 0 → Step s u start next after ((here ∷ w.path) ++ all_look_ups s w.starts) (here ∷ w.path) → count ≡ counted → Turn s u start next after (count + 1)
  step {next = next} n unkept p counts = record {
    starts = w.starts;
    are = w.are;
    some = w.some;
    path = here ∷ w.path;
    within = n.within;
    before = λ d on.
        elim on [
          | inl is ↦ subst (Before s next) (sym is) (record { within = n.within; free = unkept; place = omega arith; longer = omega arith })
          | inr rest ↦ before-next n d rest
        ];
    covers = w.covers ∙ ap (onto w.path) n.look_ups_are;
    past = p.past;
    low = let low = p.low in let inside = n.within.place in omega (arith, low, inside);
    fit = p.fit;
    cells = p.cells;
    right = p.right;
    is = p.is;
    picks = w.picks;
    count = let more = different-new next ((here ∷ w.path) ++ all_look_ups s w.starts) p.new in let was = w.count in omega (arith, more, was, counts);
  }

  -- a state accepts: no scan before reached it
  pub turn-accepts : {next : Configuration} {count status : ℕ} {name : Option ℕ} → next.kept ≡ 0 → look_up s here ≡ Leads next → IsConfigurationOf s next → state_at s.machine next.state ≡ (Accept status, name) → count ≡ counted
      → Turn s t start next (Some (boundary next.place status)) (count + 1)
  turn-accepts {next = next} {status = status} {name = name} free leads inside accepts counts =
      let n = next-is leads inside in
      let past : start < next.place = let past = w.past in let low = n.low in omega (arith, past, low) in
      let more = tell-more w.cells next in
      step n free
      (record {
        new = λ on.
            let most = all-accept s w.starts start next w.fit.sound free w.are turn-most (status, name, accepts) (next-before n on) in
            omega (arith, most, past);
        past = past;
        low = omega arith;
        fit = fit-later w.fit n.low;
        cells = tell-less more n.low (λ c on. on);
        right = λ b is none. record {
          at = λ c within from off.
              let offset = offset-is (boundary next.place status) b is in
              let low = n.low in
              more.at c within (omega (arith, low, offset, from))
              (λ on.
              elim on [
                | inl same ↦ let at : c.place ≡ next.place = ap (λ (x : Configuration). x.place) same in omega (arith, at, offset, from)
                | inr rest ↦ let before = (before-next n c rest).place in omega (arith, before, offset, from)
              ]);
        };
        is = w.is ∙ ap (later last) (outcome-accepts s here next status name w.fit.sound free w.within leads accepts) ∙ later-later last (boundary next.place status) (outcome_at s next);
      })
      counts

  -- it ends past an acceptance
  pub turn-some : {o : Outcome} → look_up s here ≡ Ends o → last ≡ None → ⊥
  turn-some {o = o} is none =
      w.picks
      (w.is ∙ ap (λ (x : Option Boundary). later x (outcome_at s here)) none ∙ (ends s here o w.fit.sound w.within is).outcome_is ∙ plain-ends s here o (w.before here (inl refl)).free is)

  -- a lookahead is named
  pub turn-names : {next : Configuration} {count : ℕ} → look_up s here ≡ Leads next → IsConfigurationOf s next → 0 < next.kept → count ≡ counted → IsNamed s t count start last next
  turn-names {next = next} leads inside kept counts =
      let n = next-is leads inside in
      let same = outcome-leads s here next w.fit.sound w.within leads in
      let up = floors-up start next.place last n.low in
      record {
        comes = record {
          starts = w.starts;
          are = w.are;
          some = w.some;
          passed = here ∷ w.path;
          before = before-next n;
          covers = w.covers ∙ ap (onto w.path) n.look_ups_are;
          within = inside;
          kept = kept;
          high = let past = w.past in omega (arith, past, up);
          low = floors-under start next.place last n.low;
          is = w.is ∙ ap (later last) same;
          picks = w.picks;
        };
        keeps = record {
          fit = fit-later w.fit up;
          cells = tell-less w.cells up (λ c on. on);
          plain = λ b is none c within past free. let right = w.right b is (same ∙ none) in right.at c within past (λ on. on);
          count = counts ∙ w.count;
        };
      }

  -- of what the code has in hand

  pub turn-last : {b : Option Boundary} → last ≡ b → Turn s t start here b counted
  turn-last is = subst (λ (x : Option Boundary). Turn s t start here x counted) is w

  -- the cells that a mark needs
  pub turn-held : {next : Configuration} {b : Boundary} → last ≡ Some b → look_up s here ≡ Leads next → IsConfigurationOf s next → HasCell t next × (HasCell t (start_at b.offset) × (b.offset ≤ next.place))
  turn-held {b = b} is leads inside =
      let n = next-is leads inside in
      let at : floor (suc start) last ≡ b.offset = ap (floor (suc start)) is in
      let low = n.low in
      let most = inside.place in
      (n.has, (w.fit.has (start_at b.offset) (start-within s b.offset w.fit.sound (omega (arith, low, at, most))) (omega (arith, at)), omega (arith, low, at)))

pub turn-room : {s : Subject} {t : Table} {start : ℕ} {here : Configuration} {last : Option Boundary} {counted : ℕ} → Turn s t start here last (counted + 1) → counted < 18446744073709551615
turn-room {s = s} {here = here} {counted = counted} w = count-room w.fit counted ((here ∷ w.path) ++ all_look_ups s w.starts) (turn-within w) w.count

-- none did so far: no scan before reached it, since there is a pick
pub turn-first : {s : Subject} {t : Table} {start : ℕ} {here next : Configuration} {counted count : ℕ} → next.kept ≡ 0
    → Turn s t start here None counted → look_up s here ≡ Leads next → IsConfigurationOf s next → ((status : ℕ) → (state_at s.machine next.state).0 ≡ Accept status → ⊥) → count ≡ counted
    → Turn s t start next None (count + 1)
turn-first {s = s} {t = t} {here = here} {next = next} free w leads inside not counts =
    let n = next-is w leads inside in
    let passes = w.is ∙ outcome-passes s here next w.fit.sound free w.within leads not in
    step w n free
    (record {
      new = elim n.tells [ inl new ↦ new.1 | inr old ↦ absurd (w.picks (passes ∙ known-nothing s next (cell t next) free old.0)) ];
      past = omega arith;
      low = n.low;
      fit = w.fit;
      cells = tell-more w.cells next;
      right = λ b is none. cc;
      is = passes;
    })
    counts

module _ {s : Subject} {t u : Table} {start : ℕ} {here : Configuration} {b : Boundary} {counted count : ℕ} (w : Turn s t start here (Some b) counted) (counts : count ≡ counted) where
  -- one did before, and the configuration wasn't looked up
  pub turn-marks : {next : Configuration} → next.kept ≡ 0 → look_up s here ≡ Leads next → IsConfigurationOf s next → ((status : ℕ) → (state_at s.machine next.state).0 ≡ Accept status → ⊥)
      → (cell t next ≡ Unknown) × IsSet t u b.offset next KnownNothing → Turn s u start next (Some b) (count + 1)
  turn-marks {next = next} free leads inside not (unknown, set) =
      let n = next-is w leads inside in
      let found = (here ∷ w.path) ++ all_look_ups s w.starts in
      let passes = outcome-passes s here next w.fit.sound free w.within leads not in
      step w n free
      (record {
        new = tells-none s found next (cell t next) n.tells (ap known unknown);
        past = w.past;
        low = n.low;
        fit = fit-set w.fit set (omega arith);
        cells = tell-set (tell-more w.cells next) w.fit set (omega arith);
        right = λ a is none.
            let offset = offset-is b a is in
            tell-fill (tell-more (w.right a is (passes ∙ none)) next) (fit-later w.fit (omega (arith, offset))) set (omega (arith, offset)) (inr (ap Some (sym none), inl refl));
        is = w.is ∙ ap (later (Some b)) passes;
      })
      counts

  -- the scan's end
  done : (rest : List Configuration) → IsLeft t u b.offset → outcome_at s here ≡ Nothing → look_ups s here ≡ here ∷ rest → ((c : Configuration) → IsOn c rest → IsOn c (all_look_ups s w.starts)) → IsScanned s u count start b
  done rest left none looked part =
      let all = visited s w.starts start (here ∷ w.path) rest (w.covers ∙ ap (onto w.path) looked) part in
      let past : IsLeft t u (suc b.offset) = record { at = λ c past has. left.at c (omega (arith, past)) has } in
      memo-more s u count start w.starts b w.are w.some (w.is ∙ ap (later (Some b)) none) (fit-left w.fit left) (tell-same (tell-left (w.right b refl none) (fit-later w.fit (omega arith)) past) all)
      (counts ∙ w.count ∙ different-same s _ _ (turn-within w) all)

  pub turn-known : {next : Configuration} → next.kept ≡ 0 → look_up s here ≡ Leads next → IsConfigurationOf s next → ((status : ℕ) → (state_at s.machine next.state).0 ≡ Accept status → ⊥)
      → (cell t next ≢ Unknown) × IsLeft t u b.offset → IsScanned s u count start b
  turn-known {next = next} free leads inside not (some, left) =
      let n = next-is w leads inside in
      elim n.tells [
        | inl new ↦ absurd (some new.0)
        | inr old ↦
            done (look_ups s next) left (outcome-passes s here next w.fit.sound free w.within leads not ∙ known-nothing s next (cell t next) free old.0) n.look_ups_are
            (all-part s w.starts start next w.fit.sound w.are (turn-most w) (next-before w n old.1))
      ]

pub turn-ends : {s : Subject} {t : Table} {start : ℕ} {here : Configuration} {b : Boundary} {counted count : ℕ} {o : Outcome} → Turn s t start here (Some b) counted → look_up s here ≡ Ends o → count ≡ counted → IsScanned s t count start b
turn-ends {s = s} {t = t} {here = here} {b = b} {o = o} w is counts =
    let last = ends s here o w.fit.sound w.within is in
    done w counts [] (left-still t b.offset) (last.outcome_is ∙ plain-ends s here o (w.before here (inl refl)).free is) last.alone (λ c on. absurd on)

-- the scan's beginning: no scan before reached it, since it has a pick

pub turn-start : (s : Subject) (t : Table) (start counted : ℕ) → IsMemo s t counted start → start < length s.symbols → (outcome_at s (start_at start) ≡ Nothing → ⊥) → Turn s t start (start_at start) None (counted + 1)
turn-start s t start counted memo some picks =
    let inside = start-within s start memo.fit.sound memo.within in
    let new : IsOn (start_at start) (all_look_ups s memo.starts) → ⊥ = λ on. free (outcome_at s (start_at start)) refl on in
    record {
      starts = memo.starts;
      are = memo.are;
      some = some;
      path = [];
      within = inside;
      before = λ d on. elim on [ inl is ↦ subst (Before s (start_at start)) (sym is) (record { within = inside; free = refl; place = omega arith; longer = omega arith }) | inr none ↦ absurd none ];
      covers = refl;
      past = omega arith;
      low = omega (arith, some);
      fit = fit-later memo.fit (omega arith);
      cells = tell-more memo.cells (start_at start);
      right = λ b is none. cc;
      is = refl;
      picks = picks;
      count = let more = different-new (start_at start) (all_look_ups s memo.starts) new in let was = memo.count in omega (arith, more, was);
    }
  where
    free : (o : Outcome) → outcome_at s (start_at start) ≡ o → IsOn (start_at start) (all_look_ups s memo.starts) → ⊥
    free Nothing is on = picks is
    free (Kept lookahead status) is on = never-kept s (start_at start) lookahead status refl is
    free (Picked f) is on = let less = all-picked s memo.starts start (start_at start) f memo.fit.sound some is memo.are memo.within on in omega (arith, less)

pub turn-begins : (r : Source) (m : Machine) (states : ℕ) (transitions : List ℕ) (t : Table) (start counted : ℕ) → IsMemo r.subject t counted start → IsReadBy r m states transitions → start < length r.subject.symbols
    → Turn r.subject t start (start_at start) None (counted + 1)
turn-begins r m states transitions t start counted memo read some =
    turn-start r.subject t start counted memo some (λ nothing. start-picks r m states transitions start memo.fit.sound some read (ap picked nothing))
