-- The way of a scan that keeps a lookahead, forward over the cells and back.
use Rattle.std.proofs.Common.{◌≡◌, ℕ, suc, ◌+◌, ◌-◌, ◌^◌, ◌<◌, ◌≤◌, ◌==◌, Bool, true, false, Option, Some, None, List, [], ◌∷◌, ◌++◌, if◌then◌else◌, length, min, refl, sym, ap, ◌∙◌, subst, arith, inl, inr, eq-eqb}
use Rattle.std.specs.Prelude.{bit_or}
use Rattle.std.proofs.lemmas.Bool.{cases_eq, eqb-true, eqb-false, false≢true}
use Rattle.seg_memo.specs.Configurations.{Boundary, Configuration, Outcome, Nothing, Picked, Kept, Ends, Leads, Subject, following, look_ups, all_look_ups, entered, outcome_at, look_up}
use Rattle.seg_machine.specs.Machine.{state_at}
use Rattle.seg_machine.specs.Search.{has, keep}
use Rattle.seg_machine.proofs.Sets.{has-keep, has-none}
use Rattle.seg_memo.specs.Grids.{Cell, First, Way, KnownNothing, KnownKept, Table, Comes, HasCell, IsConfigurationOf, IsFit, IsNamed, IsOn, IsSet, IsSound, IsUnderWay, IsWalked, IsWay, Keeps, OnWay, Tells, Went, cell, holding, known, onto, came_from, way_from}
use Rattle.seg_memo.proofs.Cells.{same}
use Rattle.seg_memo.proofs.Following.{ends, few, fewer, leads, leads-within, look-ups-leads, look-ups-on, outcome-leads}
use Rattle.seg_memo.proofs.Lists.{AreWithin, on-append, on-onto, onto-append, or-right}
use Rattle.seg_memo.proofs.Scanning.{all-part, on-scan, visited, visited-within}
use Rattle.seg_memo.proofs.Tells.{count-room, keeps-but, keeps-fill, keeps-new, keeps-same, set-still, tells-known, tells-none}

-- a scan that keeps a lookahead goes on

pub keep-some : (kept lookahead : ℕ) → 0 < keep kept (Some lookahead)
keep-some kept lookahead =
    elim (cases_eq (bit_or kept (2 ^ lookahead)) 0) [
      | inl none ↦
          absurd (false≢true (sym (has-none lookahead) ∙ ap (λ (k : ℕ). has k lookahead) (sym none) ∙ has-keep kept lookahead lookahead
          ∙ or-right (has kept lookahead) (lookahead == lookahead) (eq-eqb lookahead lookahead refl)))
      | inr some ↦ omega (arith, some)
    ]

keep-more : (kept : ℕ) (name : Option ℕ) → 0 < kept → 0 < keep kept name
keep-more kept None some = some
keep-more kept (Some lookahead) some = keep-some kept lookahead

on-next : (s : Subject) (first here next : Configuration) → IsSound s → OnWay s first here → look_up s here ≡ Leads next → OnWay s first next
on-next s first here next sound way is =
    let f = leads s here next sound way.within is in
    record {
      within = leads-within s here next sound way.within is;
      past = omega (arith, f.place, way.past, way.within.place);
      kept = subst (λ (k : ℕ). 0 < k) (sym f.kept) (keep-more here.kept (state_at s.machine next.state).1 way.kept);
    }

-- the way

way-all : (s : Subject) (t : Table) (first here : Configuration) (path : List Configuration) → IsWay s t first here path → (d : Configuration) → IsOn d (here ∷ path) → OnWay s first d
way-all s t first here [] way d on = elim on [ inl is ↦ subst (OnWay s first) (sym is) way.1 | inr none ↦ absurd none ]
way-all s t first here (before ∷ path) way d on = elim on [ inl is ↦ subst (OnWay s first) (sym is) way.1 | inr rest ↦ way-all s t first before path way.3 d rest ]

way-on : (s : Subject) (t : Table) (first here : Configuration) (path : List Configuration) → IsWay s t first here path → OnWay s first here
way-on s t first here path way = way-all s t first here path way here (inl refl)

-- a segment's end is the same from each of them
way-picked : (s : Subject) (t : Table) (first here c : Configuration) (path : List Configuration) (found : Boundary) → IsSound s → IsWay s t first here path → outcome_at s here ≡ Picked found
    → IsOn c (here ∷ path) → outcome_at s c ≡ Picked found
way-picked s t first here c [] found sound way is on = elim on [ inl same ↦ ap (outcome_at s) same ∙ is | inr none ↦ absurd none ]
way-picked s t first here c (before ∷ path) found sound way is on =
    elim on [
      | inl same ↦ ap (outcome_at s) same ∙ is
      | inr rest ↦
          way-picked s t first before c path found sound way.3
          (outcome-leads s before here sound (way-on s t first before path way.3).within way.0 ∙ ap (entered here.place (state_at s.machine here.state)) is) rest
    ]

way-first : (s : Subject) (t : Table) (first here : Configuration) (path : List Configuration) → IsWay s t first here path → IsOn first (here ∷ path)
way-first s t first here [] way = inl (sym way.0)
way-first s t first here (before ∷ path) way = inr (way-first s t first before path way.3)

-- more states come after those that lie further back
way-shorter : (s : Subject) (t : Table) (first here c : Configuration) (path : List Configuration) → IsSound s → IsWay s t first here path → IsOn c path
    → length (following s here) < length (following s c)
way-shorter s t first here c [] sound way on = absurd on
way-shorter s t first here c (before ∷ path) sound way on =
    let less = fewer s before here sound (way-on s t first before path way.3).within way.0 in
    elim on [
      | inl is ↦ rw is less
      | inr further ↦ let more = way-shorter s t first before c path sound way.3 further in omega (arith, less, more)
    ]

off-way : (s : Subject) (t : Table) (first here : Configuration) (path : List Configuration) → IsSound s → IsWay s t first here path → IsOn here path → ⊥
off-way s t first here path sound way on = let less = way-shorter s t first here here path sound way on in omega (arith, less)

next-off-way : (s : Subject) (t : Table) (first here next : Configuration) (path : List Configuration) → IsSound s → IsWay s t first here path → look_up s here ≡ Leads next
    → IsOn next (here ∷ path) → ⊥
next-off-way s t first here next path sound way leads on =
    let less = fewer s here next sound (way-on s t first here path way).within leads in
    elim on [
      | inl is ↦ let same : length (following s next) ≡ length (following s here) = ap (λ (c : Configuration). length (following s c)) is in omega (arith, less, same)
      | inr further ↦ let more = way-shorter s t first here next path sound way further in omega (arith, less, more)
    ]

-- a write to another cell leaves it
way-set : (s : Subject) (t u : Table) (first here : Configuration) (path : List Configuration) (c : Configuration) (x : Cell) → IsFit s t first.place → IsWay s t first here path → IsSet t u 0 c x
    → (IsOn c (here ∷ path) → ⊥) → IsWay s u first here path
way-set s t u first here [] c x fit way set off = (way.0, way.1, (set.others here (omega arith) (fit.has here way.1.within way.1.past)).1 (λ is. off (inl (sym is))) ∙ way.2)
way-set s t u first here (before ∷ path) c x fit way set off = (
  way.0,
  way.1,
  (set.others here (omega arith) (fit.has here way.1.within way.1.past)).1 (λ is. off (inl (sym is))) ∙ way.2,
  way-set s t u first before path c x fit way.3 set (λ on. off (inr on)),
)

-- what the whole scan looks up is the way, and what it looks up from its end on
way-covers : (s : Subject) (t : Table) (first here : Configuration) (path : List Configuration) → IsSound s → IsWay s t first here path → look_ups s first ≡ onto path (look_ups s here)
way-covers s t first here [] sound way = ap (look_ups s) (sym way.0)
way-covers s t first here (before ∷ path) sound way =
    way-covers s t first before path sound way.3 ∙ ap (onto path) (look-ups-leads s before here sound (way-on s t first before path way.3).within way.0)

-- forward

fit-first : {s : Subject} {t : Table} {counted start : ℕ} {last : Option Boundary} {first : Configuration} {found but : List Configuration} → Comes s start last first → Keeps s t counted last first found but → IsFit s t first.place
fit-first comes k = record { sound = k.fit.sound; has = λ c within past. k.fit.has c within (let low = comes.low in omega (arith, low, past)) }

-- it is one of the scan's look-ups
pub first-on : {s : Subject} {start : ℕ} {last : Option Boundary} {first : Configuration} (k : Comes s start last first) (c : Configuration) → IsOn c (look_ups s first) → IsOn c (all_look_ups s (start ∷ k.starts))
first-on {s = s} {start = start} {first = first} k c on = on-scan s start k.starts c (subst (IsOn c) (sym k.covers) (on-onto c k.passed (look_ups s first) (inr on)))

-- the configuration that names the first lookahead
module _ {s : Subject} {t : Table} {counted start : ℕ} {last : Option Boundary} {first : Configuration} (w : IsNamed s t counted start last first) where
  pub first-cell : HasCell t first
  first-cell = w.keeps.fit.has first w.comes.within w.comes.low

  first-off : IsOn first w.comes.passed → ⊥
  first-off on = let none = (w.comes.before first on).free in omega (arith, none, w.comes.kept)

  pub first-tells : Tells s (w.comes.passed ++ all_look_ups s w.comes.starts) first (cell t first)
  first-tells = w.keeps.cells.at first w.comes.within w.comes.low first-off

  named-within : AreWithin s (w.comes.passed ++ all_look_ups s w.comes.starts)
  named-within = visited-within s w.comes.starts start w.comes.passed w.keeps.fit.sound w.comes.are (omega (arith, w.comes.some)) (λ d on. (w.comes.before d on).within)

  -- it is looked up
  first-new : {u : Table} {count : ℕ} {x : Cell} → known (cell t first) ≡ None → count ≡ counted + 1 → IsSet t u 0 first x
      → Keeps s u count last first (first ∷ (w.comes.passed ++ all_look_ups s w.comes.starts)) (first ∷ w.comes.passed)
  first-new none counts set = keeps-new w.keeps set w.comes.kept (tells-none s (w.comes.passed ++ all_look_ups s w.comes.starts) first (cell t first) first-tells none) counts

  first-within : AreWithin s (first ∷ (w.comes.passed ++ all_look_ups s w.comes.starts))
  first-within d on = elim on [ inl same ↦ subst (IsConfigurationOf s) (sym same) w.comes.within | inr rest ↦ named-within d rest ]

  pub first-room : known (cell t first) ≡ None → counted < 18446744073709551615
  first-room none = let more = first-new none refl (set-still t first) in count-room w.keeps.fit counted (first ∷ (w.comes.passed ++ all_look_ups s w.comes.starts)) first-within more.count

  pub walk-start : {u : Table} {count : ℕ} → known (cell t first) ≡ None → count ≡ counted + 1 → IsSet t u 0 first First → IsUnderWay s u count start last first first
  walk-start none counts set = record {
    comes = w.comes;
    path = [];
    way = (refl, record { within = w.comes.within; past = omega arith; kept = w.comes.kept }, set.own);
    keeps = first-new none counts set;
  }

  -- it was looked up before
  pub first-known : {o : Outcome} → known (cell t first) ≡ Some o → IsWalked s t counted start last first o
  first-known {o = o} is =
      let k = tells-known s (w.comes.passed ++ all_look_ups s w.comes.starts) first (cell t first) first-tells o is in
      let before : IsOn first (all_look_ups s w.comes.starts) = elim (on-append first w.comes.passed (all_look_ups s w.comes.starts) k.0) [ inl path ↦ absurd (first-off path) | inr before ↦ before ] in
      record {
        comes = w.comes;
        path = [];
        ends = λ d none. absurd none;
        keeps = keeps-but
            (keeps-same w.keeps named-within
            (visited s w.comes.starts start w.comes.passed (look_ups s first) w.comes.covers (all-part s w.comes.starts start first w.keeps.fit.sound w.comes.are (omega (arith, w.comes.some)) before))) first;
        is = k.1;
      }

  -- its look-up ends the scan
  pub first-ends : {o : Outcome} {count : ℕ} → known (cell t first) ≡ None → look_up s first ≡ Ends o → count ≡ counted + 1 → IsWalked s t count start last first o
  first-ends {o = o} none is counts =
      let ended = ends s first o w.keeps.fit.sound w.comes.within is in
      record {
        comes = w.comes;
        path = [];
        ends = λ d none. absurd none;
        keeps = keeps-same (first-new none counts (set-still t first)) first-within
            (visited s w.comes.starts start (first ∷ w.comes.passed) [] (w.comes.covers ∙ ap (onto w.comes.passed) ended.alone) (λ c on. absurd on));
        is = sym ended.outcome_is;
      }

-- on the way
module _ {s : Subject} {t : Table} {counted start : ℕ} {last : Option Boundary} {first here : Configuration} (w : IsUnderWay s t counted start last first here) where
  under-on : OnWay s first here
  under-on = way-on s t first here w.path w.way

  walk-within : AreWithin s ((here ∷ (w.path ++ w.comes.passed)) ++ all_look_ups s w.comes.starts)
  walk-within =
      visited-within s w.comes.starts start (here ∷ (w.path ++ w.comes.passed)) w.keeps.fit.sound w.comes.are (omega (arith, w.comes.some))
      (λ d on. elim (on-append d (here ∷ w.path) w.comes.passed on) [ inl way ↦ (way-all s t first here w.path w.way d way).within | inr before ↦ (w.comes.before d before).within ])

  pub next-on : {next : Configuration} → look_up s here ≡ Leads next → OnWay s first next
  next-on {next = next} is = on-next s first here next w.keeps.fit.sound under-on is

  pub next-cell : {next : Configuration} → look_up s here ≡ Leads next → HasCell t next
  next-cell {next = next} is = let on = next-on is in let fit = fit-first w.comes w.keeps in fit.has next on.within on.past

  next-off : {next : Configuration} → look_up s here ≡ Leads next → IsOn next (here ∷ (w.path ++ w.comes.passed)) → ⊥
  next-off {next = next} is on =
      elim (on-append next (here ∷ w.path) w.comes.passed on) [
        | inl path ↦ next-off-way s t first here next w.path w.keeps.fit.sound w.way is path
        | inr before ↦ let some = (next-on is).kept in let none = (w.comes.before next before).free in omega (arith, some, none)
      ]

  next-tells : {next : Configuration} → look_up s here ≡ Leads next → Tells s ((here ∷ (w.path ++ w.comes.passed)) ++ all_look_ups s w.comes.starts) next (cell t next)
  next-tells {next = next} is = let on = next-on is in w.keeps.cells.at next on.within (omega (arith, on.past, w.comes.low)) (next-off is)

  pub walk-next : {u : Table} {next : Configuration} {x : Cell} → look_up s here ≡ Leads next → known (cell t next) ≡ None → x ≡ way_from here next → IsSet t u 0 next x → IsUnderWay s u (counted + 1) start last first next
  walk-next {u = u} {next = next} {x = x} is none way set =
      let on = next-on is in
      record {
        comes = w.comes;
        path = here ∷ w.path;
        way = (
          is,
          on,
          set.own ∙ way,
          way-set s t u first here w.path next x (fit-first w.comes w.keeps) w.way set (next-off-way s t first here next w.path w.keeps.fit.sound w.way is),
        );
        keeps = keeps-new w.keeps set on.kept (tells-none s ((here ∷ (w.path ++ w.comes.passed)) ++ all_look_ups s w.comes.starts) next (cell t next) (next-tells is) none) refl;
      }

  -- the scan's last look-up, after which it would go on over what was looked up before
  walk-last : {o : Outcome} (rest : List Configuration) → look_ups s here ≡ here ∷ rest → ((c : Configuration) → IsOn c rest → IsOn c (all_look_ups s w.comes.starts)) → o ≡ outcome_at s here → Went s t counted start last first here o
  walk-last rest looked part is = record {
    comes = w.comes;
    path = w.path;
    way = w.way;
    keeps = keeps-same w.keeps walk-within
        (visited s w.comes.starts start (here ∷ (w.path ++ w.comes.passed)) rest
        (w.comes.covers ∙ ap (onto w.comes.passed) (way-covers s t first here w.path w.keeps.fit.sound w.way) ∙ sym (onto-append w.path w.comes.passed (look_ups s here))
        ∙ ap (onto (w.path ++ w.comes.passed)) looked) part);
    is = is;
  }

  pub walk-ends : {o : Outcome} {count : ℕ} → look_up s here ≡ Ends o → count ≡ counted → Went s t count start last first here o
  walk-ends {o = o} is counts =
      let ended = ends s here o w.keeps.fit.sound under-on.within is in
      rw counts (walk-last [] ended.alone (λ c on. absurd on) (sym ended.outcome_is))

  -- one that was looked up before
  pub walk-known : {o : Outcome} {next : Configuration} → look_up s here ≡ Leads next → known (cell t next) ≡ Some o → Went s t counted start last first here (entered next.place (state_at s.machine next.state) o)
  walk-known {o = o} {next = next} is holds =
      let sound = w.keeps.fit.sound in
      let k = tells-known s ((here ∷ (w.path ++ w.comes.passed)) ++ all_look_ups s w.comes.starts) next (cell t next) (next-tells is) o holds in
      let before : IsOn next (all_look_ups s w.comes.starts) =
      elim (on-append next (here ∷ (w.path ++ w.comes.passed)) (all_look_ups s w.comes.starts) k.0) [ inl path ↦ absurd (next-off is path) | inr before ↦ before ] in
      walk-last (look_ups s next) (look-ups-leads s here next sound under-on.within is) (all-part s w.comes.starts start next sound w.comes.are (omega (arith, w.comes.some)) before)
      (ap (entered next.place (state_at s.machine next.state)) k.1 ∙ sym (outcome-leads s here next sound under-on.within is))

-- the reader's count has room for the next
pub walk-room : {s : Subject} {t : Table} {counted start : ℕ} {last : Option Boundary} {first here : Configuration} → IsUnderWay s t (counted + 1) start last first here → counted < 18446744073709551615
walk-room {counted = counted} w = count-room w.keeps.fit counted _ (walk-within w) w.keeps.count

-- and back

-- the place before, by whether it stays
place-before : (before here most : ℕ) (stays : Bool) → before ≤ most → here ≡ min (suc before) most → (here == before) ≡ stays → before ≡ (if stays then here else here - 1)
place-before before here most true within is same = sym (eqb-true here before same)
place-before before here most false within is same =
    elim (cases_eq here before) [
      | inl equal ↦ absurd (eqb-false here before same equal)
      | inr other ↦ omega (arith, within, is, other)
    ]

way-same : (s : Subject) (before here : Configuration) (state kept : ℕ) (stays : Bool) → IsSound s → IsConfigurationOf s before → look_up s before ≡ Leads here
    → way_from before here ≡ Way state kept stays → before ≡ came_from here state kept stays
way-same s before here state kept stays sound inside is way =
    let states : before.state ≡ state = cc in
    let sets : before.kept ≡ kept = cc in
    let places : (here.place == before.place) ≡ stays = cc in
    same before (came_from here state kept stays) states (place-before before.place here.place (length s.symbols) stays inside.place (leads s before here sound inside is).place places) sets

module _ {s : Subject} {t : Table} {counted start : ℕ} {last : Option Boundary} {first here : Configuration} {o : Outcome} (w : Went s t counted start last first here o) where
  pub back-on : OnWay s first here
  back-on = way-on s t first here w.path w.way

  pub back-cell : HasCell t here
  back-cell = let fit = fit-first w.comes w.keeps in fit.has here back-on.within back-on.past

  pub back-room : 0 < here.place
  back-room = let past = back-on.past in omega (arith, past, w.comes.low, w.comes.high)

  -- it gets its outcome
  back-keeps : {u : Table} {x : Cell} → holding o ≡ Some x → IsSet t u 0 here x → Keeps s u counted last first (all_look_ups s (start ∷ w.comes.starts)) (w.path ++ w.comes.passed)
  back-keeps {x = x} holds set =
      keeps-fill w.keeps set back-on.kept
      (first-on w.comes here (subst (IsOn here) (sym (way-covers s t first here w.path w.keeps.fit.sound w.way)) (on-onto here w.path (look_ups s here) (inr (look-ups-on s here)))))
      (held o holds ∙ ap Some w.is)
    where
      held : (o : Outcome) → holding o ≡ Some x → known x ≡ Some o
      held Nothing is = let same : KnownNothing ≡ x = cc in ap known (sym same)
      held (Picked found) is = cc
      held (Kept lookahead status) is = let same : KnownKept lookahead status ≡ x = cc in ap known (sym same)

  pub back-next : {u : Table} {x : Cell} {state kept : ℕ} {stays : Bool} → holding o ≡ Some x → cell t here ≡ Way state kept stays → IsSet t u 0 here x
      → Went s u counted start last first (came_from here state kept stays) (entered here.place (state_at s.machine here.state) o)
  back-next {u = u} {x = x} {state = state} {kept = kept} {stays = stays} holds is set = on w.path w.way (back-keeps holds set)
    where
      on : (path : List Configuration) → IsWay s t first here path → Keeps s u counted last first (all_look_ups s (start ∷ w.comes.starts)) (path ++ w.comes.passed)
          → Went s u counted start last first (came_from here state kept stays) (entered here.place (state_at s.machine here.state) o)
      on [] way keeps = let never : First ≡ Way state kept stays = sym way.2 ∙ is in cc
      on (before ∷ path) way keeps =
          let sound = w.keeps.fit.sound in
          let inside = (way-on s t first before path way.3).within in
          subst (λ (c : Configuration). Went s u counted start last first c (entered here.place (state_at s.machine here.state) o)) (way-same s before here state kept stays sound inside way.0 (sym way.2 ∙ is)) (record {
            comes = w.comes;
            path = path;
            way = way-set s t u first before path here x (fit-first w.comes w.keeps) way.3 set (off-way s t first here (before ∷ path) sound way);
            keeps = keeps;
            is = ap (entered here.place (state_at s.machine here.state)) w.is ∙ sym (outcome-leads s before here sound inside way.0);
          })

  -- at the first configuration
  pub back-first : {u : Table} {x : Cell} → holding o ≡ Some x → ((state kept : ℕ) (stays : Bool) → cell t here ≡ Way state kept stays → ⊥) → IsSet t u 0 here x → IsWalked s u counted start last first o
  back-first {u = u} holds not set = on w.path w.way (back-keeps holds set)
    where
      on : (path : List Configuration) → IsWay s t first here path → Keeps s u counted last first (all_look_ups s (start ∷ w.comes.starts)) (path ++ w.comes.passed) → IsWalked s u counted start last first o
      on (before ∷ path) way keeps = absurd (not before.state before.kept (here.place == before.place) way.2)
      on [] way keeps = record { comes = w.comes; path = []; ends = λ d none. absurd none; keeps = keeps-but keeps first; is = w.is ∙ ap (outcome_at s) way.0 }

  -- at the segment's end: no later scan reaches what lies further back
  pub back-end : holding o ≡ None → IsWalked s t counted start last first o
  back-end none = on o refl
    where
      on : (p : Outcome) → o ≡ p → IsWalked s t counted start last first o
      on Nothing is = let never : None ≡ Some KnownNothing = sym none ∙ ap holding is in cc
      on (Kept lookahead status) is = let never : None ≡ Some (KnownKept lookahead status) = sym none ∙ ap holding is in cc
      on (Picked found) is =
          let all : (c : Configuration) → IsOn c (here ∷ w.path) → outcome_at s c ≡ Picked found = λ c on. way-picked s t first here c w.path found w.keeps.fit.sound w.way (sym w.is ∙ is) on in
          record { comes = w.comes; path = here ∷ w.path; ends = λ d on. (found, is, all d on); keeps = keeps-but w.keeps first; is = is ∙ sym (all first (way-first s t first here w.path w.way)) }

  -- each step back has a state more to come
  pub back-fewer : {state kept : ℕ} {stays : Bool} → cell t here ≡ Way state kept stays
      → let most = length s.symbols + length s.machine.states in most - length (following s (came_from here state kept stays)) < most - length (following s here)
  back-fewer {state = state} {kept = kept} {stays = stays} is = on w.path w.way
    where
      on : (path : List Configuration) → IsWay s t first here path
          → let most = length s.symbols + length s.machine.states in most - length (following s (came_from here state kept stays)) < most - length (following s here)
      on [] way = let never : First ≡ Way state kept stays = sym way.2 ∙ is in cc
      on (before ∷ path) way =
          let inside = (way-on s t first before path way.3).within in
          subst (λ (c : Configuration). let most = length s.symbols + length s.machine.states in most - length (following s c) < most - length (following s here))
          (way-same s before here state kept stays w.keeps.fit.sound inside way.0 (sym way.2 ∙ is))
          (omega (arith, few s before, fewer s before here w.keeps.fit.sound inside way.0))
