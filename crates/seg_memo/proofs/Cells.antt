-- The cells of a table, by the numbers of configurations.
use Rattle.std.proofs.Common.{◌≡◌, ℕ, ◌+◌, ◌-◌, ◌*◌, ◌^◌, ◌<◌, ◌≤◌, List, [], length, get_or, set, take, refl, sym, ap, ◌∙◌, arith, inl, inr, suc}
use Rattle.std.specs.Prelude.{vec_capacity}
use Rattle.std.proofs.lemmas.Bool.{cases_lt}
use Rattle.std.proofs.lemmas.Nat.{mul-le, mul-add-lt, same_from_place, pow_pos}
use Rattle.std.proofs.lemmas.List.{get_or-set_same, get_or-set_other, get_or-take, get_or_past, get_or_read, length-take}
use Rattle.seg_memo.specs.Configurations.{Configuration, start_at, Subject, configuration, configurations}
use Rattle.seg_memo.specs.Grids.{Cell, Unknown, Table, HasCell, IsLeft, IsSet, cell, number, IsConfigurationOf, IsSound}

-- there are no more than configurations
pub number-below : (s : Subject) (c : Configuration) → IsConfigurationOf s c → number (length s.machine.states) (2 ^ s.machine.num_lookaheads) c < configurations s.machine (length s.symbols)
unfolding number
number-below s c within =
    let m = s.machine in
    let sets : c.place * 2 ^ m.num_lookaheads + c.kept < 2 ^ m.num_lookaheads * (length s.symbols + 1) = mul-add-lt c.place (2 ^ m.num_lookaheads) c.kept (length s.symbols + 1) (omega (arith, within.place)) within.kept in
    let states : (c.place * 2 ^ m.num_lookaheads + c.kept) * length m.states + c.state < length m.states * (2 ^ m.num_lookaheads * (length s.symbols + 1)) = mul-add-lt _ (length m.states) c.state _ sets within.state in
    omega (arith, states)

pub same : (c d : Configuration) → c.state ≡ d.state → c.place ≡ d.place → c.kept ≡ d.kept → c ≡ d
same c d s p k =
    ap (λ (x : ℕ). configuration x c.place c.kept) s ∙ ap (λ (x : ℕ). configuration d.state x c.kept) p ∙ ap (λ (x : ℕ). configuration d.state d.place x) k

-- each has its own
pub number-same : (states sets : ℕ) (c d : Configuration) → c.state < states → c.kept < sets → d.state < states → d.kept < sets → number states sets c ≡ number states sets d → c ≡ d
unfolding number
number-same states sets c d c_state c_kept d_state d_kept is =
    let sums = same_from_place _ c.state _ d.state states c_state d_state is in
    let places = same_from_place c.place c.kept d.place d.kept sets c_kept d_kept sums.0 in
    same c d sums.1 places.0 places.1

-- the first configuration of a place has the least number of those from there on
pub number-least : (states sets place : ℕ) (c : Configuration) → place ≤ c.place → number states sets (start_at place) ≤ number states sets c
unfolding number
number-least states sets place c past =
    let at : place * sets ≤ c.place * sets = mul-le place sets c.place sets past (omega arith) in
    let all : (place * sets + 0) * states ≤ (c.place * sets + c.kept) * states = mul-le (place * sets + 0) states (c.place * sets + c.kept) states (omega (arith, at)) (omega arith) in
    omega (arith, all)

-- one place more than there are fits a word
pub items-fit : (s : Subject) → IsSound s → suc (length s.symbols) < 2 ^ 64
items-fit s sound =
    let states = length s.machine.states in
    let sets = 2 ^ s.machine.num_lookaheads in
    let some : 1 * 1 ≤ states * sets = mul-le 1 1 states sets (omega (arith, sound.checked.some_state)) (pow_pos s.machine.num_lookaheads) in
    let one : 1 * (length s.symbols + 1) ≤ states * sets * (length s.symbols + 1) = mul-le 1 (length s.symbols + 1) (states * sets) (length s.symbols + 1) (omega (arith, some)) (omega arith) in
    omega (arith, sound.room, one)

-- what the code makes of it on the way to its number
pub part-less : (t : Table) (c : Configuration) → HasCell t c → c.place * t.sets + c.kept ≤ (c.place * t.sets + c.kept) * t.states
part-less t c has = omega (arith, mul-le (c.place * t.sets + c.kept) 1 (c.place * t.sets + c.kept) t.states (omega arith) (omega (arith, has.state)))

-- a cell by its index
pub cell-is : (t : Table) (c : Configuration) (index : ℕ) → t.first + index ≡ number t.states t.sets c → cell t c ≡ get_or t.cells.items index Unknown
unfolding cell
cell-is t c index is = ap (λ (n : ℕ). get_or t.cells.items n Unknown) (omega (arith, is))

has-on : (t u : Table) (c : Configuration) → u.states ≡ t.states → u.sets ≡ t.sets → vec_capacity t.cells ≤ vec_capacity u.cells → HasCell t c → u.first ≤ number t.states t.sets c → HasCell u c
has-on t u c states sets capacity has past = record {
  state = rw states has.state;
  kept = rw sets has.kept;
  first = rw (states, sets) past;
  room = rw (states, sets) (omega (arith, has.room, capacity));
  fits = rw (states, sets) has.fits;
}

-- a cell is written
pub set-there : (t u : Table) (items : List Cell) (c : Configuration) (x : Cell) (index : ℕ) → HasCell t c → t.first + index ≡ number t.states t.sets c → u.states ≡ t.states → u.sets ≡ t.sets → u.first ≡ t.first
    → vec_capacity t.cells ≤ vec_capacity u.cells → index < length items → u.cells.items ≡ set items index x → ((i : ℕ) → get_or items i Unknown ≡ get_or t.cells.items i Unknown) → IsSet t u 0 c x
set-there t u items c x index has is states sets first capacity inside made kept = record {
  own =
      cell-is u c index (rw (states, sets, first) is) ∙ ap (λ (xs : List Cell). get_or xs index Unknown) made ∙ get_or-set_same items index x Unknown inside;
  others = λ d past there.
      let before = there.first in (
        has-on t u d states sets capacity there (omega (arith, first, before)),
        λ other.
            let k : ℕ = number t.states t.sets d - t.first in
            let at : t.first + k ≡ number t.states t.sets d = omega (arith, before) in
            cell-is u d k (rw (states, sets, first) at)
            ∙ ap (λ (xs : List Cell). get_or xs k Unknown) made
            ∙ get_or-set_other items index k x Unknown (λ e. other (number-same t.states t.sets d c there.state there.kept has.state has.kept (sym at ∙ ap (λ (n : ℕ). t.first + n) e ∙ is)))
            ∙ kept k
            ∙ sym (cell-is t d k at),
      );
}

-- cells are let go, or made
pub left-there : (t u : Table) (gone from : ℕ) → u.states ≡ t.states → u.sets ≡ t.sets → u.first ≡ t.first + gone
    → ((c : Configuration) → from ≤ c.place → HasCell t c → u.first ≤ number t.states t.sets c) → vec_capacity t.cells ≤ vec_capacity u.cells
    → ((i : ℕ) → get_or u.cells.items i Unknown ≡ get_or t.cells.items (gone + i) Unknown) → IsLeft t u from
left-there t u gone from states sets first past capacity same = record {
  at = λ c here has.
      let before = past c here has in
      let k : ℕ = number t.states t.sets c - u.first in
      let at : u.first + k ≡ number t.states t.sets c = omega (arith, before) in
      (has-on t u c states sets capacity has before, cell-is u c k (rw (states, sets) at) ∙ same k ∙ sym (cell-is t c (gone + k) (omega (arith, at, first))));
}

pub left-from : (t u : Table) (gone from : ℕ) → u.states ≡ t.states → u.sets ≡ t.sets → t.first + gone ≡ number t.states t.sets (start_at from) → u.first ≡ t.first + gone
    → vec_capacity t.cells ≤ vec_capacity u.cells → ((i : ℕ) → get_or u.cells.items i Unknown ≡ get_or t.cells.items (gone + i) Unknown) → IsLeft t u from
left-from t u gone from states sets is first capacity same =
    left-there t u gone from states sets first (λ c past has. let least = number-least t.states t.sets from c past in omega (arith, first, is, least)) capacity same

pub left-more : (t u : Table) (from : ℕ) → u.states ≡ t.states → u.sets ≡ t.sets → u.first ≡ t.first → vec_capacity t.cells ≤ vec_capacity u.cells
    → ((i : ℕ) → get_or u.cells.items i Unknown ≡ get_or t.cells.items i Unknown) → IsLeft t u from
left-more t u from states sets first capacity same =
    left-there t u 0 from states sets (omega (arith, first)) (λ c past has. let before = has.first in omega (arith, first, before)) capacity
    (λ i. same i ∙ ap (λ (n : ℕ). get_or t.cells.items n Unknown) (omega arith))

-- there are none after them
pub none-after : (new old : List Cell) (gone i : ℕ) → new ≡ [] → length old ≤ gone → get_or new i Unknown ≡ get_or old (gone + i) Unknown
none-after new old gone i none past = ap (λ (xs : List Cell). get_or xs i Unknown) none ∙ sym (get_or_past old (gone + i) Unknown (omega (arith, past)))

module _ {t u v : Table} {from : ℕ} (one : IsLeft t u from) where
  pub left-on : IsLeft u v from → IsLeft t v from
  left-on more = record {
    at = λ c past has.
        let first = one.at c past has in
        let then = more.at c past first.0 in
        (then.0, then.1 ∙ first.1);
  }

  pub left-set : {here : Configuration} {x : Cell} → IsSet u v 0 here x → IsSet t v from here x
  left-set more = record {
    own = more.own;
    others = λ c past has.
        let first = one.at c past has in
        let then = more.others c (omega arith) first.0 in
        (then.0, λ other. then.1 other ∙ first.1);
  }

-- a table without cells

pub new-cell : (t : Table) (c : Configuration) → t.cells.items ≡ [] → cell t c ≡ Unknown
unfolding cell
new-cell t c none = rw none refl

pub new-has : (t : Table) (c : Configuration) → t.first ≡ 0 → c.state < t.states → c.kept < t.sets → number t.states t.sets c < vec_capacity t.cells → number t.states t.sets c < 2 ^ 64 → HasCell t c
new-has t c first state kept room fits = record { state = state; kept = kept; first = omega (arith, first); room = room; fits = fits }

-- a cell is read
pub cell-read : (t : Table) (c : Configuration) (index : ℕ) (was : Cell) → t.first + index ≡ number t.states t.sets c → index < length t.cells.items → was ≡ get_or t.cells.items index was → was ≡ cell t c
cell-read t c index was is inside read = get_or_read t.cells.items index was inside read Unknown ∙ sym (cell-is t c index is)

pub cell-past : (t : Table) (c : Configuration) (index : ℕ) → t.first + index ≡ number t.states t.sets c → length t.cells.items ≤ index → Unknown ≡ cell t c
cell-past t c index is past = sym (cell-is t c index is ∙ get_or_past t.cells.items index Unknown past)

-- cells are moved to the front
pub cells-moved : (old mid new : List Cell) (gone left : ℕ) → gone + left ≡ length old → length mid ≡ length old → ((k : ℕ) (d : Cell) → 0 ≤ k → k < 0 + left → get_or mid k d ≡ get_or old (gone + (k - 0)) d)
    → new ≡ take left mid → (i : ℕ) → get_or new i Unknown ≡ get_or old (gone + i) Unknown
cells-moved old mid new gone left all long moved is i =
    ap (λ (xs : List Cell). get_or xs i Unknown) is
    ∙ elim (cases_lt i left) [
      | inl less ↦ get_or-take left mid i Unknown less ∙ moved i Unknown (omega arith) (omega (arith, less)) ∙ ap (λ (n : ℕ). get_or old n Unknown) (omega arith)
      | inr past ↦ get_or_past (take left mid) i Unknown (omega (arith, past, length-take left mid, long, all)) ∙ sym (get_or_past old (gone + i) Unknown (omega (arith, past, all)))
    ]
