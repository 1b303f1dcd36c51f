-- What is found once of the places that no scan passes.
use Rattle.std.proofs.Common.{◌≡◌, ◌≢◌, ℕ, suc, ◌+◌, ◌*◌, ◌<◌, ◌≤◌, ◌^◌, ◌%◌, ◌/◌, List, [], ◌∷◌, ◌++◌, Contains, length, slice_index, bit_and, bit_or, refl, sym, ap, ◌∙◌, subst, inl, inr, arith, eq-eqb}
use native.Mathlib.Nat.{suc-mul}
use Rattle.std.specs.Prelude.{◌↔◌, ◌⊎◌, IfSome, IsTrue, Option, Some, None, slice_get, slice_index_or, nat_eq}
use Rattle.std.specs.Int.{bit_at, w128}
use Rattle.std.proofs.lemmas.Bool.{cases_lt, eqb-true}
use Rattle.std.proofs.lemmas.List.{get_or_append_left, get_or_default, get_or_push, length_push}
use Rattle.std.proofs.lemmas.List.Elements.{Contains-append_left}
use Rattle.std.proofs.lemmas.Nat.{mul-le}
use Rattle.std.proofs.lemmas.Nat.Bits.{bit_at-zero, bit_at_or, bit_at_set_same, bit_at_set_other, shr_and_one}
use Rattle.std.proofs.lemmas.Option.{get_or_from_slice_get}
use Rattle.seg_data.proofs.Options.{if-some, option-cases}
use Rattle.seg_machine.specs.Certain.{GoesOnBy, IsCertain, StopsBetween}
use Rattle.seg_machine.specs.Machine.{Machine, step, symbol_count}
use Rattle.seg_machine.specs.MachineFaults.{IsChecked}
use Rattle.seg_machine.specs.Passes.{AllGoOn, AllStop, ArePasses, AreStates, AreStatesBehind, HasMoreMasks, IsMask, IsMaskBehind, IsStopMask, PassData}
use Rattle.seg_machine.proofs.Entries.{in-range}

-- what follows of each value follows of an option
if-more : {A : Type 0} (found : Option A) (one other : A → Type 0) → ((x : A) → one x → other x) → IfSome found one → IfSome found other
if-more None one other more if = tt
if-more (Some x) one other more if = more x if

none-some : {A : Type 0} (x : A) → None ≡ Some x → ⊥
none-some x is = cc

-- what holds below a place, and there, holds below the next
one-more : (holds : ℕ → Type 0) (place : ℕ) → ((earlier : ℕ) → earlier < place → holds earlier) → holds place → (earlier : ℕ) → earlier < place + 1 → holds earlier
one-more holds place before here earlier within = elim (cases_lt earlier place) [
  | inl below ↦ before earlier below
  | inr past ↦ let same : place ≡ earlier = omega arith in subst holds same here
]

-- both have no bit where their union has none
or-none : (a b i : ℕ) → (bit_at (bit_or a b) i ≡ 0) ↔ ((bit_at a i ≡ 0) × (bit_at b i ≡ 0))
or-none a b i = let either = bit_at_or a b i in (λ none. (omega (arith, either, none), omega (arith, either, none)), λ none. omega (arith, either, none.0, none.1))

-- ---- scans in some states

-- the bit of each symbol is 0 where scans in the first states don't go on by it
abbrev pub AreStopped : Machine → List ℕ → ℕ → ℕ → ℕ → Type 0
AreStopped m states one count mask =
    (other : ℕ) → other < symbol_count m → (bit_at mask other ≡ 0) ↔ ((place : ℕ) → place < count → StopsBetween m (slice_index_or states place 0) one other)

pub none-stopped : (m : Machine) (states : List ℕ) (one : ℕ) → AreStopped m states one 0 0
none-stopped m states one other within = (λ none place less. absurd (omega (arith, less)), λ all. bit_at-zero other)

pub one-stopped : (m : Machine) (states : List ℕ) (one count mask stopped : ℕ) → AreStopped m states one count mask
    → IsStopMask m (slice_index_or states count 0) one stopped → AreStopped m states one (count + 1) (bit_or mask stopped)
one-stopped m states one count mask stopped before here other within =
    let either = or-none mask stopped other in
    let earlier = before other within in
    let last = here other within in (
      λ none. one-more (λ place. StopsBetween m (slice_index_or states place 0) one other) count (earlier.0 (either.0 none).0) (last.0 (either.0 none).1),
      λ all. either.1 (earlier.1 (λ place less. all place (omega (arith, less))), last.1 (all count (omega arith))),
    )

-- ---- states behind a symbol

-- those that the symbol leads to from the first states
pub record AreBehind (m : Machine) (symbol : ℕ) (states : List ℕ) (count : ℕ) : Type 0 where
  pub all : (state : ℕ) → state < count → IfSome (step m state symbol) (Contains states)
  pub only : (place : ℕ) → place < length states → (state : ℕ) × (state < length m.states) × (step m state symbol ≡ Some (slice_index_or states place 0))

pub none-behind : (m : Machine) (symbol : ℕ) → AreBehind m symbol [] 0
none-behind m symbol = record { all = λ state less. absurd (omega (arith, less)); only = λ place less. absurd (omega (arith, less)) }

pub none-more : (m : Machine) (symbol count : ℕ) (states : List ℕ) → AreBehind m symbol states count → step m count symbol ≡ None → AreBehind m symbol states (count + 1)
none-more m symbol count states before none = record {
  all = one-more (λ state. IfSome (step m state symbol) (Contains states)) count before.all (rw none tt);
  only = before.only;
}

pub one-behind : (m : Machine) (symbol count next : ℕ) (states new : List ℕ) → AreBehind m symbol states count → count < length m.states → step m count symbol ≡ Some next
    → Contains new next → (new ≡ states) ⊎ (new ≡ states ++ next ∷ []) → AreBehind m symbol new (count + 1)
one-behind m symbol count next states new before within leads listed (inl same) = record {
  all = one-more (λ state. IfSome (step m state symbol) (Contains new)) count
      (λ state less. subst (λ (states : List ℕ). IfSome (step m state symbol) (Contains states)) (sym same) (before.all state less)) (rw leads listed);
  only = λ place less.
      let found = before.only place (subst (λ (states : List ℕ). place < length states) same less) in
      (found.0, found.1, found.2 ∙ ap (λ (states : List ℕ). Some (slice_index_or states place 0)) (sym same));
}
one-behind m symbol count next states new before within leads listed (inr more) = record {
  all = one-more (λ state. IfSome (step m state symbol) (Contains new)) count
      (λ state less. if-more (step m state symbol) (Contains states) (Contains new)
      (λ x has. subst (λ (states : List ℕ). Contains states x) (sym more) (Contains-append_left states (next ∷ []) x has)) (before.all state less)) (rw leads listed);
  only = λ place less. elim (cases_lt place (length states)) [
    | inl below ↦
        let found = before.only place below in
        (found.0, found.1, found.2 ∙ ap Some (sym (get_or_append_left states (next ∷ []) 0 place below) ∙ ap (λ (states : List ℕ). slice_index_or states place 0) (sym more)))
    | inr past ↦
        let count_all : length new ≡ length states + 1 = ap length more ∙ length_push states next in
        let here : length states ≡ place = omega (arith, count_all, less, past) in
        (count, within, leads ∙ ap Some (sym (get_or_push states next 0 place here) ∙ ap (λ (states : List ℕ). slice_index_or states place 0) (sym more)))
  ];
}

pub all-behind : (m : Machine) (symbol count : ℕ) (states : List ℕ) → AreBehind m symbol states count → length m.states ≤ count → AreStatesBehind m symbol states
all-behind m symbol count states before all = record { all = λ state within. before.all state (omega (arith, within, all)); only = before.only }

pub states-behind : (m : Machine) (symbol : ℕ) (states : List ℕ) → IsChecked m → symbol < symbol_count m → AreStatesBehind m symbol states → AreStates m states
states-behind m symbol states checked below behind place less =
    let found = behind.only place less in in-range m found.0 symbol (slice_index_or states place 0) checked found.1 below found.2

-- what holds of the states that a symbol leads to, holds wherever it leads
pub each-behind : (m : Machine) (symbol : ℕ) (states : List ℕ) (holds : ℕ → Type 0) → AreStatesBehind m symbol states
    → ((place : ℕ) → place < length states → holds (slice_index_or states place 0)) ↔ ((state : ℕ) → state < length m.states → IfSome (step m state symbol) holds)
each-behind m symbol states holds behind = (
  λ each state within. if-more (step m state symbol) (Contains states) holds
      (λ x has. subst holds (get_or_default states has.0 0 x has.1 ∙ has.2) (each has.0 has.1)) (behind.all state within),
  λ each place less.
      let found = behind.only place less in
      if-some (step m found.0 symbol) holds (slice_index_or states place 0) (each found.0 found.1) found.2,
)

-- ---- steps

-- the first symbols have their bits, and the others none
pub record AreSteps (m : Machine) (state count mask : ℕ) : Type 0 where
  pub stand : (symbol : ℕ) → symbol < count → (bit_at mask symbol ≡ 0) ↔ (step m state symbol ≡ None)
  pub none : (symbol : ℕ) → count ≤ symbol → bit_at mask symbol ≡ 0

pub no-steps : (m : Machine) (state : ℕ) → AreSteps m state 0 0
no-steps m state = record { stand = λ symbol less. absurd (omega (arith, less)); none = λ symbol past. bit_at-zero symbol }

pub step-without : (m : Machine) (state count mask : ℕ) → AreSteps m state count mask → step m state count ≡ None → AreSteps m state (count + 1) mask
step-without m state count mask before none = record {
  stand = one-more (λ symbol. (bit_at mask symbol ≡ 0) ↔ (step m state symbol ≡ None)) count before.stand
      (λ _. none, λ _. before.none count (omega arith));
  none = λ symbol past. before.none symbol (omega (arith, past));
}

pub step-with : (m : Machine) (state count mask next : ℕ) → AreSteps m state count mask → step m state count ≡ Some next → count < 128
    → AreSteps m state (count + 1) (bit_or mask (1 * 2 ^ count % 2 ^ 128))
step-with m state count mask next before leads few =
    let same = bit_at_set_same w128 mask count few in
    let other : (symbol : ℕ) → symbol ≢ count → bit_at (bit_or mask (1 * 2 ^ count % 2 ^ 128)) symbol ≡ bit_at mask symbol = bit_at_set_other w128 mask count few in
    record {
      stand = one-more (λ symbol. (bit_at (bit_or mask (1 * 2 ^ count % 2 ^ 128)) symbol ≡ 0) ↔ (step m state symbol ≡ None)) count
          (λ symbol less.
          let apart : symbol ≢ count = λ is. omega (arith, less, is) in
          (λ bit. (before.stand symbol less).0 (sym (other symbol apart) ∙ bit), λ none. other symbol apart ∙ (before.stand symbol less).1 none))
          (λ bit. absurd (omega (arith, same, bit)), λ none. absurd (none-some next (sym none ∙ leads)));
      none = λ symbol past. other symbol (λ is. omega (arith, past, is)) ∙ before.none symbol (omega (arith, past));
    }

-- ---- masks

-- one mask more
pub masks-more : (holds : ℕ → ℕ → Type 0) (old new : List ℕ) (mask count : ℕ) → length old ≡ count → ((index : ℕ) → index < count → holds index (slice_index old index))
    → holds count mask → new ≡ old ++ mask ∷ [] → (index : ℕ) → index < count + 1 → holds index (slice_index new index)
masks-more holds old new mask count long before here is =
    one-more (λ index. holds index (slice_index new index)) count
    (λ index less. subst (holds index) (sym (get_or_append_left old (mask ∷ []) 0 index (omega (arith, long, less))) ∙ ap (λ (masks : List ℕ). slice_index masks index) (sym is)) (before index less))
    (subst (holds count) (sym (get_or_push old mask 0 count long) ∙ ap (λ (masks : List ℕ). slice_index masks count) (sym is)) here)

pub stops-or-not : (m : Machine) (state one other : ℕ) → StopsBetween m state one other ⊎ (StopsBetween m state one other → ⊥)
stops-or-not m state one other = elim (option-cases (step m state one)) [
  | inl none ↦ inl (rw none tt)
  | inr (next, leads) ↦ elim (option-cases (step m next other)) [
    | inl none ↦ inl (rw leads none)
    | inr (last, goes) ↦ inr (λ stops. none-some last (sym (if-some (step m state one) (λ next. step m next other ≡ None) next stops leads) ∙ goes))
  ]
]

-- behind some states that all go on, and behind others, where the start counts too
pub mask-alone : (m : Machine) (states : List ℕ) (one mask : ℕ)
    → ((other : ℕ) → other < symbol_count m → (bit_at mask other ≡ 0) ↔ AllStop m states one other) → AllGoOn m states one → IsMaskBehind m states one mask
mask-alone m states one mask stopped go other within =
    let stops = stopped other within in
    (λ none. (stops.0 none, λ _. go), λ both. stops.1 both.0)

pub mask-started : (m : Machine) (states : List ℕ) (one mask start : ℕ)
    → ((other : ℕ) → other < symbol_count m → (bit_at mask other ≡ 0) ↔ AllStop m states one other) → IsStopMask m 0 one start → (AllGoOn m states one → ⊥)
    → IsMaskBehind m states one (bit_or mask start)
mask-started m states one mask start stopped started stay other within =
    let stops = stopped other within in
    let begins = started other within in
    let either = or-none mask start other in (
      λ none. (stops.0 (either.0 none).0, λ goes. absurd (goes (begins.0 (either.0 none).1))),
      λ both. either.1 (
        stops.1 both.0,
        elim (stops-or-not m 0 one other) [
          | inl there ↦ begins.1 there
          | inr goes ↦ absurd (stay (both.1 goes))
        ],
      ),
    )

-- behind the states that a symbol leads to
mask-is : (m : Machine) (before one mask : ℕ) (states : List ℕ) → AreStatesBehind m before states → IsMaskBehind m states one mask → IsMask m before one mask
mask-is m before one mask states behind is other within =
    let bits = is other within in
    let stop = each-behind m before states (λ next. StopsBetween m next one other) behind in
    let go = each-behind m before states (λ next. GoesOnBy m next one) behind in (
      λ none. let both = bits.0 none in (stop.0 both.0, λ goes. go.0 (both.1 goes)),
      λ certain. bits.1 (stop.1 certain.0, λ goes. go.1 (certain.1 goes)),
    )

-- masks stand behind others, of the first second symbols
pub record AreMore (m : Machine) (before : ℕ) (old new : List ℕ) (count : ℕ) : Type 0 where
  pub size : length new ≡ length old + count
  pub keeps : (place : ℕ) → place < length old → slice_index new place ≡ slice_index old place
  pub stand : (one : ℕ) → one < count → IsMask m before one (slice_index new (length old + one))

-- the masks of the first first symbols
pub record AreRows (m : Machine) (masks : List ℕ) (count : ℕ) : Type 0 where
  pub size : length masks ≡ count * symbol_count m
  pub stand : (before one : ℕ) → before < count → one < symbol_count m → IsMask m before one (slice_index masks (before * symbol_count m + one))

pub no-more : (m : Machine) (before : ℕ) (old : List ℕ) → AreMore m before old old 0
no-more m before old = record { size = omega arith; keeps = λ place within. refl; stand = λ one less. absurd (omega (arith, less)) }

pub mask-more : (m : Machine) (before : ℕ) (old new next states : List ℕ) (mask count : ℕ) → AreMore m before old new count → AreStatesBehind m before states
    → IsMaskBehind m states count mask → next ≡ new ++ mask ∷ [] → AreMore m before old next (count + 1)
mask-more m before old new next states mask count more behind is pushed =
    let size = more.size in
    let left : (place : ℕ) → place < length new → slice_index next place ≡ slice_index new place =
    λ place within. ap (λ (masks : List ℕ). slice_index masks place) pushed ∙ get_or_append_left new (mask ∷ []) 0 place within in
    record {
      size = omega (arith, ap length pushed ∙ length_push new mask, size);
      keeps = λ place within. left place (omega (arith, within, size)) ∙ more.keeps place within;
      stand = one-more (λ one. IsMask m before one (slice_index next (length old + one))) count
          (λ one less. subst (IsMask m before one) (sym (left (length old + one) (omega (arith, less, size)))) (more.stand one less))
          (subst (IsMask m before count)
          (sym (get_or_push new mask 0 (length old + count) size) ∙ ap (λ (masks : List ℕ). slice_index masks (length old + count)) (sym pushed))
          (mask-is m before count mask states behind is));
    }

pub all-more : (m : Machine) (before : ℕ) (old new : List ℕ) (count : ℕ) → AreMore m before old new count → count ≡ symbol_count m → HasMoreMasks m before old new
all-more m before old new count more all = record {
  size = omega (arith, more.size, all);
  keeps = more.keeps;
  stand = λ one within. more.stand one (omega (arith, within, all));
}

row-within : (before one count symbols : ℕ) → before < count → one < symbols → before * symbols + one < count * symbols
row-within before one count symbols less within =
    let rows : suc before * symbols ≤ count * symbols = mul-le (suc before) symbols count symbols (omega (arith, less)) (omega arith) in
    omega (arith, rows, within)

pub no-rows : (m : Machine) → AreRows m [] 0
no-rows m = record { size = omega arith; stand = λ before one less. absurd (omega (arith, less)) }

pub rows-more : (m : Machine) (old new : List ℕ) (count : ℕ) → AreRows m old count → HasMoreMasks m count old new → AreRows m new (count + 1)
rows-more m old new count rows more =
    let size = rows.size in
    let next : suc count ≡ count + 1 = omega arith in
    record {
      size = more.size ∙ ap (λ (n : ℕ). n + symbol_count m) size ∙ sym (suc-mul count (symbol_count m)) ∙ ap (λ (n : ℕ). n * symbol_count m) next;
      stand = λ before one less within. elim (cases_lt before count) [
        | inl below ↦
            let inside : before * symbol_count m + one < length old = omega (arith, row-within before one count (symbol_count m) below within, size) in
            subst (IsMask m before one) (sym (more.keeps (before * symbol_count m + one) inside)) (rows.stand before one below within)
        | inr past ↦
            let here : before ≡ count = omega (arith, less, past) in
            let place : length old + one ≡ count * symbol_count m + one = omega (arith, size) in
            subst (λ (before : ℕ). IsMask m before one (slice_index new (before * symbol_count m + one))) (sym here)
            (subst (λ (place : ℕ). IsMask m count one (slice_index new place)) place (more.stand one within))
      ];
    }

pub passes-found : (m : Machine) (masks : List ℕ) (count known : ℕ) → AreRows m masks count → count ≡ symbol_count m → known ≡ symbol_count m → symbol_count m ≤ 128
    → ArePasses m (record { masks = masks; symbols = known })
passes-found m masks count known rows all is few = (
  λ _. record {
    symbols = is;
    size = rows.size ∙ ap (λ (count : ℕ). count * symbol_count m) all;
    stand = λ before one less within. rows.stand before one (omega (arith, less, all)) within;
  },
  λ many. absurd (omega (arith, many, few)),
)

-- ---- a mask that is read

few-masks : (m : Machine) (passes : PassData) (place mask : ℕ) → ArePasses m passes → slice_get passes.masks place ≡ Some mask → symbol_count m ≤ 128
few-masks m passes place mask are is = elim (cases_lt 128 (symbol_count m)) [
  | inl many ↦ absurd (none-some mask (sym (ap (λ (masks : List ℕ). slice_get masks place) (are.1 many)) ∙ is))
  | inr few ↦ omega (arith, few)
]

module _ (m : Machine) (passes : PassData) (are : ArePasses m passes) (before one other mask : ℕ) (is : slice_get passes.masks (before * passes.symbols + one) ≡ Some mask) where
  pub few-symbols : symbol_count m ≤ 128
  few-symbols = few-masks m passes (before * passes.symbols + one) mask are is

  pub mask-says : before < symbol_count m → one < symbol_count m → other < symbol_count m
      → IsTrue (nat_eq (bit_and (mask / 2 ^ other) 1) 0) ↔ IsCertain m before one other
  mask-says less within below =
      let has = are.0 few-symbols in
      let read : slice_index passes.masks (before * symbol_count m + one) ≡ mask =
      ap (λ (symbols : ℕ). slice_index passes.masks (before * symbols + one)) (sym has.symbols) ∙ get_or_from_slice_get passes.masks (before * passes.symbols + one) mask 0 is in
      let bits = subst (IsMask m before one) read (has.stand before one less within) other below in
      let bit = shr_and_one mask other in
      (λ true. bits.0 (sym bit ∙ eqb-true _ 0 true), λ certain. eq-eqb _ 0 (bit ∙ bits.1 certain))
