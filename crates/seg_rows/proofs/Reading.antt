-- What is read by rows, item by item, and by a scan.
use Rattle.std.proofs.Common.{◌≡◌, ◌≢◌, ℕ, ◌+◌, ◌*◌, ◌/◌, ◌<◌, Option, Some, None, List, [], ◌∷◌, length, slice_index, ◌==◌, Bool, true, false, inl, inr, refl, ap, subst, arith, sym, ◌∙◌}
use Rattle.seg_text.specs.declared.boundary.Boundary.{Boundary}
use Rattle.seg_text.specs.Items.{Item, Text, IsRising, code_points, rest_after, start_of}
use Rattle.seg_machine.specs.Machine.{Machine, state_at, step, symbol_and_script, symbols_of}
use Rattle.seg_machine.specs.MachineFaults.{IsChecked}
use Rattle.seg_machine.specs.Pick.{acceptance_status, pick}
use Rattle.seg_machine.specs.Scan.{IsSymbolAhead}
use Rattle.std.proofs.lemmas.Bool.{cases_lt}
use Rattle.std.proofs.lemmas.Bool.Decides.{nat_tests}
use Rattle.std.specs.Prelude.{IfSome}
use Rattle.std.specs.Option.{option_map_or}
use Rattle.seg_machine.proofs.Scanned.{begins-end, begins-next, none-less, one-less}
use Rattle.seg_machine.specs.DenseRows.{AreRows, end_status, row_entry, slow}
use Rattle.seg_rows.specs.Underway.{IsEntryOf, IsNextEntry, IsStuck}
use Rattle.seg_rows.proofs.Underway.{stops-at}
use Rattle.seg_machine.proofs.Entries.{entry-ascii}

pub item-ahead : (m : Machine) (old new : Text) (item : Item) (symbol : ℕ) → IsChecked m → old.items ≡ item ∷ new.items → new.end ≡ old.end
    → symbol ≡ (symbol_and_script m item.1).0 → IsSymbolAhead m old symbol new
item-ahead m old new item symbol checked is end same = record {
  below = rw same (checked.text_symbols item.1).1;
  begins = λ state here. begins-next m old new item symbol is end same state;
  left = one-less old new item is end;
}

end-ahead : (m : Machine) (old new : Text) → IsChecked m → old.items ≡ [] → new.items ≡ [] → new.end ≡ old.end → IsSymbolAhead m old 0 new
end-ahead m old new checked none left end = record {
  below = omega (arith, checked.text_symbols 0);
  begins = λ state here. begins-end m checked old new none left end state here;
  left = none-less old new none left end;
}

pub some-items : (items later : List Item) (item : Item) → items ≡ item ∷ later → items ≢ []
some-items items later item is none = cc

pub next-ascii : (m : Machine) (passes : ℕ → Bool) (entries : List ℕ) (row state : ℕ) (old new : Text) (item : Item) → IsChecked m → AreRows m entries
    → row ≡ state * 256 → state < length m.states → item.1 < 128 → old.items ≡ item ∷ new.items → new.end ≡ old.end → passes item.1 ≡ true
    → IsNextEntry m passes old (row / 256) (slice_index entries (row + item.1)) new
next-ascii m passes entries row state old new item checked rows is within below read end pass =
    let entry = entry-ascii m entries row state item.1 rows is within below in
    record {
      symbol = (symbol_and_script m item.1).0;
      ahead = item-ahead m old new item (symbol_and_script m item.1).0 checked read end refl;
      says = λ fast. entry;
      known = λ other items first passed few. entry;
      read = λ fast. (item, read, pass);
    }

says-of : (m : Machine) (state code_point entry : ℕ) → IsEntryOf m state code_point entry → entry ≢ slow → entry ≡ row_entry m state (symbol_and_script m code_point).0
says-of m state code_point entry is fast =
    elim (cases_lt (symbol_and_script m code_point).0 128) [ inl below ↦ is.few below | inr past ↦ absurd (fast (is.many past)) ]

pub next-wide : (m : Machine) (passes : ℕ → Bool) (state entry : ℕ) (old new : Text) (item : Item) → IsChecked m → IsEntryOf m state item.1 entry
    → old.items ≡ item ∷ new.items → new.end ≡ old.end → passes item.1 ≡ true → IsNextEntry m passes old state entry new
next-wide m passes state entry old new item checked is read end pass = record {
  symbol = (symbol_and_script m item.1).0;
  ahead = item-ahead m old new item (symbol_and_script m item.1).0 checked read end refl;
  says = says-of m state item.1 entry is;
  known = λ other items first passed few. is.few few;
  read = λ fast. (item, read, pass);
}

-- its code point doesn't pass
pub next-failing : (m : Machine) (passes : ℕ → Bool) (state : ℕ) (old new : Text) (item : Item) → IsChecked m
    → old.items ≡ item ∷ new.items → new.end ≡ old.end → passes item.1 ≡ false → IsNextEntry m passes old state slow new
next-failing m passes state old new item checked read end fails = record {
  symbol = (symbol_and_script m item.1).0;
  ahead = item-ahead m old new item (symbol_and_script m item.1).0 checked read end refl;
  says = λ fast. absurd (fast refl);
  known = λ other items first passed few. absurd (differ (sym fails ∙ ap passes (same other items (sym read ∙ first)) ∙ passed));
  read = λ fast. absurd (fast refl);
}
  where
    same : (other : Item) (items : List Item) → item ∷ new.items ≡ other ∷ items → item.1 ≡ other.1
    same other items is = ap (λ (all : List Item). first-of all) is
      where
        first-of : List Item → ℕ
        first-of [] = 0
        first-of (one ∷ more) = one.1

    differ : false ≡ true → ⊥
    differ is = cc

pub next-end : (m : Machine) (passes : ℕ → Bool) (state : ℕ) (old new : Text) → IsChecked m → old.items ≡ [] → new.items ≡ [] → new.end ≡ old.end
    → IsNextEntry m passes old state slow new
next-end m passes state old new checked none left end = record {
  symbol = 0;
  ahead = end-ahead m old new checked none left end;
  says = λ fast. absurd (fast refl);
  known = λ item items some passed few. absurd (some-items old.items items item some none);
  read = λ fast. absurd (fast refl);
}

-- an entry that comes next in a text comes next in one that equals it
pub from-same : (m : Machine) (passes : ℕ → Bool) (old first : Text) (state entry : ℕ) (new : Text) → first ≡ old → IsNextEntry m passes first state entry new → IsNextEntry m passes old state entry new
from-same m passes old first state entry new same next = subst (λ (text : Text). IsNextEntry m passes text state entry new) same next

nothing-in : (items : List Item) → (length items == 0) ≡ true → items ≡ []
nothing-in [] none = refl
nothing-in (item ∷ items) none = absurd (grind (arith, nat_tests))

-- a cursor that goes on to where a scan has come stands at what the scan has left
pub nothing-there : (m : Machine) (text there : Text) (row place : ℕ) (stuck : IsStuck m text row place)
    → ((k : ℕ) → place ≡ start_of (rest_after k text) → there ≡ rest_after k text) → (length there.items == 0) ≡ true → stuck.0.items ≡ []
nothing-there m text there row place (left, under, stands) goes none =
    let same : there ≡ left = goes (length under.scanned.entered) (stands ∙ ap start_of under.scanned.rest) ∙ sym under.scanned.rest in
    rw (← same) (nothing-in there.items none)

ending : (m : Machine) (at state status : ℕ) → at ≡ state → end_status m at ≡ Some status → (step m state 0 ≡ None) × (acceptance_status (state_at m state) ≡ Some status)
unfolding end_status
ending m at state status here is = on (step m at 0) refl is
  where
    on : (found : Option ℕ) → step m at 0 ≡ found → option_map_or {T = ℕ} {U = Option ℕ} (λ next. None) found (acceptance_status (state_at m at)) ≡ Some status
        → (step m state 0 ≡ None) × (acceptance_status (state_at m state) ≡ Some status)
    on None stops is = subst (λ (s : ℕ). (step m s 0 ≡ None) × (acceptance_status (state_at m s) ≡ Some status)) here (stops, is)
    on (Some next) leads is = cc

-- at the end of the text, where the state accepts and the end leads nowhere, the segment ends
ends-there : (m : Machine) (text : Text) (row place status : ℕ) → IsChecked m → IsRising text.items text.end → (stuck : IsStuck m text row place) → stuck.0.items ≡ []
    → end_status m (row / 256) ≡ Some status
    → (p : Boundary) × (pick m (symbols_of m (code_points text.items)) ≡ Some p) × (place ≡ start_of (rest_after p.offset text)) × (status ≡ p.status)
ends-there m text row place status checked rises (left, under, stands) none is =
    let here : row / 256 ≡ under.state = omega (arith, under.row_is) in
    let says = ending m (row / 256) under.state status here is in
    let (p, picks, status-is, rest) =
    stops-at m text left left row 0 status status rises under (end-ahead m left left checked none none refl) says.0 says.1 refl in
    (p, picks, stands ∙ ap start_of rest, status-is)

-- .. if it does
pub ends-if : (m : Machine) (text : Text) (row place : ℕ) (found : Option ℕ) → IsChecked m → IsRising text.items text.end → (stuck : IsStuck m text row place)
    → stuck.0.items ≡ [] → found ≡ end_status m (row / 256)
    → IfSome found (λ status. (p : Boundary) × (pick m (symbols_of m (code_points text.items)) ≡ Some p) × (place ≡ start_of (rest_after p.offset text)) × (status ≡ p.status))
ends-if m text row place None checked rises stuck none is = tt
ends-if m text row place (Some status) checked rises stuck none is = ends-there m text row place status checked rises stuck none (sym is)

-- an entry that says something is that of an item, which is read
pub fewer : (m : Machine) (passes : ℕ → Bool) (old : Text) (state entry : ℕ) (new : Text) → IsNextEntry m passes old state entry new → entry ≢ slow → length new.items < length old.items
fewer m passes old state entry new next fast = let (item, is, pass) = next.read fast in rw is (omega arith)
