-- Where nothing is to come any more, the segments so far have all items, and what was looked up is all that is ever looked up.
use Rattle.std.proofs.Common.{◌≡◌, ◌≤◌, ℕ, min, Bool, false, true, Option, Some, None, List, [], ◌∷◌, ◌++◌, length, map, drop, get_or, All, IsSome, refl, sym, ap, ◌∙◌, arith}
use Rattle.std.specs.Option.{is_some, option_map, option_map_or}
use Rattle.std.proofs.lemmas.List.{get_or-map, length-drop, length-map}
use Rattle.std.proofs.lemmas.Option.{none-some, same_Some}
use Rattle.icu_segmenter.specs.Items.{Item, Text, code_points, rest_after}
use Rattle.icu_segmenter.specs.Boundaries.{GivesNext, Remainder, boundary, offsets, offsets_left, Stretch, later_boundaries, later_boundaries_within, remainder}
use Rattle.icu_segmenter.specs.Boundary.{Boundary}
use Rattle.icu_segmenter.specs.MachineFaults.{IsChecked}
use Rattle.icu_segmenter.specs.Machine.{Machine, IsTextSymbol, scan, symbol_and_script, state_at, symbols_of}
use Rattle.icu_segmenter.specs.Pick.{pick, picked_step, machine_stretch}
use Rattle.icu_segmenter.specs.Configurations.{Subject, AreLookedUp, AreStarts}
use Rattle.icu_segmenter.specs.Memos.{Memo, memo_places, subject_of}
use Rattle.callers.specs.LookUps.{AreAllLookedUp}

few-of : (found : Option Boundary) (n : ℕ) (p : Boundary) → option_map (λ (f : Boundary). boundary (min f.offset n) f.status) found ≡ Some p → p.offset ≤ n
few-of None n p is = absurd (none-some p is)
few-of (Some found) n p is =
    let first : min found.offset n ≡ p.offset = ap (λ (f : Boundary). f.offset) (same_Some _ _ is) in
    omega arith

-- a pick takes no more symbols than there are
pick-few : (m : Machine) (symbols : List ℕ) (p : Boundary) → pick m symbols ≡ Some p → p.offset ≤ length symbols
unfolding pick
pick-few m symbols p is = few-of (picked_step (map (state_at m) (scan m symbols))) (length symbols) p is

-- the segments up to a place have no more symbols than there are
starts-within : (s : Subject) (starts : List ℕ) (place : ℕ) → AreStarts s starts place → place ≤ length s.symbols
starts-within s [] place are = omega (arith, are)
starts-within s (start ∷ starts) place ((p, picked, is), less, before) =
    let begins = starts-within s starts start before in
    let few = pick-few s.machine (drop start s.symbols) p picked in
    let long = length-drop start s.symbols in
    omega (arith, is, begins, few, long)

abbrev stretch_of : Option Boundary → ℕ → Stretch
stretch_of picked most = option_map_or (λ (found : Boundary). record { extent = found.offset; boundaries = found ∷ [] }) picked (record { extent = most; boundaries = [] })

some-boundary : (picked : Option Boundary) (most : ℕ) (rest : List Boundary) → IsSome picked → (stretch_of picked most).boundaries ++ rest ≡ [] → ⊥
some-boundary None most rest some none = cc
some-boundary (Some p) most rest some none = cc

text-symbols : (m : Machine) → IsChecked m → (code_points : List ℕ) → All (IsTextSymbol m) (symbols_of m code_points)
text-symbols m checked code_points k d within =
    let same : length (symbols_of m code_points) ≡ length code_points = length-map code_points (λ code_point. (symbol_and_script m code_point).0) in
    rw (get_or-map (λ code_point. (symbol_and_script m code_point).0) code_points k 0 d (omega arith)) (checked.text_symbols (get_or code_points k 0))

-- a text of some items has a boundary after its start
none-later : (m : Machine) (items : List Item) → IsChecked m → later_boundaries (machine_stretch m) (code_points items) ≡ [] → items ≡ []
unfolding later_boundaries later_boundaries_within machine_stretch
none-later m [] checked none = refl
none-later m (item ∷ items) checked none =
    absurd (some-boundary (pick m (symbols_of m (code_points (item ∷ items)))) _ _ (checked.stall_free _ (λ e. cc) (text-symbols m checked (code_points (item ∷ items)))) none)

map-none : {X Y : Type 0} (f : X → Y) (xs : List X) → map f xs ≡ [] → xs ≡ []
map-none f [] none = refl
map-none f (x ∷ xs) none = cc

all-given : (m : Machine) (started : Bool) (given status : ℕ) (text : Text) → IsChecked m
    → offsets_left (remainder started (machine_stretch m) (rest_after given text) status) ≡ [] → length text.items ≤ given
all-given m false given status text checked none = cc
all-given m true given status text checked none =
    let gone = none-later m (drop given text.items) checked (map-none _ _ (map-none _ _ none)) in
    let long = sym (length-drop given text.items) ∙ ap length gone in
    omega (arith, long)

all-of : (s : Memo) (count : ℕ) → IsChecked s.machine → memo_places s ≡ []
    → s.coming ≡ remainder s.started (machine_stretch s.machine) (rest_after s.given s.text) s.coming.status
    → AreLookedUp (subject_of s) s.given count → AreAllLookedUp s.machine s.text count
all-of s count checked none coming (starts, are, is) =
    let least = all-given s.machine s.started s.given s.coming.status s.text checked (ap offsets_left (sym coming) ∙ none) in
    let most = starts-within (subject_of s) starts s.given are in
    let long : length (subject_of s).symbols ≡ length s.text.items = length-map (code_points s.text.items) _ ∙ length-map s.text.items _ in
    let all : s.given ≡ length s.text.items = omega (arith, least, most, long) in
    rw (← all) (starts, are, is)

-- a memo that has nothing to give has looked up all
pub all-looked-up : (m : Machine) (text : Text) (s : Memo) (count : ℕ) → IsChecked m → s.machine ≡ m → s.text ≡ text → memo_places s ≡ []
    → s.coming ≡ remainder s.started (machine_stretch s.machine) (rest_after s.given s.text) s.coming.status
    → AreLookedUp (subject_of s) s.given count → AreAllLookedUp m text count
all-looked-up m text s count checked machine whole none coming looked =
    rw (← machine, ← whole) (all-of s count (rw machine checked) none coming looked)

-- where no boundary comes, none is left
pub none-left : (before after : Remainder) (given : Option ℕ) → is_some given ≡ false → GivesNext before given after → offsets_left after ≡ []
none-left before after None nothing gives = ap offsets gives.1
none-left before after (Some offset) nothing gives = cc
