-- The stretches of the machine of typed words are those of the machine of words, with the types of the words.
use Rattle.std.proofs.Common.{◌≡◌, ℕ, zero, suc, ◌<◌, ◌⊎◌, min, Bool, true, false, not, ◌&&◌, ◌==◌, nat_lt, List, [], ◌∷◌, ◌++◌, map, length, get_or, replicate, take, Option, Some, None, refl, sym, ap, ap₂, subst₂, ◌∙◌, arith, inl, inr, eqb-true}
use Rattle.std.specs.Option.{is_some, option_map, option_or, option_map_or}
use Rattle.std.proofs.lemmas.Bool.{and_parts, ltb-true}
use Rattle.std.proofs.lemmas.List.{length-map, take_min}
use Rattle.ucd_table.proofs.TrieCheck.{all_below, all_below-at}
use Rattle.seg_machine.specs.declared.provider.Acceptance.TheVariants.{Continue, Accept, Conditional}
use Rattle.seg_text.specs.declared.boundary.Boundary.{Boundary}
use Rattle.seg_text.specs.Boundaries.{boundary, Stretch}
use Rattle.seg_machine.specs.Machine.{Machine, run, scan, state_at, step, symbols_of}
use Rattle.seg_machine.specs.Pick.{later, last_step, acceptance_status, condition, first_condition, pick, machine_stretch}
use Rattle.icu_segmenter_uax29.specs.TypedWords.{typed_word_machine}
use Rattle.icu_segmenter_uax29.specs.Words.{word_machine}
use Rattle.icu_segmenter_uax29.specs.WordTypes.{changed, plain_symbol, type_after, type_from, unruled_symbol, word_type}
use Rattle.icu_segmenter_uax29.specs.WordValues.{word_break_of}
use Rattle.icu_segmenter_uax29.proofs.Lists.{every, every-at, none-from, option-cases}
use Rattle.icu_segmenter_uax29.proofs.RangeSymbols.{Entry, symbol_in}
use Rattle.icu_segmenter_uax29.proofs.TypedStates.{plain_states, types}
use Rattle.icu_segmenter_uax29.proofs.TypedSymbols.{typed-says}
use Rattle.icu_segmenter_uax29.proofs.WordSymbols.{symbol as plain_symbol_of}

-- what a state knows: which state of the machine of words it is, and the type of the word that was read
abbrev under : ℕ → ℕ
under q = get_or plain_states q 0

abbrev type_of : ℕ → ℕ
type_of q = get_or types q 0

-- ---- computed

-- both states lead on or neither does, and what the next one knows follows
abbrev agree : ℕ → ℕ → Option ℕ → Option ℕ → Bool
agree q symbol None None = true
agree q symbol None (Some u) = false
agree q symbol (Some t) None = false
agree q symbol (Some t) (Some u) =
    nat_lt t 29 && (under t == u && type_of t == changed (word_break_of (plain_symbol symbol)) (symbol == unruled_symbol) (type_of q))

abbrev leads : ℕ → ℕ → Bool
leads q symbol = agree q symbol (step typed_word_machine q symbol) (step word_machine (under q) (plain_symbol symbol))

all-lead : all_below (λ q. all_below (leads q) 23) 29 ≡ true
unfolding all_below step typed_word_machine word_machine plain_states types
all-lead = refl

abbrev accepts : Entry → Bool
accepts (Accept status, name) = true
accepts _ = false

-- both accept or neither does, with the type as status, and the end of the text leads neither on
abbrev alike : Entry → Entry → ℕ → Bool
alike (Continue, None) plain type = not (accepts plain)
alike (Accept status, None) plain type = accepts plain && status == type
alike _ plain type = false

abbrev stands : ℕ → Bool
stands q =
    alike (state_at typed_word_machine q) (state_at word_machine (under q)) (type_of q)
    && (not (is_some (step typed_word_machine q 0)) && not (is_some (step word_machine (under q) 0)))

all-stand : all_below stands 29 ≡ true
unfolding all_below state_at step typed_word_machine word_machine plain_states types
all-stand = refl

abbrev is_simple : Entry → Bool
is_simple (Continue, None) = true
is_simple (Accept status, None) = true
is_simple _ = false

all-simple : every is_simple typed_word_machine.states && every is_simple word_machine.states ≡ true
unfolding typed_word_machine word_machine
all-simple = refl

-- ---- steps

none-agree : (q x : ℕ) (one other : Option ℕ) → agree q x one other ≡ true → one ≡ None → other ≡ None
none-agree q x None None is none = refl
none-agree q x None (Some u) is none = let no : false ≡ true = is in cc
none-agree q x (Some t) other is none = cc

record Next (q x t : ℕ) (other : Option ℕ) : Type 0 where
  below : t < 29
  leads_on : other ≡ Some (under t)
  types_on : type_of t ≡ changed (word_break_of (plain_symbol x)) (x == unruled_symbol) (type_of q)

some-agree : (q x t : ℕ) (other : Option ℕ) → agree q x (Some t) other ≡ true → Next q x t other
some-agree q x t None is = let no : false ≡ true = is in cc
some-agree q x t (Some u) is =
    let one = and_parts (nat_lt t 29) _ is in
    let two = and_parts (under t == u) _ one.1 in
    record {
      below = ltb-true _ _ one.0;
      leads_on = ap Some (sym (eqb-true _ _ two.0));
      types_on = eqb-true _ _ two.1;
    }

leads-at : (q x : ℕ) → q < 29 → x < 23 → leads q x ≡ true
leads-at q x below small = all_below-at (leads q) 23 x (all_below-at (λ q. all_below (leads q) 23) 29 q all-lead below) small

abbrev typed : ℕ → ℕ
typed = symbol_in typed_word_machine

-- by a code point
stops : (q c : ℕ) → q < 29 → step typed_word_machine q (typed c) ≡ None → step word_machine (under q) (plain_symbol_of c) ≡ None
stops q c below none =
    let says = typed-says c in
    ap (step word_machine (under q)) (sym says.plain)
    ∙ none-agree q (typed c) _ (step word_machine (under q) (plain_symbol (typed c))) (leads-at q (typed c) below says.typed.below) none

record Goes (q c t : ℕ) : Type 0 where
  below : t < 29
  leads_on : step word_machine (under q) (plain_symbol_of c) ≡ Some (under t)
  types_on : type_of t ≡ type_after (type_of q) c

goes : (q c t : ℕ) → q < 29 → step typed_word_machine q (typed c) ≡ Some t → Goes q c t
goes q c t below leading =
    let says = typed-says c in
    let other = step word_machine (under q) (plain_symbol (typed c)) in
    let next = some-agree q (typed c) t other (ap (λ one. agree q (typed c) one other) (sym leading) ∙ leads-at q (typed c) below says.typed.below) in
    record {
      below = next.below;
      leads_on = ap (step word_machine (under q)) (sym says.plain) ∙ next.leads_on;
      types_on = next.types_on ∙ (λ i. changed (sym says.typed.plain.value i) (sym says.typed.unruled i) (type_of q));
    }

-- ---- the last acceptance

-- what is entered from a state on, by some code points and then the end, as often as there are states
abbrev entered : Machine → ℕ → List ℕ → List Entry
entered m q cs = map (state_at m) (run m q (symbols_of m cs ++ replicate (length m.states) 0))

entered-end : (m : Machine) (q many : ℕ) → step m q 0 ≡ None → map (state_at m) (run m q (replicate many 0)) ≡ []
unfolding run
entered-end m q zero none = refl
entered-end m q (suc many) none = ap (λ next. map (state_at m) (option_map_or (λ t. t ∷ run m t (replicate many 0)) next [])) none

entered-by : (m : Machine) (q c : ℕ) (cs : List ℕ) (next : Option ℕ) → step m q (symbol_in m c) ≡ next
    → entered m q (c ∷ cs) ≡ option_map_or (λ t. state_at m t ∷ entered m t cs) next []
unfolding run
entered-by m q c cs None leads =
    ap (λ next. map (state_at m) (option_map_or (λ t. t ∷ run m t (symbols_of m cs ++ replicate (length m.states) 0)) next [])) leads
entered-by m q c cs (Some t) leads =
    ap (λ next. map (state_at m) (option_map_or (λ t. t ∷ run m t (symbols_of m cs ++ replicate (length m.states) 0)) next [])) leads

-- a boundary with the type of what stands before it
abbrev with_type : ℕ → List ℕ → Option Boundary → Option Boundary
with_type type cs found = option_map (λ (b : Boundary). boundary b.offset (type_from type (take b.offset cs))) found

-- with one more entry before
one-more : (entry plain : Entry) (type c : ℕ) (cs : List ℕ) (found : Option Boundary) → alike entry plain (type_after type c) ≡ true
    → option_or (later (with_type (type_after type c) cs found)) (option_map (λ v. boundary 1 v) (acceptance_status entry))
    ≡ with_type type (c ∷ cs) (option_or (later found) (option_map (λ v. boundary 1 v) (acceptance_status plain)))
unfolding type_from
one-more entry plain type c cs (Some b) is = refl
one-more (Continue, None) (Continue, name) type c cs None is = refl
one-more (Continue, None) (Conditional lookahead status, name) type c cs None is = refl
one-more (Accept status, None) (Accept other, name) type c cs None is = ap (λ s. Some (boundary 1 s)) (eqb-true status (type_after type c) is)
one-more _ _ type c cs None is = let no : false ≡ true = is in cc

last-typed : (q : ℕ) (cs : List ℕ) → q < 29
    → last_step acceptance_status (entered typed_word_machine q cs) ≡ with_type (type_of q) cs (last_step acceptance_status (entered word_machine (under q) cs))
unfolding last_step
last-typed q [] below =
    let ends = and_parts _ _ (and_parts _ _ (all_below-at stands 29 q all-stand below)).1 in
    ap (last_step acceptance_status) (entered-end typed_word_machine q (length typed_word_machine.states) (none-from _ ends.0))
    ∙ sym (ap (λ entries. with_type (type_of q) [] (last_step acceptance_status entries)) (entered-end word_machine (under q) (length word_machine.states) (none-from _ ends.1)))
last-typed q (c ∷ cs) below =
    elim (option-cases (step typed_word_machine q (typed c))) [
      | inl none ↦
          ap (last_step acceptance_status) (entered-by typed_word_machine q c cs None none)
          ∙ sym (ap (λ entries. with_type (type_of q) (c ∷ cs) (last_step acceptance_status entries))
          (entered-by word_machine (under q) c cs None (stops q c below none)))
      | inr (t, leading) ↦
          let next = goes q c t below leading in
          let entry = state_at typed_word_machine t in
          let plain = state_at word_machine (under t) in
          let found = last_step acceptance_status (entered word_machine (under t) cs) in
          ap (last_step acceptance_status) (entered-by typed_word_machine q c cs (Some t) leading)
          ∙ ap (λ last. option_or (later last) (option_map (λ v. boundary 1 v) (acceptance_status entry)))
          (last-typed t cs next.below ∙ ap (λ type. with_type type cs found) next.types_on)
          ∙ one-more entry plain (type_of q) c cs found
          (ap (alike entry plain) (sym next.types_on) ∙ (and_parts _ _ (all_below-at stands 29 t all-stand next.below)).0)
          ∙ sym (ap (λ entries. with_type (type_of q) (c ∷ cs) (last_step acceptance_status entries))
          (entered-by word_machine (under q) c cs (Some (under t)) next.leads_on))
    ]

-- ---- the pick is the last acceptance, since there are no conditions

simple-states : (m : Machine) (states : List ℕ) → every is_simple m.states ≡ true → every is_simple (map (state_at m) states) ≡ true
unfolding state_at
simple-states m [] are = refl
simple-states m (q ∷ states) are = ap₂ ◌&&◌ (every-at is_simple m.states q (Continue, None) are refl) (simple-states m states are)

condition-none : (earlier : List Entry) (entry : Entry) → is_simple entry ≡ true → condition earlier entry ≡ None
condition-none earlier (Continue, None) simple = refl
condition-none earlier (Accept status, None) simple = refl
condition-none earlier _ simple = let no : false ≡ true = simple in cc

no-condition : (earlier entries : List Entry) → every is_simple entries ≡ true → first_condition earlier entries ≡ None
unfolding first_condition
no-condition earlier [] simple = refl
no-condition earlier (entry ∷ entries) simple =
    let parts = and_parts (is_simple entry) (every is_simple entries) simple in
    ap₂ option_or (condition-none earlier entry parts.0) (no-condition (earlier ++ entry ∷ []) entries parts.1)

-- a stretch that ends where this was found, of so many code points
abbrev stretch_by : ℕ → Option Boundary → Stretch
stretch_by size found =
    option_map_or (λ (picked : Boundary). record { extent = picked.offset; boundaries = picked ∷ [] })
    (option_map (λ (f : Boundary). boundary (min f.offset size) f.status) found) (record { extent = size; boundaries = [] })

stretch-found : (m : Machine) (cs : List ℕ) → every is_simple m.states ≡ true
    → machine_stretch m cs ≡ stretch_by (length cs) (last_step acceptance_status (entered m 0 cs))
unfolding machine_stretch pick scan
stretch-found m cs simple =
    let states = run m 0 (symbols_of m cs ++ replicate (length m.states) 0) in
    (λ i. option_map_or (λ (picked : Boundary). record { extent = picked.offset; boundaries = picked ∷ [] })
    (option_map (λ (f : Boundary). boundary (min f.offset (length-map cs (symbol_in m) i)) f.status)
    (option_or (no-condition [] (map (state_at m) states) (simple-states m states simple) i) (last_step acceptance_status (entered m 0 cs))))
    (record { extent = length cs; boundaries = [] }))

-- two stretches of the same code points without boundaries, or with one at the same end, of which the first has the type
abbrev pub Same : List ℕ → Stretch → Stretch → Type 0
Same cs one other =
    ((one ≡ record { extent = length cs; boundaries = [] }) × (other ≡ record { extent = length cs; boundaries = [] }))
    ⊎ ((n : ℕ) × ((status : ℕ) × ((one ≡ record { extent = n; boundaries = boundary n (word_type (take n cs)) ∷ [] })
    × (other ≡ record { extent = n; boundaries = boundary n status ∷ [] }))))

same-found : (cs : List ℕ) (found : Option Boundary) → Same cs (stretch_by (length cs) (with_type 0 cs found)) (stretch_by (length cs) found)
same-found cs None = inl (refl, refl)
same-found cs (Some b) =
    let n = min b.offset (length cs) in
    inr (n, (b.status, (ap (λ word. record { extent = n; boundaries = boundary n (word_type word) ∷ [] }) (sym (take_min b.offset cs)), refl)))

-- Law: so are the first stretches of both machines
pub stretches : (cs : List ℕ) → Same cs (machine_stretch typed_word_machine cs) (machine_stretch word_machine cs)
unfolding plain_states types
stretches cs =
    let simple = and_parts _ _ all-simple in
    let found = last_step acceptance_status (entered word_machine 0 cs) in
    subst₂ (Same cs) (sym (stretch-found typed_word_machine cs simple.0 ∙ ap (stretch_by (length cs)) (last-typed 0 cs (omega arith))))
    (sym (stretch-found word_machine cs simple.1)) (same-found cs found)
