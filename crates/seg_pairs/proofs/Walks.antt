-- A walk, entry by entry.
use Rattle.std.proofs.Common.{◌≡◌, ℕ, suc, ◌+◌, ◌<◌, ◌||◌, ◌⊎◌, Bool, true, false, cond, Option, Some, None, List, [], ◌∷◌, length, reverse, drop, refl, sym, ap, ◌∙◌, subst, inl, inr, arith}
use Rattle.std.specs.Iterator.{YieldsFirst}
use Rattle.std.specs.Prelude.{find, IfSome}
use Rattle.std.specs.Option.{option_map_or, option_or}
use Rattle.std.proofs.lemmas.Grind.{reverse_onto}
use Rattle.std.proofs.lemmas.List.{drop-drop}
use Rattle.std.proofs.lemmas.List.Folds.{find-append}
use Rattle.seg_pairs.specs.declared.provider.pairs.BreakState.{BreakState}
use Rattle.seg_pairs.specs.PairTable.{named_state, is_intermediate, PairTable, entry_of}
use Rattle.seg_pairs.specs.declared.elements.Element.{Element}
use Rattle.seg_pairs.specs.Walk.{Naming, namings, Walk, walk, is_class, leaves_class, saves, last_or}
use Rattle.seg_pairs.specs.Elements.{classes_of, onto}
use Rattle.seg_pairs.specs.Verdict.{IsStop, class_at, walk_of}
use Rattle.seg_pairs.specs.declared.walk.Stop.{Stop}

-- the last of a kind among the others, or else the first
last_or-cons : (is : Naming → Bool) (has : Naming → ℕ) (naming : Naming) (namings : List Naming) (otherwise : ℕ)
    → last_or is has (naming ∷ namings) otherwise ≡ last_or is has namings (cond (is naming) (has naming) otherwise)
last_or-cons is has naming namings otherwise =
    ap (λ (found : List Naming). option_map_or has (find is found) otherwise) (reverse_onto namings naming [])
    ∙ ap (λ (found : Option Naming). option_map_or has found otherwise) (find-append is (reverse namings) (naming ∷ []))
    ∙ on (find is (reverse namings)) (is naming)
  where
    on : (found : Option Naming) (b : Bool)
        → option_map_or has (option_or found (cond b (Some naming) None)) otherwise ≡ option_map_or has found (cond b (has naming) otherwise)
    on None true = refl
    on None false = refl
    on (Some other) b = refl

namings-cons : (t : PairTable) (number state class next : ℕ) (classes : List ℕ) → named_state (entry_of t state class) ≡ Some next
    → namings t number state (class ∷ classes) ≡ (record { before = number; state = state; entry = entry_of t state class; next = next }) ∷ namings t (suc number) next classes
unfolding namings
namings-cons t number state class next classes named = rw named refl

namings-stop : (t : PairTable) (number state class : ℕ) (classes : List ℕ) → named_state (entry_of t state class) ≡ None
    → namings t number state (class ∷ classes) ≡ []
unfolding namings
namings-stop t number state class classes none = rw none refl

-- a walk where the next entry names a state
pub walk-named : (t : PairTable) (state number saved class next_class next : ℕ) (classes : List ℕ) → named_state (entry_of t state next_class) ≡ Some next
    → walk t state number saved class (next_class ∷ classes)
    ≡ walk t next (suc number) (cond (is_intermediate (entry_of t state next_class) || is_class t state) number saved) (cond (is_class t state) next class) classes
unfolding walk
walk-named t state number saved class next_class next classes named =
    let first : Naming = record { before = number; state = state; entry = entry_of t state next_class; next = next } in
    let later = namings t (suc number) next classes in
    let more : number + suc (length later) ≡ suc number + length later = omega arith in
    rw (namings-cons t number state next_class next classes named)
    (rw (
      last_or-cons (λ n. true) (λ n. n.next) first later state,
      last_or-cons (saves t) (λ n. n.before) first later saved,
      last_or-cons (leaves_class t) (λ n. n.next) first later class,
      more,
    ) refl)

abbrev pub stopped : ℕ → ℕ → ℕ → ℕ → Walk
stopped state number saved class = record { state = state; stop = number; saved = saved; class = class }

-- and where it names none
pub walk-stop : (t : PairTable) (state number saved class next_class : ℕ) (classes : List ℕ) → named_state (entry_of t state next_class) ≡ None
    → walk t state number saved class (next_class ∷ classes) ≡ stopped state number saved class
unfolding walk
walk-stop t state number saved class next_class classes none =
    let here : number + 0 ≡ number = omega arith in
    rw (namings-stop t number state next_class classes none) (rw here refl)

pub walk-end : (t : PairTable) (state number saved class : ℕ) → walk t state number saved class [] ≡ stopped state number saved class
unfolding walk namings
walk-end t state number saved class = let here : number + 0 ≡ number = omega arith in rw here refl

-- a walk over elements, on its way: what is left of it is what is left of the whole
pub record IsMidway {D : Type 0}
    (t : PairTable) (start : ℕ) (whole : List (Element D)) (state : ℕ) (before : Element D) (left : List (Element D))
    (saved_before saved : Element D) (saved_left : List (Element D)) (class : ℕ) : Type 0 where
  pub below : state < t.property_count
  pub passed : ℕ
  pub left_after : before ∷ left ≡ drop passed whole
  pub saved_passed : ℕ
  pub saved_after : saved_before ∷ saved ∷ saved_left ≡ drop saved_passed whole
  pub same : walk t state (suc passed) (suc saved_passed) class (classes_of left) ≡ walk_of t start whole

-- the elements after the first of these
pub drop-next : {D : Type 0} (whole left : List (Element D)) (before : Element D) (passed : ℕ) → before ∷ left ≡ drop passed whole → left ≡ drop (suc passed) whole
drop-next whole left before passed here =
    let more : passed + 1 ≡ suc passed = omega arith in
    rw (← more) (ap (drop 1) here ∙ drop-drop 1 passed whole)

-- one entry more of the walk, by what it saves
module _ {D : Type 0} (t : PairTable) (start : ℕ) (whole : List (Element D)) (state : ℕ) (before : Element D) (left : List (Element D))
    (saved_before saved : Element D) (saved_left : List (Element D)) (class : ℕ)
    (next : Element D) (after : List (Element D)) (entry : BreakState) (to next_class : ℕ) (leaves : Bool) where
  walk-on : (passed saved_passed : ℕ) (b : Bool)
      → walk t state (suc passed) (suc saved_passed) class (classes_of left) ≡ walk_of t start whole
      → left ≡ next ∷ after → entry ≡ entry_of t state next.class → named_state entry ≡ Some to
      → leaves ≡ is_class t state → (is_intermediate entry || leaves) ≡ b → next_class ≡ cond leaves to class
      → walk t to (suc (suc passed)) (cond b (suc passed) (suc saved_passed)) next_class (classes_of after) ≡ walk_of t start whole
  walk-on passed saved_passed b same is is_entry named is_leaves saves is_class =
      rw (is_class, ← saves, is_leaves, is_entry)
      (sym (walk-named t state (suc passed) (suc saved_passed) class next.class to (classes_of after) (sym (ap named_state is_entry) ∙ named))
      ∙ ap (λ (elements : List (Element D)). walk t state (suc passed) (suc saved_passed) class (classes_of elements)) (sym is) ∙ same)

  pub midway-saved : IsMidway t start whole state before left saved_before saved saved_left class
      → left ≡ next ∷ after → entry ≡ entry_of t state next.class → named_state entry ≡ Some to → to < t.property_count
      → leaves ≡ is_class t state → (is_intermediate entry || leaves) ≡ true → next_class ≡ cond leaves to class
      → IsMidway t start whole to next after before next after next_class
  midway-saved midway is is_entry named below is_leaves saves is_class = record {
    below = below;
    passed = suc midway.passed;
    left_after = sym is ∙ drop-next whole left before midway.passed midway.left_after;
    saved_passed = midway.passed;
    saved_after = ap (λ (elements : List (Element D)). before ∷ elements) (sym is) ∙ midway.left_after;
    same = walk-on midway.passed midway.saved_passed true midway.same is is_entry named is_leaves saves is_class;
  }

  pub midway-kept : IsMidway t start whole state before left saved_before saved saved_left class
      → left ≡ next ∷ after → entry ≡ entry_of t state next.class → named_state entry ≡ Some to → to < t.property_count
      → leaves ≡ is_class t state → (is_intermediate entry || leaves) ≡ false → next_class ≡ cond leaves to class
      → IsMidway t start whole to next after saved_before saved saved_left next_class
  midway-kept midway is is_entry named below is_leaves saves is_class = record {
    below = below;
    passed = suc midway.passed;
    left_after = sym is ∙ drop-next whole left before midway.passed midway.left_after;
    saved_passed = midway.saved_passed;
    saved_after = midway.saved_after;
    same = walk-on midway.passed midway.saved_passed false midway.same is is_entry named is_leaves saves is_class;
  }

-- where the walk stops

read-onto : {D : Type 0} (left : List (Element D)) (next : Option (Element D)) (after : List (Element D))
    → YieldsFirst (λ (elements : List (Element D)). elements) left next after → left ≡ onto next after
read-onto left None after gives = gives.0 ∙ sym gives.1
read-onto left (Some next) after gives = gives

read-none : {D : Type 0} (left : List (Element D)) (next : Option (Element D)) (after : List (Element D))
    → YieldsFirst (λ (elements : List (Element D)). elements) left next after → next ≡ None → after ≡ []
read-none left None after gives is = gives.1
read-none left (Some next) after gives is = cc

names-none : {D : Type 0} (next : Option (Element D)) (entry : BreakState) → (next ≡ None) ⊎ (named_state entry ≡ None)
    → (element : Element D) → next ≡ Some element → named_state entry ≡ None
names-none next entry (inl none) element is = cc
names-none next entry (inr none) element is = none

walk-over : {D : Type 0} (t : PairTable) (state number saved class : ℕ) (next : Option (Element D)) (after : List (Element D)) (entry : BreakState)
    → entry ≡ entry_of t state (class_at t next) → ((element : Element D) → next ≡ Some element → named_state entry ≡ None) → (next ≡ None → after ≡ [])
    → walk t state number saved class (classes_of (onto next after)) ≡ stopped state number saved class
walk-over t state number saved class None after entry is none end = rw (end refl) (walk-end t state number saved class)
walk-over t state number saved class (Some next) after entry is none end =
    walk-stop t state number saved class next.class (classes_of after) (sym (ap named_state is) ∙ none next refl)

pub stop-from : {E D : Type 0} (left_of : E → List (Element D)) (t : PairTable) (start : ℕ) (whole left : List (Element D)) (stop : Stop E D) (after : List (Element D))
    → IsMidway t start whole stop.state stop.before left stop.saved_before stop.saved (left_of stop.saved_rest) stop.saved_class
    → YieldsFirst (λ (elements : List (Element D)). elements) left stop.next after
    → stop.entry ≡ entry_of t stop.state (class_at t stop.next) → (stop.next ≡ None) ⊎ (named_state stop.entry ≡ None)
    → IsStop left_of t start whole stop after
stop-from {E} {D} left_of t start whole left stop after midway gives is_entry stops =
    let is = read-onto left stop.next after gives in
    let none = names-none stop.next stop.entry stops in
    let end = read-none left stop.next after gives in
    let over = walk-over t stop.state (suc midway.passed) (suc midway.saved_passed) stop.saved_class stop.next after stop.entry is_entry none end in
    let same = sym midway.same
    ∙ ap (λ (elements : List (Element D)). walk t stop.state (suc midway.passed) (suc midway.saved_passed) stop.saved_class (classes_of elements)) is ∙ over in
    record {
      passed = midway.passed;
      stops = ap (λ (w : Walk). w.stop) same;
      left_after = ap (λ (elements : List (Element D)). stop.before ∷ elements) (sym is) ∙ midway.left_after;
      in_state = ap (λ (w : Walk). w.state) same;
      at_entry = is_entry;
      names_none = none;
      at_end = end;
      saved_passed = midway.saved_passed;
      saves = ap (λ (w : Walk). w.saved) same;
      saved_after = midway.saved_after;
      saved_class = ap (λ (w : Walk). w.class) same;
    }

-- an element that was read, where it is there
pub read-some : {D : Type 0} (left : List (Element D)) (next : Option (Element D)) (element : Element D) (after : List (Element D))
    → YieldsFirst (λ (elements : List (Element D)). elements) left next after → next ≡ Some element → left ≡ element ∷ after
read-some {D} left None element after gives is = cc
read-some {D} left (Some next) element after gives is = gives ∙ ap (λ (next : Element D). next ∷ after) (some-same is)
  where
    some-same : Some next ≡ Some element → next ≡ element
    some-same is = ap (λ (found : Option (Element D)). option_map_or (λ (e : Element D). e) found next) is

pub entry-at : {D : Type 0} (t : PairTable) (state : ℕ) (next : Option (Element D)) (element : Element D) (entry : BreakState)
    → entry ≡ entry_of t state (class_at t next) → next ≡ Some element → entry ≡ entry_of t state element.class
entry-at t state next element entry is there = is ∙ ap (λ n. entry_of t state (class_at t n)) there

pub below-some : {D : Type 0} (t : PairTable) (next : Option (Element D)) (element : Element D) → IfSome next (λ next. next.class < t.property_count) → next ≡ Some element → element.class < t.property_count
below-some {D} t next element below is = let P : Option (Element D) → Type 0 = λ next. IfSome next (λ next. next.class < t.property_count) in subst P is below

pub below-same : {D : Type 0} (count : ℕ) (other element : Element D) → element ≡ other → other.class < count → element.class < count
below-same {D} count other element is below = subst (λ (e : Element D). e.class < count) (sym is) below
