-- What an engine gives, call by call.
use Rattle.std.proofs.Common.{◌≡◌, ◌≢◌, ℕ, zero, suc, ◌+◌, ◌<◌, inl, inr, Bool, true, Option, Some, None, List, [], ◌∷◌, length, map, drop, refl, sym, ap, ◌∙◌, subst, arith}
use Rattle.std.specs.Prelude.{⊤, IfSome}
use Rattle.std.specs.Iterator.{YieldsFirst, MakesProgress, item_count}
use Rattle.std.proofs.lemmas.List.{drop-map, length-map}
use Rattle.seg_text.specs.declared.boundary.Boundary.{Boundary}
use Rattle.seg_text.specs.Items.{Item, Text, place_of, start_of, rest_after, code_points, IsRising}
use Rattle.seg_text.specs.Boundaries.{Remainder, GivesNext, IsCover, boundary, start, boundary_in, boundaries_in, offsets, offsets_left, shift_all, Stretch, later_boundaries, list_boundaries, remainder, HasEndAlone, HasProgress, IsWithin, AreLeft}
use Rattle.seg_text.proofs.Covers.{covers}
use Rattle.seg_text.proofs.Cursors.{fewer-left}
use Rattle.seg_text.proofs.Hints.{stretches-left}
use Rattle.seg_text.proofs.Places.{in-shift, IsRising-drop}
use Rattle.seg_text.proofs.Stretches.{later-nil, later-map}
use Rattle.seg_data.specs.Table.{Table}
use Rattle.seg_pairs.specs.declared.pair_data.PairDataBorrowed.{PairDataBorrowed}
use Rattle.seg_pairs.specs.PairData.{pair_table_of, override_of}
use Rattle.seg_pairs.specs.PairTable.{PairTable, class_of}
use Rattle.seg_pairs.specs.declared.elements.Element.{Element}
use Rattle.seg_pairs.specs.declared.verdicts.Outcome.TheVariants.{Break as BreakOut, Run as RunOut}
use Rattle.seg_pairs.specs.Verdict.{Verdict, verdict, chain, TakesOf, EndsIn, IsRest}
use Rattle.seg_pairs.specs.Verdict.Verdict.{BreakAfter, GoAfter, RunBegins}
use Rattle.seg_pairs.specs.Breaks.{status_of, stretch_of, class_stretch, classes_by, table_stretch, table_boundaries}
use Rattle.seg_pairs.specs.Elements.{ItemElement, classes_of, class_text, onto, place_at, elements_of}
use Rattle.seg_pairs.proofs.Chained.{chain-first}
use Rattle.seg_pairs.proofs.Chains.{chain-no-run}
use Rattle.seg_pairs.proofs.Forward.{verdict-forward, verdict-no-run, on-classes}

pub read-onto : {S D : Type 0} (left : S → List (Element D)) (s : S) (first : Option (Element D)) (t : S) → YieldsFirst left s first t → left s ≡ onto first (left t)
read-onto left s None t gives = gives.0 ∙ sym gives.1
read-onto left s (Some first) t gives = gives

pub none-left : (pairs : PairDataBorrowed) (items : List Item) → elements_of pairs items ≡ [] → items ≡ []
none-left pairs [] none = refl
none-left pairs (item ∷ items) none = cc

-- the verdict of a table on the first of some elements
abbrev pub element_verdict : PairTable → List ItemElement → Verdict
element_verdict t elements = verdict t (classes_of elements)

-- stretches by a table alone: each takes some of what is left, and ends with its one boundary where it has one

class-is : (t : PairTable) (class : ℕ) (classes : List ℕ) → class_stretch t (class ∷ classes) ≡ stretch_of t.rule_status_table (length (class ∷ classes)) (verdict t (class ∷ classes))
unfolding class_stretch
class-is t class classes = refl

-- a verdict that begins no run takes some of what is left
pub verdict-within : (statuses : List ℕ) (count : ℕ) (w : Verdict) → TakesOf count w → w ≢ RunBegins → IsWithin count (stretch_of statuses count w)
verdict-within statuses count (BreakAfter n class) takes other = record { some = takes.0; within = takes.1; rises = (n, omega arith, (takes.0, refl)); last = λ all. (takes.0, refl) }
verdict-within statuses count (GoAfter n) takes other = record { some = takes.0; within = omega (arith, takes.1); rises = (0, omega arith, refl); last = λ all. absurd (omega (arith, all, takes.1)) }
verdict-within statuses count RunBegins takes other = absurd (other refl)

class-within : (t : PairTable) (class : ℕ) (classes : List ℕ) → IsWithin (length (class ∷ classes)) (class_stretch t (class ∷ classes))
unfolding class_stretch
class-within t class classes = verdict-within t.rule_status_table (length (class ∷ classes)) (verdict t (class ∷ classes)) (verdict-forward t class classes) (verdict-no-run t class classes)

class-alone : (t : PairTable) (classes : List ℕ) → HasEndAlone (class_stretch t classes)
unfolding class_stretch
class-alone t classes = on (verdict t classes)
  where
    on : (w : Verdict) → HasEndAlone (stretch_of t.rule_status_table (length classes) w)
    on (BreakAfter n c) = inr (status_of t.rule_status_table c, refl)
    on (GoAfter n) = inl refl
    on RunBegins = inl refl

pub table-within : (t : PairTable) (overriding : Option Table) (x : ℕ) (xs : List ℕ) → IsWithin (length (x ∷ xs)) (table_stretch t overriding (x ∷ xs))
table-within t overriding x xs =
    let long : length (classes_by t overriding (x ∷ xs)) ≡ length (x ∷ xs) = length-map (x ∷ xs) (class_of t overriding) in
    subst (λ n. IsWithin n (table_stretch t overriding (x ∷ xs))) long (class-within t (class_of t overriding x) (classes_by t overriding xs))

pub table-going : (t : PairTable) (overriding : Option Table) → HasProgress (table_stretch t overriding)
table-going t overriding x xs = (table-within t overriding x xs).some

pub table-alone : (t : PairTable) (overriding : Option Table) (x : ℕ) (xs : List ℕ) → HasEndAlone (table_stretch t overriding (x ∷ xs))
table-alone t overriding x xs = class-alone t (classes_by t overriding (x ∷ xs))

-- elements as a text

class-start : (elements : List ItemElement) (end : ℕ) → start_of (class_text elements end) ≡ place_at elements end
class-start [] end = refl
class-start (element ∷ elements) end = refl

class-after : (n : ℕ) (elements : List ItemElement) (end : ℕ) → rest_after n (class_text elements end) ≡ class_text (drop n elements) end
class-after n elements end = rw (drop-map {Y = Item} (λ (element : ItemElement). (element.place, element.class)) n elements) refl

class-codes : (elements : List ItemElement) (end : ℕ) → code_points (class_text elements end).items ≡ classes_of elements
class-codes [] end = refl
class-codes (element ∷ elements) end = ap (λ (classes : List ℕ). element.class ∷ classes) (class-codes elements end)

-- the boundaries of elements that are left, where those up to the first were given
abbrev Ends : PairTable → List ItemElement → ℕ → List Boundary
Ends t elements end = boundaries_in (later_boundaries (class_stretch t)) (class_text elements end)

ends-none : (t : PairTable) (end : ℕ) → Ends t [] end ≡ []
ends-none t end = rw (later-nil (class_stretch t)) refl

ends-next : (t : PairTable) (left : ItemElement) (elements : List ItemElement) (end gone n class : ℕ)
    → chain (element_verdict t) (left ∷ elements) ≡ (gone, BreakAfter n class)
    → Ends t (left ∷ elements) end
    ≡ boundary (place_at (drop (gone + n) (left ∷ elements)) end) (status_of t.rule_status_table class) ∷ Ends t (drop (gone + n) (left ∷ elements)) end
ends-next t left elements end gone n class found =
    let whole : List ItemElement = left ∷ elements in
    let rest : List ItemElement = drop (gone + n) whole in
    let status : ℕ = status_of t.rule_status_table class in
    let first : List ItemElement → Stretch = λ elements. class_stretch t (classes_of elements) in
    let begins = chain-first (element_verdict t) (on-classes (verdict t) (verdict-forward t)) t.rule_status_table first (by-class t) left elements gone n class found in
    let by_class : later_boundaries (class_stretch t) (classes_of whole) ≡ boundary (gone + n) status ∷ shift_all (gone + n) (later_boundaries (class_stretch t) (classes_of rest)) =
    sym (later-map (λ (element : ItemElement). element.class) (class_stretch t) whole) ∙ begins
    ∙ ap (λ (later : List Boundary). boundary (gone + n) status ∷ shift_all (gone + n) later) (later-map (λ (element : ItemElement). element.class) (class_stretch t) rest) in
    rw (class-codes whole end, class-codes rest end, by_class, in-shift (class_text whole end) (gone + n), class-after (gone + n) whole end)
    (ap (λ place. boundary place status ∷ map (boundary_in (class_text rest end)) (later_boundaries (class_stretch t) (classes_of rest)))
    (ap start_of (class-after (gone + n) whole end) ∙ class-start rest end))
  where
    by-class : (t : PairTable) (x : ItemElement) (xs : List ItemElement)
        → class_stretch t (classes_of (x ∷ xs)) ≡ stretch_of t.rule_status_table (length (x ∷ xs)) (element_verdict t (x ∷ xs))
    by-class t x xs = class-is t x.class (classes_of xs) ∙ ap (λ n. stretch_of t.rule_status_table n (element_verdict t (x ∷ xs))) (length-map (x ∷ xs) (λ (element : ItemElement). element.class))

-- a new engine

pub items-codes : (pairs : PairDataBorrowed) (items : List Item) → classes_of (elements_of pairs items) ≡ classes_by (pair_table_of pairs) (override_of pairs) (code_points items)
items-codes pairs [] = refl
items-codes pairs (item ∷ items) = ap (λ (classes : List ℕ). class_of (pair_table_of pairs) (override_of pairs) item.1 ∷ classes) (items-codes pairs items)

items-place : (pairs : PairDataBorrowed) (items : List Item) (end n : ℕ) → place_of (drop n (class_text (elements_of pairs items) end).items) end ≡ place_of (drop n items) end
items-place pairs [] end zero = refl
items-place pairs [] end (suc n) = refl
items-place pairs (item ∷ items) end zero = refl
items-place pairs (item ∷ items) end (suc n) = items-place pairs items end n

items-boundaries : (pairs : PairDataBorrowed) (text : Text) (counted : List Boundary)
    → map (boundary_in (class_text (elements_of pairs text.items) text.end)) counted ≡ map (boundary_in text) counted
items-boundaries pairs text [] = refl
items-boundaries pairs text (b ∷ counted) =
    rw (items-place pairs text.items text.end b.offset, items-boundaries pairs text counted) refl

-- the boundaries of elements, that at their start too
abbrev All : PairTable → List ItemElement → ℕ → List Boundary
All t elements end = boundaries_in (list_boundaries (class_stretch t)) (class_text elements end)

items-left : (pairs : PairDataBorrowed) (text : Text)
    → All (pair_table_of pairs) (elements_of pairs text.items) text.end ≡ boundaries_in (table_boundaries (pair_table_of pairs) (override_of pairs)) text
items-left pairs text =
    let p = pair_table_of pairs in
    let o = override_of pairs in
    let codes : code_points (class_text (elements_of pairs text.items) text.end).items ≡ classes_by p o (code_points text.items) =
    class-codes (elements_of pairs text.items) text.end ∙ items-codes pairs text.items in
    let found : list_boundaries (class_stretch p) (code_points (class_text (elements_of pairs text.items) text.end).items) ≡ table_boundaries p o (code_points text.items) =
    ap (list_boundaries (class_stretch p)) codes
    ∙ ap (λ (found : List Boundary). start ∷ found) (sym (later-map (class_of p o) (class_stretch p) (code_points text.items))) in
    ap (map (boundary_in (class_text (elements_of pairs text.items) text.end))) found
    ∙ items-boundaries pairs text (table_boundaries p o (code_points text.items))

pub new-left : (pairs : PairDataBorrowed) (text : Text) (t : PairTable) (elements : List ItemElement) (after : ℕ)
    → t ≡ pair_table_of pairs → after ≡ text.end → elements_of pairs text.items ≡ elements
    → All t elements after ≡ boundaries_in (table_boundaries (pair_table_of pairs) (override_of pairs)) text
new-left pairs text t elements after same stays is =
    let p = pair_table_of pairs in
    let found : List Boundary = boundaries_in (table_boundaries p (override_of pairs)) text in
    subst (λ t. All t elements after ≡ found) (sym same)
    (subst (λ after. All p elements after ≡ found) (sym stays)
    (subst (λ elements. All p elements text.end ≡ found) is (items-left pairs text)))

pub new-cover : (pairs : PairDataBorrowed) (text : Text) (left : List Boundary) → left ≡ boundaries_in (table_boundaries (pair_table_of pairs) (override_of pairs)) text
    → IsRising text.items text.end → IsCover (start_of text) text.end left
new-cover pairs text left is rising = rw is (covers (table_stretch (pair_table_of pairs) (override_of pairs)) (table-within (pair_table_of pairs) (override_of pairs)) text rising)

-- a call

-- what an engine has still to give, where these elements are left
abbrev pub Left : Bool → PairTable → List ItemElement → ℕ → ℕ → Remainder
Left started t elements end class = remainder started (class_stretch t) (class_text elements end) (status_of t.rule_status_table class)

pub record Gives (before after : Remainder) (place : ℕ) : Type 0 where
  pub steps : YieldsFirst offsets_left before (Some place) after × GivesNext before (Some place) after
  pub goes : MakesProgress (λ _. ⊤) (item_count offsets_left) before (Some place) after

gives : (before after : Remainder) (place : ℕ) → before.left ≡ boundary place after.status ∷ after.left → Gives before after place
gives before after place is =
    let steps : offsets_left before ≡ place ∷ offsets_left after = ap offsets is in
    record { steps = (steps, is); goes = fewer-left offsets_left before after place steps }

pub rest-is : {D : Type 0} (next : Option (Element D)) (rest whole : List (Element D)) → IsRest next rest whole → onto next rest ≡ whole
rest-is None rest whole (none, empty) = empty ∙ sym none
rest-is (Some next) rest whole is = sym is

pub gives-next : (t u : PairTable) (now : Option ItemElement) (left : ItemElement) (elements : List ItemElement) (next : Option ItemElement) (rest : List ItemElement)
    (end after : ℕ) (started : Bool) (class next_class place : ℕ) → started ≡ true → now ≡ Some left
    → EndsIn (chain (element_verdict t) (left ∷ elements)) (left ∷ elements) (BreakOut next_class next) rest
    → u ≡ t → after ≡ end → place ≡ place_at (onto next rest) after
    → Gives (Left started t (onto now elements) end class) (Left started u (onto next rest) after next_class) place
gives-next t u now left elements next rest end after started class next_class place on here ends same stays is =
    rw (on, here, same, stays, is, stays) (by (chain (element_verdict t) (left ∷ elements)) refl ends)
  where
    by : (found : ℕ × Verdict) → chain (element_verdict t) (left ∷ elements) ≡ found → EndsIn found (left ∷ elements) (BreakOut next_class next) rest
        → Gives (Left true t (left ∷ elements) end class) (Left true t (onto next rest) end next_class) (place_at (onto next rest) end)
    by (gone, BreakAfter n with_class) found (class_is, left_is) =
        let there = rest-is next rest (drop (gone + n) (left ∷ elements)) left_is in
        gives _ _ _ (rw (there, class_is) (ends-next t left elements end gone n with_class found))
    by (gone, GoAfter n) found ends = absurd ends
    by (gone, RunBegins) found ends = absurd ends

pub end-left : (t : PairTable) (next : Option ItemElement) (elements : List ItemElement) (end class : ℕ) (started : Bool)
    → started ≡ true → next ≡ None → elements ≡ [] → (Left started t (onto next elements) end class).left ≡ []
end-left t next elements end class started on none empty = rw (on, none, empty) (ends-none t end)

pub run-never : (t : PairTable) (left : ItemElement) (elements : List ItemElement) (first second : ItemElement) (rest : List ItemElement)
    → EndsIn (chain (element_verdict t) (left ∷ elements)) (left ∷ elements) (RunOut first second) rest → ⊥
run-never t left elements first second rest ends = by (chain (element_verdict t) (left ∷ elements)) refl ends
  where
    by : (found : ℕ × Verdict) → chain (element_verdict t) (left ∷ elements) ≡ found → EndsIn found (left ∷ elements) (RunOut first second) rest → ⊥
    by (gone, BreakAfter n class) found ends = ends
    by (gone, GoAfter n) found ends = ends
    by (gone, RunBegins) found ends =
        chain-no-run (element_verdict t) (on-classes (verdict t) (verdict-forward t)) (λ x xs. verdict-no-run t x.class _) left elements (ap (λ (f : ℕ × Verdict). f.1) found)

pub rest-empty : (found : ℕ × Verdict) (elements : List ItemElement) (class : ℕ) (next : Option ItemElement) (rest : List ItemElement)
    → EndsIn found elements (BreakOut class next) rest → next ≡ None → rest ≡ []
rest-empty (gone, BreakAfter n with_class) elements class None rest (same, left) none = left.1
rest-empty (gone, BreakAfter n with_class) elements class (Some next) rest (same, left) none = cc
rest-empty (gone, GoAfter n) elements class next rest ends none = absurd ends
rest-empty (gone, RunBegins) elements class next rest ends none = absurd ends

pub below-of : (t u v : PairTable) (next : Option ItemElement) → t ≡ u → v ≡ u → IfSome next (λ next. next.class < t.property_count) → IfSome next (λ next. next.class < v.property_count)
below-of t u v next same equal below =
    let Below : PairTable → Type 0 = λ t. IfSome next (λ next. next.class < t.property_count) in
    subst Below (same ∙ sym equal) below

pub new-empty : (whole : List ItemElement) (first : Option ItemElement) (pairs : PairDataBorrowed) (items : List Item)
    → YieldsFirst (λ (elements : List ItemElement). elements) whole first (elements_of pairs items) → first ≡ None → items ≡ []
new-empty whole None pairs items gives none = none-left pairs items gives.1
new-empty whole (Some first) pairs items gives none = cc

-- elements rise as the items do that they are

elements-rise : (pairs : PairDataBorrowed) (items : List Item) (end : ℕ) → IsRising items end → IsRising (class_text (elements_of pairs items) end).items end
elements-rise pairs [] end rises = rises
elements-rise pairs (item ∷ items) end rises = (subst (λ place. item.0 < place) (sym (items-place pairs items end 0)) rises.0, elements-rise pairs items end rises.1)

pub new-rising : (pairs : PairDataBorrowed) (text : Text) (elements : List ItemElement) (after : ℕ)
    → after ≡ text.end → elements_of pairs text.items ≡ elements → IsRising text.items text.end → IsRising (class_text elements after).items after
new-rising pairs text elements after same is rises = rw (same, ← is) (elements-rise pairs text.items text.end rises)

pub next-rising : (found : ℕ × Verdict) (now : Option ItemElement) (left : ItemElement) (elements : List ItemElement) (class : ℕ) (next : Option ItemElement) (rest : List ItemElement) (end after : ℕ)
    → now ≡ Some left → EndsIn found (left ∷ elements) (BreakOut class next) rest → after ≡ end
    → IsRising (class_text (onto now elements) end).items end → IsRising (class_text (onto next rest) after).items after
next-rising (gone, BreakAfter n with_class) now left elements class next rest end after here (same, left_is) stays rises =
    let there = rest-is next rest (drop (gone + n) (left ∷ elements)) left_is in
    rw (stays, there, ← drop-map {Y = Item} (λ (element : ItemElement). (element.place, element.class)) (gone + n) (left ∷ elements))
    (IsRising-drop (class_text (left ∷ elements) end).items end (gone + n) (rw here at rises))
next-rising (gone, GoAfter n) now left elements class next rest end after here ends stays rises = absurd ends
next-rising (gone, RunBegins) now left elements class next rest end after here ends stays rises = absurd ends

-- what is left of the boundaries of elements that rise
pub engine-left : (t : PairTable) (elements : List ItemElement) (end class : ℕ) (started : Bool) → IsRising (class_text elements end).items end
    → AreLeft started (place_at elements end) end (Left started t elements end class).left
engine-left t elements end class started rises =
    rw (← class-start elements end) (stretches-left (class_stretch t) (class-within t) started (class_text elements end) (status_of t.rule_status_table class) rises)
