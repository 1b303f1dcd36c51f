-- What is read of a text for abbreviations.
use Rattle.std.proofs.Common.{◌≡◌, ℕ, ◌<◌, ◌≤◌, Bool, true, false, List, [], ◌∷◌, ◌++◌, refl, sym, ap, ◌∙◌, subst, arith, append-nil, ltb-true}
use Rattle.std.specs.Prelude.{◌&&◌, ◌||◌, not, nat_lt, if◌then◌else◌}
use Rattle.std.specs.List.{list_all}
use Rattle.std.proofs.lemmas.Bool.{false≢true}
use Rattle.std.proofs.lemmas.Bool.Decides.{nat_tests}
use Rattle.seg_text.specs.Items.{Item, Text, place_of, start_of}
use Rattle.seg_data.specs.WordSets.{Words, has_empty, has_nonempty, tails_after}
use Rattle.seg_segments.specs.Suppression.{is_abbreviated_after, is_letter_or_digit, is_space, is_word_and_spaces}
use Rattle.seg_segments.specs.Kept.{codes_before, stays, IsLater, IsOver, IsReading}
use Rattle.seg_segments.specs.declared.suppress.starts.Reading.{Reading}
use Rattle.seg_segments.specs.declared.suppress.starts.Reading.TheVariants.{Word, Open, Over}

-- ---- tests

pub lt-true : (m n : ℕ) → m < n → nat_lt m n ≡ true
lt-true m n less = grind (arith, nat_tests)

pub lt-false : (m n : ℕ) → n ≤ m → nat_lt m n ≡ false
lt-false m n more = grind (arith, nat_tests)

-- ---- words and spaces

pub no-word : (cs : List ℕ) → is_word_and_spaces [] cs ≡ false
unfolding is_word_and_spaces
no-word [] = refl
no-word (c ∷ cs) = no-word cs

no-words : (words : Words) → has_empty words ≡ false → has_nonempty words ≡ false → words ≡ []
no-words [] empty more = refl
no-words ([] ∷ words) empty more = absurd (false≢true (sym empty))
no-words ((c ∷ word) ∷ words) empty more = absurd (false≢true (sym more))

-- what is still owed, where a word has ended and spaces alone have followed it, or hasn't
abbrev pub owed : Bool → Words → List ℕ → Bool
owed ended words cs = (ended && list_all is_space cs) || is_word_and_spaces words cs

joined-tests : (ended space all empty more : Bool) → (ended && (space && all)) || ((empty && all) || more) ≡ ((empty || (ended && space)) && all) || more
joined-tests true true true true more = refl
joined-tests true true true false more = refl
joined-tests true true false true more = refl
joined-tests true true false false more = refl
joined-tests true false true true more = refl
joined-tests true false true false more = refl
joined-tests true false false true more = refl
joined-tests true false false false more = refl
joined-tests false space true true more = refl
joined-tests false space true false more = refl
joined-tests false space false true more = refl
joined-tests false space false false more = refl

owed-step : (ended : Bool) (words : Words) (c : ℕ) (cs : List ℕ)
    → owed ended words (c ∷ cs) ≡ owed (has_empty (tails_after c words) || (ended && is_space c)) (tails_after c words) cs
unfolding is_word_and_spaces
owed-step ended words c cs = joined-tests ended (is_space c) (list_all is_space cs) (has_empty (tails_after c words)) (is_word_and_spaces (tails_after c words) cs)

-- ---- the code points before a place

pub codes-next : (place end : ℕ) (items later : List Item) (item : Item) → items ≡ item ∷ later → place_of items end < place
    → codes_before place items ≡ item.1 ∷ codes_before place later
unfolding codes_before
codes-next place end items later item is ahead =
    let first : item.0 < place = subst (λ (items : List Item). place_of items end < place) is ahead in
    ap (codes_before place) is ∙ rw (lt-true item.0 place first) refl

pub codes-reached : (place end : ℕ) (items : List Item) → place ≤ place_of items end → codes_before place items ≡ []
unfolding codes_before
codes-reached place end [] reached = refl
codes-reached place end (item ∷ items) reached = rw (lt-false item.0 place reached) refl

pub codes-none : (place : ℕ) (items : List Item) → items ≡ [] → codes_before place items ≡ []
unfolding codes_before
codes-none place items is = ap (codes_before place) is

-- up to a later place there are those, and perhaps more
pub codes-later : (place later : ℕ) (items : List Item) → place ≤ later → (more : List ℕ) × (codes_before later items ≡ codes_before place items ++ more)
unfolding codes_before
codes-later place later [] order = ([], refl)
codes-later place later (item ∷ items) order = on (nat_lt item.0 place) refl (codes-later place later items order)
  where
    on : (b : Bool) → nat_lt item.0 place ≡ b → (more : List ℕ) × (codes_before later items ≡ codes_before place items ++ more)
        → (more : List ℕ) × (codes_before later (item ∷ items) ≡ (if b then item.1 ∷ codes_before place items else []) ++ more)
    on true is rest =
        (rest.0, let first : item.0 < later = omega (arith, ltb-true item.0 place is, order) in rw (lt-true item.0 later first) (ap (λ (cs : List ℕ). item.1 ∷ cs) rest.1))
    on false is rest = (codes_before later (item ∷ items), refl)

-- ---- the loop of read_word

-- what was owed at the start is owed now, whatever follows
abbrev pub IsOwed : Words → ℕ → List Item → Bool → Words → List Item → Type 0
IsOwed words place items ended now left =
    (more : List ℕ) → is_word_and_spaces words (codes_before place items ++ more) ≡ owed ended now (codes_before place left ++ more)

pub owed-start : (words : Words) (place : ℕ) (items : List Item) → IsOwed words place items false words items
owed-start words place items more = refl

pub owed-next : (words : Words) (place end : ℕ) (items : List Item) (ended : Bool) (now next : Words) (left after : List Item) (item : Item) (ends : Bool)
    → IsOwed words place items ended now left → place_of left end < place → left ≡ item ∷ after → next ≡ tails_after item.1 now
    → ends ≡ has_empty next || (ended && is_space item.1) → IsOwed words place items ends next after
owed-next words place end items ended now next left after item ends so_far ahead is step ends_is more =
    so_far more
    ∙ ap (λ (cs : List ℕ). owed ended now (cs ++ more)) (codes-next place end left after item is ahead)
    ∙ owed-step ended now item.1 (codes_before place after ++ more)
    ∙ rw (ends_is, step) refl

pub owed-over : (words : Words) (place : ℕ) (items : List Item) (next : Words) (after : List Item) (ends other : Bool)
    → IsOwed words place items ends next after → ends ≡ has_empty next || other → ends ≡ false → has_nonempty next ≡ false
    → (more : List ℕ) → is_word_and_spaces words (codes_before place items ++ more) ≡ false
owed-over words place items next after ends other so_far is none more_none more =
    let no_empty : has_empty next ≡ false = or-false (has_empty next) other (sym is ∙ none) in
    so_far more ∙ rw (none, no-words next no_empty more_none) (no-word (codes_before place after ++ more))
  where
    or-false : (b c : Bool) → (b || c) ≡ false → b ≡ false
    or-false true c is = is
    or-false false c is = refl

and-true : (b : Bool) → ((b && true) || false) ≡ b
and-true true = refl
and-true false = refl

pub owed-end : (words : Words) (place : ℕ) (items : List Item) (ended : Bool) (now : Words) (left : List Item)
    → IsOwed words place items ended now left → codes_before place left ≡ [] → is_word_and_spaces words (codes_before place items) ≡ ended
unfolding is_word_and_spaces
owed-end words place items ended now left so_far none =
    ap (is_word_and_spaces words) (sym (append-nil (codes_before place items))) ∙ so_far [] ∙ rw none (and-true ended)

-- ---- verdicts of read_word

pub word-true : (words : Words) (place : ℕ) (items : List Item) (joined : Bool) → joined ≡ false → is_word_and_spaces words (codes_before place items) ≡ true
    → true ≡ not joined && is_word_and_spaces words (codes_before place items)
word-true words place items joined apart word = rw (apart, word) refl

pub word-false : (words : Words) (place : ℕ) (items : List Item) (joined : Bool) (found : Reading) → IsReading words place items found → (found ≡ Word → ⊥)
    → false ≡ not joined && is_word_and_spaces words (codes_before place items)
word-false words place items joined found reading other = sym (rw (none found reading other) (both (not joined)))
  where
    both : (b : Bool) → (b && false) ≡ false
    both true = refl
    both false = refl

    none : (found : Reading) → IsReading words place items found → (found ≡ Word → ⊥) → is_word_and_spaces words (codes_before place items) ≡ false
    none Word reading other = absurd (other refl)
    none Open reading other = reading
    none Over reading other = ap (is_word_and_spaces words) (sym (append-nil (codes_before place items))) ∙ reading []

pub over : (words : Words) (place : ℕ) (joined : Bool) (text : Text) → start_of text < place → IsReading words place text.items Over
    → IsOver words place joined text
over words place joined text ahead reading = record {
  ahead = ahead;
  none = λ later order.
      let more : (more : List ℕ) × (codes_before later text.items ≡ codes_before place text.items ++ more) = codes-later place later text.items order in
      rw (more.1, reading more.0) (both (not joined));
}
  where
    both : (b : Bool) → (b && false) ≡ false
    both true = refl
    both false = refl

pub over-joined : (words : Words) (place : ℕ) (joined : Bool) (text : Text) → start_of text < place → joined ≡ true → IsOver words place joined text
over-joined words place joined text ahead is = record { ahead = ahead; none = λ later order. rw is refl }

-- ---- the loop of any_word

pub any-here : (joined : Bool) (words : Words) (cs : List ℕ) → true ≡ not joined && is_word_and_spaces words cs → is_abbreviated_after joined words cs ≡ true
unfolding is_abbreviated_after is_word_and_spaces
any-here joined words [] here = absurd (false≢true (sym (here ∙ none (not joined))))
  where
    none : (b : Bool) → (b && false) ≡ false
    none true = refl
    none false = refl
any-here joined words (c ∷ cs) here = rw (sym here) refl

pub any-none : (joined : Bool) (words : Words) (cs : List ℕ) → cs ≡ [] → is_abbreviated_after joined words cs ≡ false
unfolding is_abbreviated_after
any-none joined words cs none = ap (is_abbreviated_after joined words) none

-- the code point is passed, where no word begins with it
pub any-next : (joined next : Bool) (words : Words) (cs later : List ℕ) (c : ℕ) → cs ≡ c ∷ later → (not joined && is_word_and_spaces words cs) ≡ false
    → next ≡ is_letter_or_digit c → is_abbreviated_after joined words cs ≡ is_abbreviated_after next words later
unfolding is_abbreviated_after
any-next joined next words cs later c is none next_is =
    ap (is_abbreviated_after joined words) is ∙ rw (subst (λ (cs : List ℕ). (not joined && is_word_and_spaces words cs) ≡ false) is none, next_is) refl

-- ---- the loop of leave_over

pub later-start : (words : Words) (place : ℕ) (joined : Bool) (text : Text) → IsLater words place joined text joined text
later-start words place joined text = record { end = refl; same = λ later order. refl }

pub later-next : (words : Words) (place : ℕ) (joined : Bool) (text : Text) (now : Bool) (left : Text) (next : Bool) (after : Text) (item : Item)
    → IsLater words place joined text now left → IsOver words place now left → left.items ≡ item ∷ after.items → after.end ≡ left.end
    → next ≡ is_letter_or_digit item.1 → IsLater words place joined text next after
later-next words place joined text now left next after item so_far over is end next_is = record {
  end = end ∙ so_far.end;
  same = λ later order.
      let ahead : place_of left.items left.end < later = omega (arith, over.ahead, order) in
      sym (any-next now next words (codes_before later left.items) (codes_before later after.items) item.1
      (codes-next later left.end left.items after.items item is ahead) (over.none later order) next_is)
      ∙ so_far.same later order;
}

pub later-none : (words : Words) (place : ℕ) (joined : Bool) (text : Text) (now : Bool) (left after : Text)
    → IsLater words place joined text now left → left.items ≡ after.items → after.end ≡ left.end → IsLater words place joined text now after
later-none words place joined text now left after so_far is end = record {
  end = end ∙ so_far.end;
  same = λ later order. ap (λ (items : List Item). is_abbreviated_after now words (codes_before later items)) (sym is) ∙ so_far.same later order;
}

-- ---- whether a boundary stays

pub stays-end : (words : Words) (joined : Bool) (text : Text) (place : ℕ) → text.end ≤ place → true ≡ stays words joined text place
stays-end words joined text place reached = rw (lt-false place text.end reached) refl

pub stays-ahead : (words : Words) (joined : Bool) (text : Text) (place : ℕ) (next : Bool) (left : Text) (any : Bool) → place < text.end
    → IsLater words place joined text next left → any ≡ is_abbreviated_after next words (codes_before place left.items) → not any ≡ stays words joined text place
stays-ahead words joined text place next left any ahead later any_is =
    rw (lt-true place text.end ahead, any_is, later.same place (omega arith)) refl
