-- Adequacy: the last flag of a pattern is true just where symbols fit it: some nearest ones for a left side, all for a right side.
use Rattle.std.specs.Prelude.{◌≡◌, ◌↔◌, ℕ, Bool, true, false, ◌&&◌, ◌||◌, List, [], ◌∷◌, ◌++◌}
use Rattle.std.proofs.Common.{refl, sym, ap, ◌∙◌, inl, inr, append_assoc, append-nil, subst}
use Rattle.std.specs.Prelude.{reverse}
use Rattle.std.proofs.lemmas.List.{reverse-append}
use Rattle.seg_rules.specs.Plain.{left_fits, right_fits, row_fits}
use Rattle.std.proofs.lemmas.Bool.{and_parts, and_from, or_cases}
use Rattle.seg_rules.specs.declared.rules.Count.TheVariants.{One, Optional, Star, Pairs}
use Rattle.seg_rules.specs.declared.rules.Count.{Count}
use Rattle.seg_rules.specs.RowRules.{Pattern, Row, has, flow, no_flags, is_full}
use Rattle.seg_rules.specs.Patterns.{Each, EachPair, FitsItem, Fits, EndsIn, BeginsWith, flags, left_flags, right_flags, is_nothing}
use Rattle.seg_rules.proofs.StepLemmas.{once-is}

-- ---- where what follows an item may begin

abbrev pub Begins : Type 0
Begins = List ℕ → Bool

unfoldable pub after_one : ℕ → Begins → Begins
after_one class begins [] = false
after_one class begins (x ∷ xs) = begins xs && has class x

unfoldable pub after_optional : ℕ → Begins → Begins
after_optional class begins [] = begins [] || false
after_optional class begins (x ∷ xs) = begins (x ∷ xs) || (begins xs && has class x)

unfoldable pub after_star : ℕ → Begins → Begins
after_star class begins [] = begins [] || false
after_star class begins (x ∷ xs) = begins (x ∷ xs) || (after_star class begins xs && has class x)

-- after pairs, and after half of one more
unfoldable pub after_pairs : ℕ → Begins → List ℕ → Bool × Bool
after_pairs class begins [] = (begins [] || false, false)
after_pairs class begins (x ∷ xs) =
    let past = after_pairs class begins xs in
    (begins (x ∷ xs) || (past.1 && has class x), past.0 && has class x)

unfoldable pub after_item : ℕ → Count → Begins → Begins
after_item class One begins = after_one class begins
after_item class Optional begins = after_optional class begins
after_item class Star begins = after_star class begins
after_item class Pairs begins = λ xs. (after_pairs class begins xs).0

unfoldable pub reached : Pattern → Begins → List ℕ → Bool
reached [] begins xs = begins xs
reached ((class, count) ∷ items) begins xs = reached items (after_item class count begins) xs

-- ---- the flags are these

flags-none : (begins : Begins) (xs : List ℕ) → flags begins [] xs ≡ begins xs ∷ []
unfolding flags flow no_flags
flags-none begins [] = refl
flags-none begins (x ∷ xs) = refl

flags-one : (class : ℕ) (items : Pattern) (begins : Begins) (xs : List ℕ)
    → flags begins ((class, One) ∷ items) xs ≡ begins xs ∷ flags (after_one class begins) items xs
unfolding flags flow no_flags after_one
flags-one class items begins [] = refl
flags-one class items begins (x ∷ xs) = ap (λ live. flow (begins (x ∷ xs)) ((class, One) ∷ items) live x) (flags-one class items begins xs)

flags-optional : (class : ℕ) (items : Pattern) (begins : Begins) (xs : List ℕ)
    → flags begins ((class, Optional) ∷ items) xs ≡ begins xs ∷ flags (after_optional class begins) items xs
unfolding flags flow no_flags after_optional
flags-optional class items begins [] = refl
flags-optional class items begins (x ∷ xs) = ap (λ live. flow (begins (x ∷ xs)) ((class, Optional) ∷ items) live x) (flags-optional class items begins xs)

flags-star : (class : ℕ) (items : Pattern) (begins : Begins) (xs : List ℕ)
    → flags begins ((class, Star) ∷ items) xs ≡ after_star class begins xs ∷ flags (after_star class begins) items xs
unfolding flags flow no_flags after_star
flags-star class items begins [] = once-is _ _
flags-star class items begins (x ∷ xs) =
    ap (λ live. flow (begins (x ∷ xs)) ((class, Star) ∷ items) live x) (flags-star class items begins xs) ∙ once-is _ _

flags-pairs : (class : ℕ) (items : Pattern) (begins : Begins) (xs : List ℕ)
    → flags begins ((class, Pairs) ∷ items) xs
    ≡ (after_pairs class begins xs).0 ∷ ((after_pairs class begins xs).1 ∷ flags (λ ys. (after_pairs class begins ys).0) items xs)
unfolding flags flow no_flags after_pairs
flags-pairs class items begins [] = once-is _ _
flags-pairs class items begins (x ∷ xs) =
    ap (λ live. flow (begins (x ∷ xs)) ((class, Pairs) ∷ items) live x) (flags-pairs class items begins xs) ∙ once-is _ _

-- one more flag before others
full-more : (begins : Begins) (items : Pattern) (xs : List ℕ) (b : Bool) (v : Bool) → is_full (flags begins items xs) ≡ v → ((c : Bool) (live : List Bool) → flags begins items xs ≡ c ∷ live → is_full (b ∷ flags begins items xs) ≡ v)
unfolding is_full
full-more begins items xs b v h c live is = ap (λ all. is_full (b ∷ all)) is ∙ sym (ap is_full is) ∙ h

-- there is a flag
some-flags : (items : Pattern) (begins : Begins) (xs : List ℕ) → (c : Bool) × ((live : List Bool) × (flags begins items xs ≡ c ∷ live))
some-flags [] begins xs = (_, (_, flags-none begins xs))
some-flags ((class, One) ∷ items) begins xs = (_, (_, flags-one class items begins xs))
some-flags ((class, Optional) ∷ items) begins xs = (_, (_, flags-optional class items begins xs))
some-flags ((class, Star) ∷ items) begins xs = (_, (_, flags-star class items begins xs))
some-flags ((class, Pairs) ∷ items) begins xs = (_, (_, flags-pairs class items begins xs))

full-before : (items : Pattern) (begins : Begins) (xs : List ℕ) (b : Bool) → is_full (b ∷ flags begins items xs) ≡ is_full (flags begins items xs)
full-before items begins xs b = let (c, (live, is)) = some-flags items begins xs in full-more begins items xs b _ refl c live is

pub full-is : (pattern : Pattern) (begins : Begins) (xs : List ℕ) → is_full (flags begins pattern xs) ≡ reached pattern begins xs
unfolding reached after_item is_full
full-is [] begins xs = ap is_full (flags-none begins xs)
full-is ((class, One) ∷ items) begins xs =
    ap is_full (flags-one class items begins xs) ∙ full-before items _ xs _ ∙ full-is items (after_one class begins) xs
full-is ((class, Optional) ∷ items) begins xs =
    ap is_full (flags-optional class items begins xs) ∙ full-before items _ xs _ ∙ full-is items (after_optional class begins) xs
full-is ((class, Star) ∷ items) begins xs =
    ap is_full (flags-star class items begins xs) ∙ full-before items _ xs _ ∙ full-is items (after_star class begins) xs
full-is ((class, Pairs) ∷ items) begins xs =
    let next : Begins = λ ys. (after_pairs class begins ys).0 in
    let (c, (live, is)) = some-flags items next xs in
    ap is_full (flags-pairs class items begins xs)
    ∙ ap (λ all. is_full ((after_pairs class begins xs).0 ∷ ((after_pairs class begins xs).1 ∷ all))) is
    ∙ sym (ap (λ all. is_full ((after_pairs class begins xs).1 ∷ all)) is)
    ∙ full-before items next xs _ ∙ full-is items next xs

-- ---- an item

or-left : (a b : Bool) → a ≡ true → (a || b) ≡ true
or-left a b h = ap (λ a. a || b) h

or-right : (a b : Bool) → b ≡ true → (a || b) ≡ true
or-right true b h = refl
or-right false b h = h

or-false : (a : Bool) → (a || false) ≡ true → a ≡ true
or-false true h = refl
or-false false h = h

-- where something may begin after an item, symbols that fit it stand before
abbrev Stood : ℕ → Count → Begins → List ℕ → Type 0
Stood class count begins xs = (own past : List ℕ) × ((xs ≡ own ++ past) × (FitsItem class count own × (begins past ≡ true)))

star-stood : (class : ℕ) (begins : Begins) (xs : List ℕ) → after_star class begins xs ≡ true → Stood class Star begins xs
unfolding after_star
star-stood class begins [] h = ([], [], (refl, (tt, or-false _ h)))
star-stood class begins (x ∷ xs) h =
    elim (or_cases (begins (x ∷ xs)) _ h) [
      | inl here ↦ ([], x ∷ xs, (refl, (tt, here)))
      | inr on ↦
          let parts = and_parts (after_star class begins xs) (has class x) on in
          let (own, past, (is, (fits, may))) = star-stood class begins xs parts.0 in
          (x ∷ own, past, (ap (λ ys. x ∷ ys) is, ((parts.1, fits), may)))
    ]

-- of pairs, and of half of one more, whose nearest symbol is apart
abbrev HalfStood : ℕ → Begins → List ℕ → Type 0
HalfStood class begins xs = (x : ℕ) × ((own past : List ℕ) × ((xs ≡ x ∷ (own ++ past)) × ((has class x ≡ true) × (EachPair class own × (begins past ≡ true)))))

pairs-stood : (class : ℕ) (begins : Begins) (xs : List ℕ)
    → ((after_pairs class begins xs).0 ≡ true → Stood class Pairs begins xs) × ((after_pairs class begins xs).1 ≡ true → HalfStood class begins xs)
unfolding after_pairs
pairs-stood class begins [] = (λ h. ([], [], (refl, (tt, or-false _ h))), λ h. let no : false ≡ true = h in cc)
pairs-stood class begins (x ∷ xs) =
    let further = pairs-stood class begins xs in
    let past = after_pairs class begins xs in (
      λ h. elim (or_cases (begins (x ∷ xs)) _ h) [
        | inl here ↦ ([], x ∷ xs, (refl, (tt, here)))
        | inr on ↦
            let parts = and_parts past.1 (has class x) on in
            let (y, (own, past, (is, (one, (fits, may))))) = further.1 parts.0 in
            (x ∷ (y ∷ own), past, (ap (λ ys. x ∷ ys) is, (((parts.1, one), fits), may)))
      ],
      λ h.
          let parts = and_parts past.0 (has class x) h in
          let (own, past, (is, (fits, may))) = further.0 parts.0 in
          (x, (own, past, (ap (λ ys. x ∷ ys) is, (parts.1, (fits, may))))),
    )

item-stood : (class : ℕ) (count : Count) (begins : Begins) (xs : List ℕ) → after_item class count begins xs ≡ true → Stood class count begins xs
unfolding after_item after_one after_optional
item-stood class One begins [] h = let no : false ≡ true = h in cc
item-stood class One begins (x ∷ xs) h =
    let parts = and_parts (begins xs) (has class x) h in
    (x ∷ [], xs, (refl, ((x, (refl, parts.1)), parts.0)))
item-stood class Optional begins [] h = ([], [], (refl, (inl refl, or-false _ h)))
item-stood class Optional begins (x ∷ xs) h =
    elim (or_cases (begins (x ∷ xs)) _ h) [
      | inl here ↦ ([], x ∷ xs, (refl, (inl refl, here)))
      | inr on ↦
          let parts = and_parts (begins xs) (has class x) on in
          (x ∷ [], xs, (refl, (inr (x, (refl, parts.1)), parts.0)))
    ]
item-stood class Star begins xs h = star-stood class begins xs h
item-stood class Pairs begins xs h = (pairs-stood class begins xs).0 h

star-here : (class : ℕ) (begins : Begins) (xs : List ℕ) → begins xs ≡ true → after_star class begins xs ≡ true
unfolding after_star
star-here class begins [] h = or-left _ _ h
star-here class begins (x ∷ xs) h = or-left _ _ h

star-from : (class : ℕ) (begins : Begins) (own past : List ℕ) → Each class own → begins past ≡ true → after_star class begins (own ++ past) ≡ true
unfolding after_star
star-from class begins [] past fits may = star-here class begins past may
star-from class begins (x ∷ own) past fits may = or-right _ _ (and_from _ _ (star-from class begins own past fits.1 may) fits.0)

pairs-here : (class : ℕ) (begins : Begins) (xs : List ℕ) → begins xs ≡ true → (after_pairs class begins xs).0 ≡ true
unfolding after_pairs
pairs-here class begins [] h = or-left _ _ h
pairs-here class begins (x ∷ xs) h = or-left _ _ h

pairs-from : (class : ℕ) (begins : Begins) (own past : List ℕ) → EachPair class own → begins past ≡ true → (after_pairs class begins (own ++ past)).0 ≡ true
unfolding after_pairs
pairs-from class begins [] past fits may = pairs-here class begins past may
pairs-from class begins (x ∷ []) past fits may = absurd fits
pairs-from class begins (x ∷ (y ∷ own)) past fits may =
    or-right _ _ (and_from _ _ (and_from _ _ (pairs-from class begins own past fits.1 may) fits.0.1) fits.0.0)

optional-here : (class : ℕ) (begins : Begins) (xs : List ℕ) → begins xs ≡ true → after_optional class begins xs ≡ true
unfolding after_optional
optional-here class begins [] h = or-left _ _ h
optional-here class begins (x ∷ xs) h = or-left _ _ h

item-from : (class : ℕ) (count : Count) (begins : Begins) (own past : List ℕ) → FitsItem class count own → begins past ≡ true
    → after_item class count begins (own ++ past) ≡ true
unfolding after_item after_one after_optional
item-from class One begins own past (x, (is, one)) may =
    ap (λ ys. after_one class begins (ys ++ past)) is ∙ and_from _ _ may one
item-from class Optional begins own past (inl is) may =
    ap (λ ys. after_optional class begins (ys ++ past)) is ∙ optional-here class begins past may
item-from class Optional begins own past (inr (x, (is, one))) may =
    ap (λ ys. after_optional class begins (ys ++ past)) is ∙ or-right _ _ (and_from _ _ may one)
item-from class Star begins own past fits may = star-from class begins own past fits may
item-from class Pairs begins own past fits may = pairs-from class begins own past fits may

-- ---- a pattern

-- the nearest symbols fit a pattern, and it may begin before them
abbrev pub Matches : (List ℕ → Bool) → Pattern → List ℕ → Type 0
Matches begins pattern xs = (own past : List ℕ) × ((xs ≡ own ++ past) × (Fits pattern own × (begins past ≡ true)))

reached-matches : (pattern : Pattern) (begins : Begins) (xs : List ℕ) → reached pattern begins xs ≡ true → Matches begins pattern xs
unfolding reached
reached-matches [] begins xs h = ([], xs, (refl, (refl, h)))
reached-matches ((class, count) ∷ items) begins xs h =
    let (later, past, (is, (fits, may))) = reached-matches items (after_item class count begins) xs h in
    let (own, before, (stands, (fit, begun))) = item-stood class count begins past may in (
      later ++ own,
      before,
      (is ∙ ap (λ ys. later ++ ys) stands ∙ sym (append_assoc later own before), ((later, own, (refl, (fit, fits))), begun)),
    )

matches-reached : (pattern : Pattern) (begins : Begins) (own past : List ℕ) → Fits pattern own → begins past ≡ true → reached pattern begins (own ++ past) ≡ true
unfolding reached
matches-reached [] begins own past fits may = ap (λ ys. begins (ys ++ past)) fits ∙ may
matches-reached ((class, count) ∷ items) begins own past (later, mine, (is, (fit, fits))) may =
    ap (reached items (after_item class count begins)) (ap (λ ys. ys ++ past) is ∙ append_assoc later mine past)
    ∙ matches-reached items (after_item class count begins) later (mine ++ past) fits (item-from class count begins mine past fit may)

-- Law: the last flag is true where a pattern matches
pub full-matches : (pattern : Pattern) (begins : List ℕ → Bool) (xs : List ℕ) → is_full (flags begins pattern xs) ≡ true → Matches begins pattern xs
full-matches pattern begins xs h = reached-matches pattern begins xs (sym (full-is pattern begins xs) ∙ h)

pub matches-full : (pattern : Pattern) (begins : List ℕ → Bool) (xs : List ℕ) → Matches begins pattern xs → is_full (flags begins pattern xs) ≡ true
matches-full pattern begins xs (own, past, (is, (fits, may))) =
    full-is pattern begins xs ∙ ap (reached pattern begins) is ∙ matches-reached pattern begins own past fits may

-- Law: a left side: some of the nearest symbols fit it
pub left-full : (pattern : Pattern) (xs : List ℕ) → is_full (left_flags pattern xs) ≡ true
    → (own past : List ℕ) × ((xs ≡ own ++ past) × Fits pattern own)
left-full pattern xs h = let (own, past, (is, (fits, may))) = full-matches pattern (λ past. true) xs h in (own, past, (is, fits))

pub left-from : (pattern : Pattern) (own past : List ℕ) → Fits pattern own → is_full (left_flags pattern (own ++ past)) ≡ true
left-from pattern own past fits = matches-full pattern (λ past. true) (own ++ past) (own, past, (refl, (fits, refl)))

nothing-is : (xs : List ℕ) → is_nothing xs ≡ true → xs ≡ []
nothing-is [] h = refl
nothing-is (x ∷ xs) h = let no : false ≡ true = h in cc

-- Law: a right side: all symbols from the place on fit it
pub right-full : (pattern : Pattern) (xs : List ℕ) → is_full (right_flags pattern xs) ≡ true → Fits pattern xs
right-full pattern xs h =
    let (own, past, (is, (fits, may))) = full-matches pattern is_nothing xs h in
    subst (Fits pattern) (sym (is ∙ ap (λ ys. own ++ ys) (nothing-is past may) ∙ append-nil own)) fits

pub right-from : (pattern : Pattern) (xs : List ℕ) → Fits pattern xs → is_full (right_flags pattern xs) ≡ true
right-from pattern xs fits = matches-full pattern is_nothing xs (xs, [], (sym (append-nil xs), (fits, refl)))

-- ---- right sides, as far as they are read

turned : (x : ℕ) (own were_read : List ℕ) → reverse (x ∷ own) ++ were_read ≡ reverse own ++ (x ∷ were_read)
turned x own were_read = ap (λ past. past ++ were_read) (reverse-append (x ∷ []) own) ∙ append_assoc (reverse own) (x ∷ []) were_read

right-some : (pattern : Pattern) (were_read coming : List ℕ) → right_fits pattern were_read coming ≡ true
    → (own after : List ℕ) × ((coming ≡ own ++ after) × Fits pattern (reverse own ++ were_read))
unfolding right_fits
right-some pattern were_read [] h = ([], [], (refl, right-full pattern were_read h))
right-some pattern were_read (x ∷ coming) h =
    elim (or_cases (is_full (right_flags pattern were_read)) _ h) [
      | inl here ↦ ([], x ∷ coming, (refl, right-full pattern were_read here))
      | inr later ↦
          let (own, after, (is, fits)) = right-some pattern (x ∷ were_read) coming later in
          (x ∷ own, after, (ap (λ ys. x ∷ ys) is, subst (Fits pattern) (sym (turned x own were_read)) fits))
    ]

right-here : (pattern : Pattern) (were_read coming : List ℕ) → is_full (right_flags pattern were_read) ≡ true → right_fits pattern were_read coming ≡ true
unfolding right_fits
right-here pattern were_read [] h = h
right-here pattern were_read (x ∷ coming) h = or-left _ _ h

some-right : (pattern : Pattern) (were_read own after : List ℕ) → Fits pattern (reverse own ++ were_read) → right_fits pattern were_read (own ++ after) ≡ true
unfolding right_fits
some-right pattern were_read [] after fits = right-here pattern were_read after (right-from pattern were_read fits)
some-right pattern were_read (x ∷ own) after fits =
    or-right _ _ (some-right pattern (x ∷ were_read) own after (subst (Fits pattern) (turned x own were_read) fits))

-- Law: a right side fits what comes: some of the first symbols fit it
pub right-fits : (pattern : Pattern) (coming : List ℕ) → right_fits pattern [] coming ≡ true
    → (own after : List ℕ) × ((coming ≡ own ++ after) × Fits pattern (reverse own))
right-fits pattern coming h =
    let (own, after, (is, fits)) = right-some pattern [] coming h in
    (own, after, (is, subst (Fits pattern) (append-nil (reverse own)) fits))

pub fits-right : (pattern : Pattern) (own after : List ℕ) → Fits pattern (reverse own) → right_fits pattern [] (own ++ after) ≡ true
fits-right pattern own after fits = some-right pattern [] own after (subst (Fits pattern) (sym (append-nil (reverse own))) fits)

-- Law: a row fits just where both its sides do
pub row-fits : (row : Row) (before after : List ℕ) → (row_fits row before after ≡ true) ↔ (EndsIn row.left before × BeginsWith row.right after)
row-fits row before after = (
  λ h. let p = and_parts (left_fits row.left before) _ h in (left-full row.left before p.0, right-fits row.right after p.1),
  λ h.
      let ((own, past, (left, fits)), (mine, rest, (right, begins))) = h in
      and_from (left_fits row.left before) (right_fits row.right [] after)
      (ap (λ xs. left_fits row.left xs) left ∙ left-from row.left own past fits)
      (ap (λ xs. right_fits row.right [] xs) right ∙ fits-right row.right mine rest begins),
)
