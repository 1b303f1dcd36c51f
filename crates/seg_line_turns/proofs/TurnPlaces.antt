-- Items of a text as they are read, one after another.
use Rattle.std.proofs.Common.{◌≡◌, ℕ, suc, ◌+◌, ◌-◌, true, false, Option, Some, None, List, [], ◌∷◌, length, drop, refl, sym, ap, ◌∙◌, arith}
use Rattle.std.proofs.lemmas.List.{drop-drop}
use Rattle.std.specs.Option.{option_map, option_map_or}
use Rattle.seg_text.specs.Items.{Item, Text, start_of, rest_after, code_points}
use Rattle.seg_line_pairs.specs.LineRules.{TableRules, line_class}
use Rattle.seg_line_pairs.specs.LineUnits.{is_mark}
use Rattle.seg_line_pairs.specs.declared.engines.LineEngine.TheVariants.{Seventeen}
use Rattle.seg_line_turns.specs.declared.bases.BaseAhead.{BaseAhead}
use Rattle.seg_line_turns.specs.TurnPlaces.{item_place, IsBaseOf}
use Rattle.seg_line_turns.specs.Turns.{next_base}

-- the next item of what is left, and what is left after it
pub record NextOf (whole after : Text) (number place : ℕ) : Type 0 where
  pub place_is : place ≡ item_place number whole
  pub after_is : after ≡ rest_after (suc number) whole

pub next-of : (whole rest after : Text) (number : ℕ) (item : Item) → rest ≡ rest_after number whole → rest.items ≡ item ∷ after.items → after.end ≡ rest.end
    → NextOf whole after number item.0
next-of whole rest after number item is items end =
    let one : number + 1 ≡ suc number = omega arith in
    let left : after.items ≡ drop (suc number) whole.items =
    ap (drop 1) (sym items ∙ ap (λ (t : Text). t.items) is) ∙ drop-drop 1 number whole.items ∙ ap (λ n. drop n whole.items) one in
    let same : after.end ≡ whole.end = end ∙ ap (λ (t : Text). t.end) is in
    record {
      place_is = ap (λ (items : List Item). start_of (record { items = items; end = rest.end })) (sym items) ∙ ap start_of is;
      after_is = rw (← left, ← same) refl;
    }

-- nothing is left: its place is that of the end
pub end-of : (whole rest after : Text) (number place : ℕ) → rest ≡ rest_after number whole → rest.items ≡ [] → after.items ≡ [] → after.end ≡ rest.end → place ≡ start_of after
    → place ≡ item_place number whole
end-of whole rest after number place is none empty end place_is =
    place_is ∙ ap (λ (items : List Item). start_of (record { items = items; end = after.end })) (empty ∙ sym none) ∙ ap (λ n. start_of (record { items = rest.items; end = n })) end ∙ ap start_of is

-- what stands so far behind what is left stands behind the whole
pub place-past : (whole rest : Text) (number more : ℕ) → rest ≡ rest_after number whole → item_place more rest ≡ item_place (number + more) whole
place-past whole rest number more is =
    ap (item_place more) is ∙ ap (λ (items : List Item). start_of (record { items = items; end = whole.end })) (drop-drop more number whole.items)

pub base-past : (whole rest : Text) (number more place : ℕ) → place ≡ item_place more rest → rest ≡ rest_after (suc number) whole → place ≡ item_place (number + suc more) whole
base-past whole rest number more place at is =
    let sum : suc number + more ≡ number + suc more = omega arith in
    at ∙ place-past whole rest (suc number) more is ∙ ap (λ n. item_place n whole) sum

module _ (rules : TableRules Seventeen) (whole : Text) where
  -- marks were read, and what is left has the base
  pub record IsLooking (ahead : Text) (last : ℕ) : Type 0 where
    pub passed : ℕ
    pub rest : ahead ≡ rest_after passed whole
    pub last_is : last ≡ item_place (passed - 1) whole
    pub base : next_base rules (code_points whole.items)
        ≡ option_map {U = ℕ × ℕ} (λ (found : ℕ × ℕ). (passed + found.0, found.1)) (next_base rules (code_points ahead.items))
    pub sum : length (code_points whole.items) ≡ passed + length (code_points ahead.items)

  mark-base : (item : ℕ) (items : List ℕ) → is_mark Seventeen (line_class rules item) ≡ true
      → next_base rules (item ∷ items) ≡ option_map {U = ℕ × ℕ} (λ (found : ℕ × ℕ). (suc found.0, found.1)) (next_base rules items)
  unfolding next_base
  mark-base item items mark = rw mark (on (next_base rules items))
    where
      on : (found : Option (ℕ × ℕ)) → option_map_or {U = Option (ℕ × ℕ)} (λ (found : ℕ × ℕ). Some (suc found.0, found.1)) found None ≡ option_map {U = ℕ × ℕ} (λ (found : ℕ × ℕ). (suc found.0, found.1)) found
      on None = refl
      on (Some found) = refl

  other-base : (item : ℕ) (items : List ℕ) → is_mark Seventeen (line_class rules item) ≡ false → next_base rules (item ∷ items) ≡ Some (0, line_class rules item)
  unfolding next_base
  other-base item items other = rw other refl

  no-base : next_base rules [] ≡ None
  unfolding next_base
  no-base = refl

  twice : (passed : ℕ) (found : Option (ℕ × ℕ))
      → option_map {U = ℕ × ℕ} (λ (found : ℕ × ℕ). (passed + found.0, found.1)) (option_map {U = ℕ × ℕ} (λ (found : ℕ × ℕ). (suc found.0, found.1)) found)
      ≡ option_map {U = ℕ × ℕ} (λ (found : ℕ × ℕ). (suc passed + found.0, found.1)) found
  twice passed None = refl
  twice passed (Some (k, class)) = let more : passed + suc k ≡ suc passed + k = omega arith in ap (λ n. Some (n, class)) more

  pub looking-next : (ahead after : Text) (item : Item) (last : ℕ) → IsLooking ahead last → ahead.items ≡ item ∷ after.items → after.end ≡ ahead.end
      → is_mark Seventeen (line_class rules item.1) ≡ true → IsLooking after item.0
  looking-next ahead after item last looking items end mark =
      let next = next-of whole ahead after looking.passed item looking.rest items end in
      let before : looking.passed ≡ suc looking.passed - 1 = omega arith in
      let points : code_points ahead.items ≡ item.1 ∷ code_points after.items = ap code_points items in
      let long = ap length points in
      record {
        passed = suc looking.passed;
        rest = next.after_is;
        last_is = next.place_is ∙ ap (λ n. item_place n whole) before;
        base = looking.base
            ∙ ap (option_map {U = ℕ × ℕ} (λ (found : ℕ × ℕ). (looking.passed + found.0, found.1))) (ap (next_base rules) points ∙ mark-base item.1 (code_points after.items) mark)
            ∙ twice looking.passed (next_base rules (code_points after.items));
        sum = omega (arith, looking.sum, long);
      }

  pub looking-found : (ahead after : Text) (item : Item) (last : ℕ) (found : BaseAhead) → IsLooking ahead last → ahead.items ≡ item ∷ after.items → after.end ≡ ahead.end
      → is_mark Seventeen (line_class rules item.1) ≡ false → found.class ≡ Some (line_class rules item.1) → found.place ≡ item.0 → IsBaseOf rules whole found
  looking-found ahead after item last found looking items end other class place =
      let next = next-of whole ahead after looking.passed item looking.rest items end in
      let base : next_base rules (code_points whole.items) ≡ Some (looking.passed + 0, line_class rules item.1) =
      looking.base
      ∙ ap (option_map {U = ℕ × ℕ} (λ (found : ℕ × ℕ). (looking.passed + found.0, found.1))) (ap (next_base rules) (ap code_points items) ∙ other-base item.1 (code_points after.items) other) in
      let none : looking.passed ≡ looking.passed + 0 = omega arith in
      record {
        class = class ∙ ap (option_map (λ (base : ℕ × ℕ). base.1)) (sym base);
        place = place ∙ next.place_is ∙ ap (λ n. item_place n whole) (none ∙ ap (λ (base : Option (ℕ × ℕ)). option_map_or (λ (found : ℕ × ℕ). found.0) base (length (code_points whole.items) - 1)) (sym base));
      }

  pub looking-end : (ahead : Text) (last : ℕ) (found : BaseAhead) → IsLooking ahead last → ahead.items ≡ [] → found.class ≡ None → found.place ≡ last → IsBaseOf rules whole found
  looking-end ahead last found looking none class place =
      let base : next_base rules (code_points whole.items) ≡ None =
      looking.base ∙ ap (option_map {U = ℕ × ℕ} (λ (found : ℕ × ℕ). (looking.passed + found.0, found.1))) (ap (next_base rules) (ap code_points none) ∙ no-base) in
      let long = ap length (ap code_points none) in
      let at : looking.passed - 1 ≡ length (code_points whole.items) - 1 = omega (arith, looking.sum, long) in
      record {
        class = class ∙ ap (option_map (λ (base : ℕ × ℕ). base.1)) (sym base);
        place = place ∙ looking.last_is ∙ ap (λ n. item_place n whole) (at ∙ ap (λ (base : Option (ℕ × ℕ)). option_map_or (λ (found : ℕ × ℕ). found.0) base (length (code_points whole.items) - 1)) (sym base));
      }
