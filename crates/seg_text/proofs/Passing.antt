-- The longest beginning of a text whose code points pass a test, as far as it is read.
use Rattle.std.proofs.Common.{Bool, true, ◌≡◌, ℕ, ◌+◌, ◌∷◌, drop, refl, sym, ap, ◌∙◌, arith}
use Rattle.std.proofs.lemmas.List.{drop-drop}
use Rattle.seg_text.specs.Items.{Item, Text, rest_after, prefix_length}

-- so many items were read, all of which pass, and `left` is what is left of the text
pub record IsPassing (passes : ℕ → Bool) (whole left : Text) : Type 0 where
  pub passed : ℕ
  pub rest : left ≡ rest_after passed whole
  pub sum : prefix_length passes whole ≡ passed + prefix_length passes left

-- one more item is read
next-rest : (whole left after : Text) (item : Item) (n : ℕ) → left ≡ rest_after n whole → left.items ≡ item ∷ after.items → after.end ≡ left.end
    → after ≡ rest_after (1 + n) whole
next-rest whole left after item n rest is end =
    let sum : n + 1 ≡ 1 + n = omega arith in
    let items : after.items ≡ drop (1 + n) whole.items =
    ap (drop 1) (sym is ∙ ap (λ (t : Text). t.items) rest) ∙ drop-drop 1 n whole.items ∙ ap (λ n. drop n whole.items) sum in
    let same : after.end ≡ whole.end = end ∙ ap (λ (t : Text). t.end) rest in
    rw (← items, ← same) refl

pub passing-next : (passes : ℕ → Bool) (whole left after : Text) (item : Item) → IsPassing passes whole left
    → left.items ≡ item ∷ after.items → after.end ≡ left.end → passes item.1 ≡ true → IsPassing passes whole after
passing-next passes whole left after item passing is end pass = record {
  passed = 1 + passing.passed;
  rest = next-rest whole left after item passing.passed passing.rest is end;
  sum = let here : prefix_length passes left ≡ 1 + prefix_length passes after = rw (is, pass) refl in omega (arith, passing.sum, here);
}
