-- The items that a text begins with and that pass a test, as far as they are read.
use Rattle.std.proofs.Common.{true, Bool, ◌≡◌, ℕ, suc, ◌+◌, ◌-◌, ◌∷◌, drop, refl, sym, ap, ◌∙◌, arith}
use Rattle.std.proofs.lemmas.List.{drop-drop}
use Rattle.seg_text.specs.Items.{Item, Text, start_of, rest_after, prefix_length}

abbrev run : (ℕ → Bool) → Text → ℕ
run passes text = prefix_length passes text

-- so many items were read, all of which pass, `left` is what is left of the text, and `last` where the last of them begins
pub record IsRunning (passes : ℕ → Bool) (whole left : Text) (last : ℕ) : Type 0 where
  pub passed : ℕ
  pub rest : left ≡ rest_after passed whole
  pub sum : run passes whole ≡ passed + run passes left
  pub last_is : last ≡ start_of (rest_after (passed - 1) whole)

pub running-next : (passes : ℕ → Bool) (whole left after : Text) (item : Item) (last place : ℕ) → IsRunning passes whole left last → place ≡ start_of left
    → left.items ≡ item ∷ after.items → after.end ≡ left.end → passes item.1 ≡ true → IsRunning passes whole after place
running-next passes whole left after item last place running place_is is end complex =
    let one : suc running.passed ≡ running.passed + 1 = omega arith in
    let items : after.items ≡ drop (suc running.passed) whole.items =
    ap (drop 1) (sym is ∙ ap (λ (t : Text). t.items) running.rest) ∙ drop-drop 1 running.passed whole.items ∙ ap (λ n. drop n whole.items) (sym one) in
    let same : after.end ≡ whole.end = end ∙ ap (λ (t : Text). t.end) running.rest in
    let here : run passes left ≡ 1 + run passes after = rw (is, complex) refl in
    record {
      passed = suc running.passed;
      rest = rw (← items, ← same) refl;
      sum = omega (arith, running.sum, here);
      last_is = let before : running.passed ≡ suc running.passed - 1 = omega arith in place_is ∙ ap start_of running.rest ∙ ap (λ n. start_of (rest_after n whole)) before;
    }
