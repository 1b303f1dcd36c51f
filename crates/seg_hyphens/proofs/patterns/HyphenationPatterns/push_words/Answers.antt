use Rattle.std.proofs.Common.{◌≡◌, ◌≢◌, ◌<◌, ◌==◌, ◌⊎◌, inl, inr, true, false, ℕ, List, Vec, Global, length, ap, sym, subst, ◌∙◌, arith}
use Rattle.std.proofs.lemmas.Bool.Decides.{eqb_tells}
use Rattle.seg_text.specs.Items.{rest_after}
use Rattle.seg_hyphens.specs.Words.{PushesWord}
use Rattle.seg_hyphens.proofs.PointPlaces.{pushes-none}
use Rattle.seg_hyphens.proofs.WordPlaces.{walking-none, walking-smaller, walking-next, walking-done}
use Rattle.seg_hyphens.proofs.patterns.HyphenationPatterns.push_words.Goals.{then-not-is_at_end+in_ok-push_word, else-not-is_at_end}
use Rattle.seg_hyphens.proofs.patterns.HyphenationPatterns.push_words.Goals as goal

abbrev items : Vec ℕ Global → List ℕ
items v = v.items

none-of : (n : ℕ) → (n == 0) ≡ true → n ≡ 0
none-of n e = by (eqb_tells n 0) where
  by : (((n == 0) ≡ true) × (n ≡ 0)) ⊎ (((n == 0) ≡ false) × (n ≢ 0)) → n ≡ 0
  by (inl h) = h.1
  by (inr h) = cc

some-of : (n : ℕ) → (n == 0) ≡ false → 0 < n
some-of n e = by (eqb_tells n 0) where
  by : (((n == 0) ≡ true) × (n ≡ 0)) ⊎ (((n == 0) ≡ false) × (n ≢ 0)) → 0 < n
  by (inl h) = absurd cc
  by (inr h) = omega (arith, h.1)

pub words-init : goal.words-init
words-init g c = record { walking = walking-none c.args.self.now _ _ _ (ap g.I.Cursor.text c.fork-rest.ensures) c.requires }

pub words-smaller : goal.words-smaller
words-smaller g c =
    walking-smaller _ _ _ (g.I.Cursor.text c.take_prefix-word.result) _ _ c.words.places.items c.words.invariant.walking
    (some-of (length (g.I.Cursor.text c.words.rest).items) (sym c.is_at_end.ensures ∙ c.words-test.true))
    c.take_prefix-word.ensures.prefix (c.skip_item.ensures ∙ ap (rest_after 1) c.take_prefix-word.ensures.rest)

pub words-preserved : goal.words-preserved
words-preserved g c = record {
  walking = walking-next _ _ _ (g.I.Cursor.text c.take_prefix-word.result) _ _ _ c.words.invariant.walking
      (some-of (length (g.I.Cursor.text c.words.rest).items) (sym c.is_at_end.ensures ∙ c.words-test.true))
      c.take_prefix-word.ensures.prefix (c.skip_item.ensures ∙ ap (rest_after 1) c.take_prefix-word.ensures.rest)
      (elim c.if-not-is_at_end.branch [
        | then-not-is_at_end+in_ok-push_word w ↦
            subst (PushesWord c.args.self.now (g.I.Cursor.text c.take_prefix-word.result) c.words.places.items) (sym (ap items w.places-is)) w.in_ok-push_word.ensures
        | else-not-is_at_end w ↦ pushes-none _ _ _ _ (none-of (length (g.I.Cursor.text c.take_prefix-word.result).items) (sym c.is_at_end-in-words.ensures ∙ w.if-not-is_at_end.false)) (ap items w.places-is)
      ]);
}

pub returns : goal.returns
returns g c =
    walking-done _ _ _ _ c.words.invariant.walking (none-of (length (g.I.Cursor.text c.words.rest).items) (sym c.is_at_end.ensures ∙ c.words-test.false))
