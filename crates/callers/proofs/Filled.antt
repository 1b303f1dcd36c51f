-- The next end of a line.
use Rattle.std.proofs.Common.{◌≡◌, ℕ, ◌<◌, ◌≤◌, ◌==◌, Bool, true, false, List, [], ◌∷◌, ◌++◌, append_assoc, append-nil, nat_lt, sym, ap, ◌∙◌, arith}
use Rattle.std.specs.Prelude.{if◌then◌else◌}
use Rattle.std.proofs.lemmas.Bool.{false_from_ne_true, lt-ltb, ltb-true}
use Rattle.icu_segmenter.specs.Boundary.{Boundary}
use Rattle.callers.specs.LineEnds.{ends_after, ends_there, line_ends}

module _ (width begin reached : ℕ) (must : Bool) (next : Boundary) (before left : List Boundary) (ends sum : List ℕ) (is : before ≡ next ∷ left)
    (all : ends ++ ends_after width begin reached must before ≡ sum) where
  abbrev ended : List ℕ
  ended = reached ∷ ends_after width reached next.offset (next.status == 1) left

  abbrev going : List ℕ
  going = ends_after width begin next.offset (next.status == 1) left

  pub line-ended : ends_there width begin reached must next.offset ≡ true
      → (ends ++ reached ∷ []) ++ ends_after width reached next.offset (next.status == 1) left ≡ sum
  line-ended there =
      append_assoc ends (reached ∷ []) (ends_after width reached next.offset (next.status == 1) left)
      ∙ ap (λ b. ends ++ (if b then ended else going)) (sym there)
      ∙ ap (λ (before : List Boundary). ends ++ ends_after width begin reached must before) (sym is) ∙ all

  pub line-going : ends_there width begin reached must next.offset ≡ false → ends ++ ends_after width begin next.offset (next.status == 1) left ≡ sum
  line-going there =
      ap (λ b. ends ++ (if b then ended else going)) (sym there)
      ∙ ap (λ (before : List Boundary). ends ++ ends_after width begin reached must before) (sym is) ∙ all

module _ (width begin reached : ℕ) (must : Bool) (left all : List Boundary) (ends : List ℕ) (is : left ≡ [])
    (sum : ends ++ ends_after width begin reached must left ≡ line_ends width all) where
  pub last-line : begin < reached → ends ++ reached ∷ [] ≡ line_ends width all
  last-line there =
      ap (λ b. ends ++ (if b then reached ∷ [] else [])) (sym (lt-ltb begin reached there))
      ∙ ap (λ (left : List Boundary). ends ++ ends_after width begin reached must left) (sym is) ∙ sum

  pub no-line : reached ≤ begin → ends ≡ line_ends width all
  no-line there =
      sym (append-nil ends)
      ∙ ap (λ b. ends ++ (if b then reached ∷ [] else [])) (sym (false_from_ne_true (nat_lt begin reached) (λ is. absurd (omega (arith, there, ltb-true begin reached is)))))
      ∙ ap (λ (left : List Boundary). ends ++ ends_after width begin reached must left) (sym is) ∙ sum
