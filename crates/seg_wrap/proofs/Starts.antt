-- The boundaries of a text after its start are places where it may be cut.
use Rattle.std.proofs.Common.{◌≡◌, ℕ, ◌≤◌, List, [], ◌∷◌, length, drop, map, sym, ap, ◌∙◌, subst, arith}
use Rattle.std.specs.Prelude.{Option, Some, None}
use Rattle.seg_text.specs.declared.boundary.Boundary.{Boundary}
use Rattle.seg_text.specs.Boundaries.{GivesNext, IsCover, Remainder, RisesTo, boundaries_in, boundary_in}
use Rattle.seg_text.specs.Items.{IsRising, Text, code_points, rest_after, start_of}
use Rattle.seg_text.proofs.Places.{IsRising-drop}
use Rattle.seg_wrap.specs.Walk.{AreCuts}
use Rattle.seg_wrap.specs.Wrapping.{count_before, rest_from}
use Rattle.seg_wrap.proofs.Texts.{IsTextOf}
use Rattle.seg_wrap.proofs.Places.{none-left, place-within, rest-at, rest-on, some-before}

cuts-from : (text : Text) (counted : List Boundary) (from : ℕ) → IsRising text.items text.end → from ≡ start_of (rest_from from text)
    → RisesTo from (map (boundary_in text) counted) text.end → AreCuts (rest_from from text) (map (boundary_in text) counted)
unfolding AreCuts
cuts-from text [] from rises at ends =
    none-left (rest_from from text).items text.end (IsRising-drop text.items text.end (count_before from text) rises) (sym at ∙ ends)
cuts-from text (one ∷ counted) from rises at climbs =
    let place : ℕ = (boundary_in text one).offset in
    let on : rest_from place (rest_from from text) ≡ rest_from place text = rest-on text from place (omega (arith, climbs.0)) in
    let here : rest_from place text ≡ rest_after one.offset text = rest-at text one.offset rises in
    let within : place ≤ text.end = place-within (rest_after one.offset text).items text.end (IsRising-drop text.items text.end one.offset rises) in (
      some-before (rest_from from text).items text.end place within (omega (arith, at, climbs.0)),
      (
        ap start_of (sym (on ∙ here)),
        subst (λ (t : Text). AreCuts t (map (boundary_in text) counted)) (sym on)
            (cuts-from text counted place rises (ap start_of (sym here)) climbs.1),
      ),
    )

-- where the start was given, the others are left, and the text may be cut at them
pub after-start : (text : Text) (counted : List Boundary) (before after : Remainder) (given : Option ℕ) → IsRising text.items text.end
    → before.left ≡ map (boundary_in text) counted → IsCover (start_of text) text.end before.left → GivesNext before given after
    → (after.left ≡ drop 1 before.left) × AreCuts text after.left
after-start text counted before after given rises left cover gives = on given gives counted (rw left at cover) left
  where
    on : (given : Option ℕ) → GivesNext before given after → (counted : List Boundary) → IsCover (start_of text) text.end (map (boundary_in text) counted)
        → before.left ≡ map (boundary_in text) counted → (after.left ≡ drop 1 before.left) × AreCuts text after.left
    on given gives [] cover left = absurd cover
    on None gives (one ∷ counted) cover left = absurd (omega (arith, ap length (sym left ∙ gives.0)))
    on (Some place) gives (one ∷ counted) cover left =
        let rest : after.left ≡ map (boundary_in text) counted = ap (drop 1) (sym gives ∙ left) in
        let whole : rest_from (start_of text) text ≡ text = rest-at text 0 rises in (
          ap (drop 1) (sym gives),
          rw rest (subst (λ (t : Text). AreCuts t (map (boundary_in text) counted)) whole
              (cuts-from text counted (start_of text) rises (ap start_of (sym whole)) cover.1)),
        )

-- the first step over a text that stands in some units leaves its cuts
pub after-first : (units : List ℕ) (text : Text) (find : List ℕ → List Boundary) (before after : Remainder) (given : Option ℕ) → IsTextOf units text
    → before.left ≡ boundaries_in find text → IsCover 0 (length units) before.left → GivesNext before given after
    → (after.left ≡ drop 1 before.left) × AreCuts text after.left
after-first units text find before after given is left cover gives =
    after-start text (find (code_points text.items)) before after given is.rises left (rw (is.start, is.end) cover) gives
