-- Balanced lines stay in their text, and are written one by one.
use Rattle.std.proofs.Common.{◌≡◌, ℕ, ◌+◌, ◌<◌, ◌≤◌, ◌^◌, List, [], ◌∷◌, length, drop, get_or, map, suc, zero, refl, sym, ap, ◌∙◌, subst, arith}
use Rattle.std.specs.List.{All}
use Rattle.std.specs.Prelude.{IfOk, None, Result, Ok, Err}
use Rattle.std.proofs.lemmas.List.Elements.{All-cons}
use Rattle.icu_segmenter.specs.Items.{IsRising, Text, rest_after}
use Rattle.icu_segmenter.specs.LineBreaks.{LineRules}
use Rattle.icu_segmenter.specs.Paragraphs.{GivesParagraph, ParagraphsLeft, balanced_style, spans_of}
use Rattle.icu_segmenter.specs.WrappedLines.{AreParagraphsOf}
use Rattle.icu_segmenter.specs.Wrapping.{Line, Measure}
use Rattle.seg_text.proofs.Places.{IsRising-drop}
use Rattle.seg_wrap.proofs.Places.{place-within}
use Rattle.seg_wrap.proofs.Texts.{IsTextOf}
use Rattle.seg_wrap.specs.declared.wrap.paragraphs.ParagraphStyle.{ParagraphStyle}
use Rattle.seg_wrap.specs.declared.wrap.wrapping.Span.{Span}
use Rattle.yengatomu_segmenter.specs.Balanced.{GivesFirst}

spans-within : (text : Text) (lines : List Line) → IsRising text.items text.end → All (λ (span : Span). span.end ≤ text.end) (spans_of text lines)
unfolding spans_of
spans-within text [] rises = λ k default below. absurd (omega (arith, below))
spans-within text (line ∷ lines) rises =
    let on = IsRising-drop text.items text.end (length line.characters) rises in
    All-cons (λ (span : Span). span.end ≤ text.end) _ _ (place-within (rest_after (length line.characters) text).items text.end on)
    (spans-within (rest_after (length line.characters) text) lines on)

-- lines of the units behind a place end at places that fit
pub fit-of : (units : List ℕ) (from : ℕ) (text : Text) (before after : ParagraphsLeft) (spans : List Span) → IsTextOf units text → before.text ≡ text
    → from + length units < 2 ^ 64 → GivesParagraph None before spans after → All (λ (span : Span). from + span.end < 2 ^ 64) spans
fit-of units from text before after spans is same fits gives k default below =
    let within : All (λ (span : Span). span.end ≤ text.end) spans
    = subst (λ (found : List Span). All (λ (span : Span). span.end ≤ text.end) found) (sym (gives.stand ∙ ap (λ (t : Text). spans_of t gives.lines) same)) (spans-within text gives.lines is.rises) in
    omega (arith, within k default below, is.end, fits)

pub nothing-fits : (from : ℕ) → All (λ (span : Span). from + span.end < 2 ^ 64) []
nothing-fits from = λ k default below. absurd (omega (arith, below))

-- the next of them
pub next-of : {X : Type 0} (f : Span → X) (spans : List Span) (index : ℕ) (default : Span) → index < length spans
    → drop index (map f spans) ≡ f (get_or spans index default) ∷ drop (index + 1) (map f spans)
next-of f [] index default below = absurd (omega (arith, below))
next-of f (span ∷ spans) zero default below = refl
next-of f (span ∷ spans) (suc index) default below =
    next-of f spans index default (omega (arith, below)) ∙ ap (λ (n : ℕ). f (get_or spans index default) ∷ drop n (map f (span ∷ spans))) one
  where
    one : suc (index + 1) ≡ suc index + 1
    one = omega (arith)

-- what is given is given of the paragraphs that were asked for
pub ok-given : {T E : Type 0} (P Q : T → Type 0) (result : Result T E) → ((found : T) → P found → Q found) → IfOk result P → IfOk result Q
ok-given P Q (Ok found) on given = on found given
ok-given P Q (Err error) on given = given

pub given-of : (decode : List ℕ → Text) (measure : Measure) (rules : LineRules) (columns : ℕ) (style : ParagraphStyle) (units behind : List ℕ) (before after : ParagraphsLeft) (spans : List Span)
    → AreParagraphsOf decode measure rules style units before → style ≡ balanced_style columns → units ≡ behind → GivesParagraph None before spans after
    → GivesFirst decode measure rules columns behind spans
given-of decode measure rules columns style units behind before after spans are style-is units-is gives = record {
  left = before;
  are = rw (← style-is, ← units-is) are;
  after = after;
  gives = gives;
}
