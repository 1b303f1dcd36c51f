use Rattle.std.proofs.Common.{ap, inr, refl, subst, ◌∙◌}
use Rattle.icu_segmenter.specs.Abbreviations.{IsRejection, abbreviations_of}
use Rattle.icu_segmenter.specs.InLines.{AreInLines}
use Rattle.icu_segmenter.specs.WordSets.{IsSameSet, Words, code_points_of_each}
use Rattle.icu_segmenter.specs.declared.suppress.AbbreviationError.{AbbreviationError}
use Rattle.yengatomu_segmenter.proofs.abbreviations.set_of.Goals as goal

pub returns-in-Ok-try_from_words-clause-words : goal.returns-in-Ok-try_from_words-clause-words
returns-in-Ok-try_from_words-clause-words c =
    let texts = c.in-Ok.ensures.texts in
    let same = ap code_points_of_each c.as_slice.ensures.value ∙ texts.0 in
    let made = c.in-Ok-try_from_words.ensures.made in (
      subst (λ (codes : Words). IsSameSet (abbreviations_of c.in-Ok-try_from_words.abbreviations) codes) same made.0,
      (texts.1, subst AreInLines same made.1),
    )

pub returns-clause-rejected : goal.returns-clause-rejected
returns-clause-rejected c =
    let same = ap code_points_of_each c.as_slice.ensures.value ∙ c.in-Ok.ensures.texts.0 in
    let none = subst (λ (why : AbbreviationError). IsRejection (code_points_of_each c.as_slice.result.now) why) c.in-Err-LineFeed.field-0-is c.in-Err-LineFeed.ensures.rejected in
    inr (refl, λ can. subst (λ (codes : Words). AreInLines codes → ⊥) same none can.1)
