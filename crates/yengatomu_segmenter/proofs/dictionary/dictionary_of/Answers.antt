use Rattle.std.proofs.Common.{ap, subst, ◌∙◌}
use Rattle.icu_segmenter.specs.ScriptWords.{words_of}
use Rattle.icu_segmenter.specs.WordSets.{IsSameSet, Words, code_points_of_each}
use Rattle.yengatomu_segmenter.proofs.dictionary.dictionary_of.Goals as goal

pub returns-in-Ok-clause-words : goal.returns-in-Ok-clause-words
returns-in-Ok-clause-words c =
    let texts = c.in_ok-texts.ensures.texts in
    (subst (λ (codes : Words). IsSameSet (words_of c.in-Ok.dictionary) codes) (ap code_points_of_each c.as_slice.ensures.value ∙ texts.0) c.in-Ok.ensures.words, texts.1)
