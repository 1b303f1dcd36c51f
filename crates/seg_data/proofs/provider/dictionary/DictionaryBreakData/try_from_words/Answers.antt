use Rattle.std.proofs.Common.{sym, subst, ap, ◌∙◌}
use Rattle.seg_data.specs.WordSets.{IsSameSet, code_points_of_each, held}
use Rattle.seg_data.proofs.provider.dictionary.DictionaryBreakData.try_from_words.Goals as goal

pub returns-clause-words : goal.returns-clause-words
returns-clause-words c =
    subst (λ words. IsSameSet words (code_points_of_each c.args.words.now)) (sym (c.in_ok-draft.ensures.words ∙ ap held c.as_slice.ensures.value)) c.in_ok-sorted.ensures.same
