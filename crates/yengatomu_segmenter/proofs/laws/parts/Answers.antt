use Rattle.std.proofs.Common.{subst}
use Rattle.icu_segmenter.specs.LineBreaks.{LineRules, LinesResetAfter, line_boundaries_by}
use Rattle.icu_segmenter.specs.Rules.{PartsTexts, ResetsAfter, Rules, boundaries_by}
use Rattle.icu_segmenter.specs.WordRules.{WordRules, WordsResetAfter, word_boundaries_by}
use Rattle.yengatomu_segmenter.proofs.laws.parts.Goals as goal

pub returns-in-Clusters : goal.returns-in-Clusters
returns-in-Clusters c =
    rw c.in-Clusters.is (λ reset. subst (λ (rules : Rules). ResetsAfter rules 0x0A → PartsTexts (boundaries_by rules) 0x0A) c.as_borrowed.ensures c.parts_behind_resets.ensures reset)

pub returns-in-Words : goal.returns-in-Words
returns-in-Words c =
    rw c.in-Words.is (λ reset. subst (λ (rules : WordRules). WordsResetAfter rules 0x0A → PartsTexts (word_boundaries_by rules) 0x0A) c.as_borrowed-in-Words.ensures c.parts_behind_resets-in-Words.ensures (reset _))

pub returns-in-Lines : goal.returns-in-Lines
returns-in-Lines c =
    rw c.in-Lines.is (λ reset. subst (λ (rules : LineRules). LinesResetAfter rules 0x0A → PartsTexts (line_boundaries_by rules) 0x0A) c.as_borrowed-in-Lines.ensures c.parts_behind_resets-in-Lines.ensures (reset _))
