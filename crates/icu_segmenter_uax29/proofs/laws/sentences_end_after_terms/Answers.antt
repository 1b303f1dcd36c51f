use Rattle.icu_segmenter_uax29.proofs.SentenceSequences.{ends-after-term}
use Rattle.icu_segmenter_uax29.proofs.laws.sentences_end_after_terms.Goals as goal

pub returns : goal.returns
returns c = ends-after-term
