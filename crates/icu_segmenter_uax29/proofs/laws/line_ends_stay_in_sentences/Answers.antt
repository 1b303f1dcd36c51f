use Rattle.icu_segmenter_uax29.proofs.SentenceSequences.{line-end-joined}
use Rattle.icu_segmenter_uax29.proofs.laws.line_ends_stay_in_sentences.Goals as goal

pub returns : goal.returns
returns c = line-end-joined
