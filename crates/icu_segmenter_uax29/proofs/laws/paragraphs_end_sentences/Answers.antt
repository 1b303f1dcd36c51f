use Rattle.icu_segmenter_uax29.proofs.SentenceSequences.{return-ends, separator-ends}
use Rattle.icu_segmenter_uax29.proofs.laws.paragraphs_end_sentences.Goals as goal

pub returns-clause-separators : goal.returns-clause-separators
returns-clause-separators c = separator-ends

pub returns-clause-returns : goal.returns-clause-returns
returns-clause-returns c = return-ends
