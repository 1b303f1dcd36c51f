use Rattle.icu_segmenter_uax29.proofs.Sequences.{conjunct-joined}
use Rattle.icu_segmenter_uax29.proofs.laws.conjuncts_stay.Goals as goal

pub returns : goal.returns
returns c = conjunct-joined
