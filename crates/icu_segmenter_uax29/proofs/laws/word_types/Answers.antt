use Rattle.icu_segmenter_uax29.proofs.TypedBoundaries.{typed-are}
use Rattle.icu_segmenter_uax29.proofs.laws.word_types.Goals as goal

pub returns : goal.returns
returns c = typed-are
