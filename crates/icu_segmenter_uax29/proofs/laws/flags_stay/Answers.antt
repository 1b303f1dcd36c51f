use Rattle.icu_segmenter_uax29.proofs.Sequences.{flag-joined}
use Rattle.icu_segmenter_uax29.proofs.laws.flags_stay.Goals as goal

pub returns : goal.returns
returns c = flag-joined
