use Rattle.icu_segmenter_uax29.proofs.Sequences.{emoji-joined}
use Rattle.icu_segmenter_uax29.proofs.laws.emoji_sequences_stay.Goals as goal

pub returns : goal.returns
returns c = emoji-joined
