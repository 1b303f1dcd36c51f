-- The boundaries up to a certain place are those that the bytes have alone.
use Rattle.segment_output.specs.TextSegmenter.{boundaries_by}
use Rattle.segment_output.proofs.SplitParts.{split-front}
use Rattle.segment_output.proofs.segmenter.TextSegmenter.split_place.Goals as goal

pub returns-in-Some-clause-splits : goal.returns-in-Some-clause-splits
returns-in-Some-clause-splits c =
    split-front (boundaries_by c.args.self.now) c.args.bytes.now c.in-Some.place c.in-Some.ensures.within c.cover.ensures c.in-Some.ensures.splits
