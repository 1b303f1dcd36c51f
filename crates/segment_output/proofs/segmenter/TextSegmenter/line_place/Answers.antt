-- What stands up to there are whole lines.
use Rattle.segment_output.specs.TextSegmenter.{boundaries_by}
use Rattle.segment_output.proofs.SplitParts.{split-line}
use Rattle.segment_output.proofs.segmenter.TextSegmenter.line_place.Goals as goal

pub returns-clause-splits : goal.returns-clause-splits
returns-clause-splits c =
    split-line (boundaries_by c.args.self.now) c.args.bytes.now c.split_at.result.0.now c.split_at.result.1.now _ c.in-Some.len c.split_at.ensures.front c.split_at.ensures.back c.in-Some.ensures c.requires
    c.cover.ensures
