-- What came so far are parts, and what is held; nothing is written.
use Rattle.std.proofs.Common.{◌≡◌}
use Rattle.std.specs.Option.{option_map}
use Rattle.segment_output.specs.TextSegmenter.{boundaries_by}
use Rattle.segment_output.proofs.SplitParts.{IsUnderWay}
use Rattle.segment_output.proofs.splits.print_splits.Given as goal

abbrev pub invariant-reads : goal.invariant-reads
invariant-reads g l =
    IsUnderWay (boundaries_by l.parts.segmenter.now) l.parts.least (option_map (λ name. name.now) l.parts.file) (g.I.Read.remaining l.fn.input) (g.I.Read.remaining l.input) l.split
    × (l.out ≡ l.fn.out)
