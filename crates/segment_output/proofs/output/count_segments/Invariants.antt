-- So many segments have been counted, and it is known whether a place has come.
use Rattle.std.proofs.Common.{◌≡◌, length}
use Rattle.std.specs.Option.{is_some}
use Rattle.segment_output.specs.Output.{segments}
use Rattle.segment_output.proofs.Segments.{last}
use Rattle.segment_output.proofs.output.count_segments.Given as goal

abbrev pub invariant-places : goal.invariant-places
invariant-places g l = (is_some (last l.yielded) ≡ l.has_begun) × (l.count ≡ length (segments l.alone l.yielded))
