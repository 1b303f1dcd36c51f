-- What is shown so far are the segments so far.
use Rattle.std.proofs.Common.{◌≡◌, map}
use Rattle.std.specs.List.{flat_map}
use Rattle.std.specs.Prelude.{string_bytes}
use Rattle.callers.specs.Highlights.{shown}
use Rattle.callers.proofs.words.highlighted.Given as goal

abbrev pub invariant-loop-segment : goal.invariant-loop-segment
invariant-loop-segment l = string_bytes l.found ≡ flat_map (shown l.query) (map (λ segment. segment.now) l.yielded)
