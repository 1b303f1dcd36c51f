-- What was written so far, and what is written of what is left, are all of it.
use Rattle.std.proofs.Common.{◌≡◌, ◌++◌, [], length}
use Rattle.segment_text.specs.Tabs.{expanded, expanded_after}
use Rattle.segment_text.proofs.tabs.expand_tabs.Given as goal

abbrev pub invariant-fields : goal.invariant-fields
invariant-fields l = l.spaced.items ++ expanded_after l.fn.columns [] l.rest ≡ expanded l.fn.columns l.fn.text

abbrev pub decreases-fields : goal.decreases-fields
decreases-fields l = length l.rest
