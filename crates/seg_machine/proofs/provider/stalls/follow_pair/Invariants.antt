use Rattle.seg_machine.specs.Search.{bare}
use Rattle.seg_machine.proofs.Searches.{IsListing}
use Rattle.seg_machine.proofs.provider.stalls.follow_pair.Given as goal

-- the symbols so far are followed
abbrev pub invariant-loop-symbol : goal.invariant-loop-symbol
invariant-loop-symbol l = IsListing (bare l.states l.transitions) l.initial.marks l.marks l.initial.queue l.queue l.state l.kept l.symbol
