-- So many spaces were added so far.
use Rattle.std.proofs.Common.{◌≡◌, ◌++◌, replicate}
use Rattle.segment_text.proofs.tabs.push_spaces.Given as goal

abbrev pub invariant-loop-space : goal.invariant-loop-space
invariant-loop-space l = l.spaced.items ≡ l.fn.spaced.items ++ replicate l.space 32
