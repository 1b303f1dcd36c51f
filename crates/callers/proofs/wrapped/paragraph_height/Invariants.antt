-- The height so far is how many lines have come, as far as it can be counted.
use Rattle.std.proofs.Common.{◌≡◌, ◌-◌, ◌^◌, length, min}
use Rattle.callers.proofs.wrapped.paragraph_height.Given as goal

abbrev pub invariant-loop-line : goal.invariant-loop-line
invariant-loop-line l = l.height ≡ min (length l.yielded) (2 ^ 64 - 1)
