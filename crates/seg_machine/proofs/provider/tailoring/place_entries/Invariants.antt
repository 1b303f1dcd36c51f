use Rattle.std.proofs.Common.{take}
use Rattle.seg_machine.proofs.Replaced.{IsPlacing}
use Rattle.seg_machine.proofs.provider.tailoring.place_entries.Given as goal

-- the first entries are placed
abbrev pub invariant-loop-index : goal.invariant-loop-index
invariant-loop-index l = IsPlacing (take l.index l.entries) l.replacements
