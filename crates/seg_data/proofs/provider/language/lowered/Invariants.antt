use Rattle.std.proofs.Common.{◌≡◌, take}
use Rattle.std.specs.Str.{str_to_ascii_lowercase}
use Rattle.seg_data.proofs.provider.language.lowered.Given as goal

abbrev pub invariant-loop-letter : goal.invariant-loop-letter
invariant-loop-letter l = l.language.bytes ≡ str_to_ascii_lowercase (take l.letter-index l.letter-items)
