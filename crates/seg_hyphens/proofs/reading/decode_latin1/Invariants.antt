use Rattle.std.proofs.Common.{◌≡◌, take}
use Rattle.std.specs.Str.{encode_utf8_all}
use Rattle.seg_hyphens.proofs.reading.decode_latin1.Given as goal

abbrev pub invariant-loop-byte : goal.invariant-loop-byte
invariant-loop-byte l = l.buffer.items ≡ encode_utf8_all (take l.byte-index l.line)
