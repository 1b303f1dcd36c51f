use Rattle.std.proofs.Common.{◌≡◌, map, take}
use Rattle.seg_wrap.specs.Pieces.{measured_piece}
use Rattle.seg_wrap.proofs.wrap.paragraphs.measured.Given as goal

abbrev pub invariant-parts : goal.invariant-parts
invariant-parts l = l.segments.items ≡ map measured_piece (take l.part-index l.parts)
