use Rattle.std.proofs.Common.{drop, take}
use Rattle.seg_wrap.specs.Walk.{measure_of}
use Rattle.seg_wrap.proofs.Parts.{IsParting}
use Rattle.seg_wrap.proofs.wrap.parts.cut.Given as goal

abbrev pub invariant-pieces : goal.invariant-pieces
invariant-pieces g l =
    IsParting l.patterns (measure_of l.measuring) (g.I.Cursor.text l.text) (take l.piece-index l.pieces) (drop l.piece-index l.pieces) l.parts.items (g.I.Cursor.text l.rest)
