use Rattle.std.proofs.Common.{drop}
use Rattle.seg_wrap.specs.Walk.{measure_of}
use Rattle.seg_wrap.proofs.Parts.{IsCutting}
use Rattle.seg_wrap.proofs.wrap.parts.push_parts.Given as goal

abbrev pub invariant-places : goal.invariant-places
invariant-places g l =
    IsCutting (measure_of l.measuring) (g.I.Cursor.text l.fn.text) l.piece l.places (drop l.place-index l.places) l.fn.parts.items l.parts.items (g.I.Cursor.text l.text)
