use Rattle.std.proofs.Common.{length}
use Rattle.seg_lines.specs.Lines.{lines_left}
use Rattle.seg_wrap.specs.Walk.{measure_of}
use Rattle.seg_wrap.specs.Wrapping.{segments_from}
use Rattle.seg_wrap.proofs.Pieces.{IsGathering}
use Rattle.seg_wrap.proofs.wrap.paragraphs.paragraph.Given as goal

abbrev pub invariant-pieces : goal.invariant-pieces
invariant-pieces g l =
    let measure = measure_of l.measuring in
    let text = g.I.Cursor.text l.rest in
    IsGathering measure text (segments_from measure text (lines_left l.fn.breaks)) l.pieces.items (g.I.Cursor.text l.after) (lines_left l.breaks)

abbrev pub decreases-pieces : goal.decreases-pieces
decreases-pieces g l = length (segments_from (measure_of l.measuring) (g.I.Cursor.text l.after) (lines_left l.breaks))
