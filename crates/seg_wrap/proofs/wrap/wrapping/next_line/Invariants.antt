use Rattle.std.proofs.Common.{length}
use Rattle.seg_lines.specs.Lines.{lines_left}
use Rattle.seg_wrap.specs.Walk.{IsGrowing, measure_of, segment_at, segments_held}
use Rattle.seg_wrap.specs.Wrapping.{lines_from, rest_from, segments_from}
use Rattle.seg_wrap.proofs.wrap.wrapping.next_line.Given as goal

abbrev pub invariant-line : goal.invariant-line
invariant-line g l =
    let text = g.I.Cursor.text l.rest in
    let measure = measure_of l.setting.measuring in
    IsGrowing measure l.setting.room l.setting.is_first text
    (lines_from l.setting.room l.setting.is_first (segment_at measure text l.fn.first) (segments_from measure (rest_from l.fn.first.end text) (lines_left l.fn.breaks)))
    l.line l.held (lines_left l.breaks) (g.I.Cursor.text l.after)

abbrev pub decreases-line : goal.decreases-line
decreases-line g l = length (segments_held (measure_of l.setting.measuring) (rest_from l.line.end (g.I.Cursor.text l.rest)) l.held (lines_left l.breaks))
