use Rattle.std.proofs.Common.{◌≡◌, ◌<◌, ◌^◌, rules}
use Rattle.seg_wrap.specs.Walk.{measure_of}
use Rattle.seg_wrap.specs.Wrapping.{count_before}
use Rattle.seg_wrap.proofs.Walks.{none-segments, none-held, part-end, read-held, read-place, read-segments}
use Rattle.seg_wrap.proofs.wrap.wrapping.next_piece.Goals as goal

pub returns-in_err-found-clause-segments : goal.returns-in_err-found-clause-segments
returns-in_err-found-clause-segments g c = none-segments _ _ _ _ _ c.in_err-found.ensures c.from_residual.ensures

pub returns-in_err-found-clause-held : goal.returns-in_err-found-clause-held
returns-in_err-found-clause-held g c = none-held (measure_of c.args.measuring) _ _ _ _ c.requires c.in_err-found.ensures c.from_residual.ensures

pub up_to-requires : goal.up_to-requires
up_to-requires g c = (_, read-place _ _ _ _ _ c.requires c.in_ok-found.ensures)

pub extent_of-extent-requires : goal.extent_of-extent-requires
extent_of-extent-requires g c =
    let bound : c.in_ok-found.found.end < 2 ^ 64 = search rules in
    let place = read-place _ _ _ _ _ c.requires c.in_ok-found.ensures in
    let end_is : (g.I.Cursor.text c.up_to.result).end ≡ c.in_ok-found.found.end = part-end (g.I.Cursor.text c.args.after.now) _ (count_before c.in_ok-found.found.end (g.I.Cursor.text c.args.after.now)) _ (c.up_to.ensures _ place) place in
    rw end_is bound

pub seek-requires : goal.seek-requires
seek-requires g c = (_, read-place _ _ _ _ _ c.requires c.in_ok-found.ensures)

pub returns-clause-segments : goal.returns-clause-segments
returns-clause-segments g c = read-segments _ _ _ _ c.extent_of-extent.result _ _ c.in_ok-found.ensures

pub returns-clause-held : goal.returns-clause-held
returns-clause-held g c =
    read-held (measure_of c.args.measuring) _ _ _ _ _ _ _ c.requires c.in_ok-found.ensures (c.up_to.ensures _ (read-place _ _ _ _ _ c.requires c.in_ok-found.ensures))
    c.extent_of-extent.ensures.measured c.extent_of-extent.ensures.small

pub returns-clause-after : goal.returns-clause-after
returns-clause-after g c = c.seek.ensures _ (read-place _ _ _ _ _ c.requires c.in_ok-found.ensures)
