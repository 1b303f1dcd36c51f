use Rattle.std.proofs.Common.{rules, ◌∙◌, arith, length, ◌+◌, ◌<◌, ◌^◌}
use Rattle.std.proofs.lemmas.List.{get_or_read}
use Rattle.seg_balance.proofs.Table.{cut-by, cut-end, cut-grows, line-room, line-some}
use Rattle.seg_balance.proofs.balance.balanced.Goals as goal

pub overflow_add-end : goal.overflow_add-end
overflow_add-end c =
    let grows = cut-grows c.args.limits c.args.segments.now c.in_ok-firsts.firsts.items c.lines.start c.in_ok-firsts.ensures.best (search rules) in
    let read = get_or_read c.in_ok-firsts.firsts.items c.lines.start c.index.result.now (search rules) c.index.ensures 0 in
    let few : length c.in_ok-firsts.firsts.items < 2 ^ 64 = search rules in
    let bound : c.lines.start + c.index.result.now < 2 ^ 64 = omega (arith, grows.1, read, few, c.in_ok-firsts.ensures.long) in
    search rules

pub slice_bounds-line_of-end : goal.slice_bounds-line_of-end
slice_bounds-line_of-end c =
    let grows = cut-grows c.args.limits c.args.segments.now c.in_ok-firsts.firsts.items c.lines.start c.in_ok-firsts.ensures.best (search rules) in
    let read = get_or_read c.in_ok-firsts.firsts.items c.lines.start c.index.result.now (search rules) c.index.ensures 0 in
    omega (arith, grows.1, read)

pub line_of-line-requires-clause-some : goal.line_of-line-requires-clause-some
line_of-line-requires-clause-some c =
    let grows = cut-grows c.args.limits c.args.segments.now c.in_ok-firsts.firsts.items c.lines.start c.in_ok-firsts.ensures.best (search rules) in
    let read = get_or_read c.in_ok-firsts.firsts.items c.lines.start c.index.result.now (search rules) c.index.ensures 0 in
    line-some c.args.segments.now c.lines.start c.index.result.now (omega (arith, grows.0, read)) (omega (arith, grows.1, read))

pub line_of-line-requires-clause-room : goal.line_of-line-requires-clause-room
line_of-line-requires-clause-room c = line-room _ _ _ _ c.requires.room

pub lines-smaller : goal.lines-smaller
lines-smaller c =
    let grows = cut-grows c.args.limits c.args.segments.now c.in_ok-firsts.firsts.items c.lines.start c.in_ok-firsts.ensures.best (search rules) in
    let read = get_or_read c.in_ok-firsts.firsts.items c.lines.start c.index.result.now (search rules) c.index.ensures 0 in
    omega (arith, grows.0, grows.1, read, c.lines-test.true)

pub lines-preserved : goal.lines-preserved
lines-preserved c =
    let read = get_or_read c.in_ok-firsts.firsts.items c.lines.start c.index.result.now (search rules) c.index.ensures 0 in
    cut-by _ _ c.in_ok-firsts.firsts.items _ _ _ _ _ c.in_ok-firsts.ensures.best (search rules) c.lines.invariant read (c.shown_columns.ensures ∙ c.line_of-line.ensures.shown) (search rules)

pub returns : goal.returns
returns c = cut-end _ _ _ _ c.lines.invariant (search rules)
