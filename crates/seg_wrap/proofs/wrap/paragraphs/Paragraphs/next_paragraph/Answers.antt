use Rattle.std.proofs.Common.{◌<◌, ◌^◌, rules}
use Rattle.seg_wrap.proofs.Pieces.{pieces-room}
use Rattle.seg_wrap.proofs.Spans.{given-paragraph}
use Rattle.seg_wrap.proofs.wrap.paragraphs.Paragraphs.next_paragraph.Goals as goal

pub lines-requires : goal.lines-requires
lines-requires g c =
    let end : (g.I.Cursor.text c.self.inside.rest).end < 2 ^ 64 = search rules in
    record { room = rw c.as_slice.ensures.value (pieces-room _ _ _ (g.met.I.Cursor.rises c.self.inside.rest) c.in_ok-parts.ensures.are end) }

pub returns-clause-given : goal.returns-clause-given
returns-clause-given g c = rw (← c.self.view_is) (given-paragraph c.self.inside.measuring _ c.self.inside.style _ _ _ _ _ _ _ _ c.place.result c.in_ok-spans.spans.items c.fork-breaks.ensures c.in_ok-pieces.ensures c.in_ok-parts.ensures c.place.ensures c.as_slice.ensures.value c.in_ok-spans.ensures)
