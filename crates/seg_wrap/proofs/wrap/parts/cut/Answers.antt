use Rattle.std.proofs.Common.{ap}
use Rattle.std.proofs.lemmas.List.{take_all, take_more}
use Rattle.seg_wrap.proofs.Parts.{inside-piece, parting-end, parting-first, parting-next, parting-start}
use Rattle.seg_wrap.proofs.Pieces.{next-of}
use Rattle.seg_wrap.proofs.wrap.parts.cut.Goals as goal

pub pieces-init : goal.pieces-init
pieces-init g c = rw c.new-parts.ensures.items (parting-start _ _ _ _ _ c.requires.are (ap g.I.Cursor.text c.fork-rest.ensures))

pub up_to-requires : goal.up_to-requires
up_to-requires g c = (_, (parting-first _ _ _ _ _ _ _ _ _ c.pieces.invariant (next-of _ _ _ c.pieces-test.true)).at)

pub push_parts-requires-clause-first : goal.push_parts-requires-clause-first
push_parts-requires-clause-first g c = parting-first _ _ _ _ _ _ _ _ _ c.pieces.invariant (next-of _ _ _ c.pieces-test.true)

pub push_parts-requires-clause-places : goal.push_parts-requires-clause-places
push_parts-requires-clause-places g c =
    let first = parting-first _ _ _ _ _ _ _ _ _ c.pieces.invariant (next-of _ _ _ c.pieces-test.true) in
    rw c.as_slice.ensures.value
    (inside-piece c.args.patterns.now (g.I.Cursor.text c.pieces.rest) _ _ _ (g.met.I.Cursor.rises c.pieces.rest) (c.up_to.ensures _ first.at) c.in_ok-places.ensures).0

pub pieces-preserved : goal.pieces-preserved
pieces-preserved g c =
    let first = parting-first _ _ _ _ _ _ _ _ _ c.pieces.invariant (next-of _ _ _ c.pieces-test.true) in
    let inside = inside-piece c.args.patterns.now (g.I.Cursor.text c.pieces.rest) _ _ _ (g.met.I.Cursor.rises c.pieces.rest) (c.up_to.ensures _ first.at) c.in_ok-places.ensures in
    parting-next _ _ _ _ _ _ _ _ _ _ _ _ _ c.pieces.invariant (next-of _ _ _ c.pieces-test.true) (rw c.as_slice.ensures.value inside.1) c.in_ok-push_parts.ensures.parts
    c.in_ok-push_parts.ensures.text (take_more _ _ _ c.pieces-test.true)

pub returns : goal.returns
returns g c = parting-end _ _ _ _ _ _ _ _ c.pieces.invariant (take_all _ _ c.pieces-test.false)
