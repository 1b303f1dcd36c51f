use Rattle.std.proofs.Common.{rules}
use Rattle.seg_wrap.proofs.Pieces.{gather-end, gather-fewer, gather-last, gather-next, gather-start}
use Rattle.seg_wrap.proofs.wrap.paragraphs.paragraph.Goals.{in-Some+in_ok-push+then-piece, in_default}
use Rattle.seg_wrap.proofs.wrap.paragraphs.paragraph.Goals as goal

pub pieces-init : goal.pieces-init
pieces-init g c = rw c.new-pieces.ensures.items (gather-start _ _ _ _ c.requires.cuts c.requires.at)

pub pieces-smaller : goal.pieces-smaller
pieces-smaller g c =
    gather-fewer _ _ _ _ _ _ _ c.in-Some.is c.next_piece.ensures.segments c.next_piece.ensures.held c.next_piece.ensures.after

pub pieces-preserved : goal.pieces-preserved
pieces-preserved g c =
    gather-next _ _ _ _ _ _ _ _ _ _ _ c.pieces.invariant c.in-Some.is c.next_piece.ensures.segments c.next_piece.ensures.held c.next_piece.ensures.after
    (search rules) c.next_piece.ensures.whole c.if-piece.false

pub returns : goal.returns
returns g c = elim c.match-next_piece.branch [
  | in-Some+in_ok-push+then-piece w ↦
      gather-last _ _ _ _ _ _ _ _ _ _ _ c.pieces.invariant w.in-Some.is c.next_piece.ensures.segments c.next_piece.ensures.held c.next_piece.ensures.after
      (search rules) c.next_piece.ensures.whole w.if-piece.true
  | in_default w ↦
      rw w.pieces-is
      (gather-end _ _ _ _ _ _ _ _ _ c.pieces.invariant w.in_default.is c.next_piece.ensures.segments c.next_piece.ensures.held c.next_piece.ensures.after)
]
