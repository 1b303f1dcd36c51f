use Rattle.seg_clusters.specs.Payloads.{payloads_of, piece_cuts_by}
use Rattle.seg_clusters.proofs.Cutting.{end-none, left-next, nothing-left, piece-fewer}
use Rattle.seg_clusters.proofs.runs.RunCutsIterator.next.Goals as goal

pub returns-in_err-piece-clause-steps : goal.returns-in_err-piece-clause-steps
returns-in_err-piece-clause-steps g c =
    let none = end-none g.I.Cursor.text (piece_cuts_by (payloads_of c.loop-place.self-inside.payloads)) c.loop-place.self-inside.pieces c.next_piece.new.self c.in_err-piece.ensures.piece in
    rw (c.from_residual.ensures) (nothing-left _ _ _ _ _ c.in_default.ensures.steps.0 c.in_default.ensures.steps.1 none.0 none.1 c.loop-place.invariant.left)

pub loop-place-smaller : goal.loop-place-smaller
loop-place-smaller g c = piece-fewer g.I.Cursor.text c.loop-place.self-inside.pieces c.next_piece.new.self (c.in_ok-piece.piece, c.in_ok-piece.script) c.in_ok-piece.ensures.piece

pub loop-place-preserved-in_ok-piece : goal.loop-place-preserved-in_ok-piece
loop-place-preserved-in_ok-piece g c = record {
  cover = c.loop-place.invariant.cover;
  left = left-next g.I.Cursor.text (piece_cuts_by (payloads_of c.loop-place.self-inside.payloads)) c.loop-place.invariant.cover c.loop-place.self-inside.pieces c.next_piece.new.self (c.in_ok-piece.piece, c.in_ok-piece.script)
      _ _ _ c.in_ok-piece.ensures.piece c.in_default.ensures.steps.0 c.new.ensures c.loop-place.invariant.left;
}

pub loop-place-preserved : goal.loop-place-preserved
loop-place-preserved g c = record {
  cover = c.loop-place.invariant.cover;
  left = left-next g.I.Cursor.text (piece_cuts_by (payloads_of c.loop-place.self-inside.payloads)) c.loop-place.invariant.cover c.loop-place.self-inside.pieces c.next_piece.new.self (c.in_ok-piece.piece, c.in_ok-piece.script)
      _ _ _ c.in_ok-piece.ensures.piece c.in_default.ensures.steps.0 c.new.ensures c.loop-place.invariant.left;
}
