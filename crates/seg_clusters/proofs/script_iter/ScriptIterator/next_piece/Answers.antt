use Rattle.seg_clusters.proofs.Pieces.{pieces-given, pieces-none}
use Rattle.seg_clusters.proofs.script_iter.ScriptIterator.next_piece.Goals as goal

pub returns-in_err-first-clause-pieces : goal.returns-in_err-first-clause-pieces
returns-in_err-first-clause-pieces g c =
    rw (c.from_residual.ensures, ← c.self.view_is)
    (pieces-none (g.I.Cursor.text c.self.inside.rest).items (rw c.fork-ahead.ensures at c.in_err-first.ensures.gives.0))

pub returns-clause-pieces : goal.returns-clause-pieces
returns-clause-pieces g c =
    rw (← c.self.view_is)
    (pieces-given c.script_of-script.result (g.I.Cursor.text c.self.inside.rest) _ _ _ _ (rw c.fork-ahead.ensures at c.in_ok-first.ensures.gives)
    c.script_of-script.ensures c.take_prefix-piece.ensures.prefix c.take_prefix-piece.ensures.rest)
