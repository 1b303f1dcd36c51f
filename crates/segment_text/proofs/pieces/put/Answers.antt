use Rattle.segment_text.proofs.PutPieces.{put-whole}
use Rattle.segment_text.proofs.pieces.put.Goals as goal

pub returns-clause-pieces : goal.returns-clause-pieces
returns-clause-pieces g c = put-whole c.args.at c.args.len g.row.N c.args.object.now c.args.piece.now c.requires.short.0 c.requires.short.1 c.requires.room
