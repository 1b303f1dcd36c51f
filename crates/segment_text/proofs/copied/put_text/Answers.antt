use Rattle.segment_text.proofs.PutPieces.{put-piece}
use Rattle.segment_text.proofs.copied.put_text.Goals as goal

pub returns-else-text-eq-SHORT_LEN-clause-pieces : goal.returns-else-text-eq-SHORT_LEN-clause-pieces
returns-else-text-eq-SHORT_LEN-clause-pieces c =
    put-piece c.args.at c.args.text.len _ c.args.object.now c.args.text.bytes.now c.copy_from_slice.new.self c.copy_from_slice.ensures.after c.requires.short c.requires.room
