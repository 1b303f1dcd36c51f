-- The two bytes are those of the table.
use Rattle.std.proofs.Common.{◌+◌, ◌/◌, ◌%◌}
use Rattle.segment_text.proofs.KeptDigits.{pair-at}
use Rattle.segment_text.proofs.PutPieces.{put-two}
use Rattle.segment_text.proofs.digits.put_pair.Goals as goal

pub returns-clause-pieces : goal.returns-clause-pieces
returns-clause-pieces c =
    let both = pair-at c.args.pair c.requires.0 in
    rw (both.0, both.1) (put-two c.args.at (48 + c.args.pair / 10) (48 + c.args.pair % 10) c.args.object.now c.requires.1)
