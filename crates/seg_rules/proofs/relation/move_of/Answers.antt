use Rattle.std.proofs.Common.{sym}
use Rattle.seg_rules.proofs.Numbers.{get-is, get-past}
use Rattle.seg_rules.proofs.relation.move_of.Goals as goal

pub returns-then-j-moves : goal.returns-then-j-moves
returns-then-j-moves c = sym (get-past 0 c.args.moves.now c.args.j c.if-j-moves.true)

pub returns : goal.returns
returns c = get-is 0 c.args.moves.now c.args.j
