use Rattle.std.proofs.Common.{refl, sym}
use Rattle.seg_machine.proofs.Marks.{below-from}
use Rattle.seg_machine.proofs.provider.found.is_found_below.Goals as goal

pub returns-then-is_marked : goal.returns-then-is_marked
returns-then-is_marked c =
    λ found. below-from c.args.marks.now c.args.state c.args.kept c.loop-lookahead.lookahead c.loop-lookahead-test.true
    (sym c.if-is_kept.ensures) (c.if-is_marked.ensures.0 refl)
