use Rattle.std.proofs.Common.{arith}
use Rattle.seg_machine.proofs.dense_rows.status_at_end.Goals as goal

pub next_state-requires-clause-symbol : goal.next_state-requires-clause-symbol
next_state-requires-clause-symbol c = omega (arith, c.facts.ensures.text_symbols 0)
