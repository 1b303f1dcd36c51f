-- Each byte so far stands as it is.
use Rattle.std.proofs.Common.{arith}
use Rattle.segment_text.proofs.BareStretches.{all-bare}
use Rattle.segment_text.proofs.bare.bare_len.Goals as goal

pub returns-else-is_bare-clause-bare : goal.returns-else-is_bare-clause-bare
returns-else-is_bare-clause-bare c = all-bare c.loop-len.len c.args.text.now (λ place below. c.loop-len.invariant.1 place (omega arith) below)

pub returns-after-loop-len-clause-bare : goal.returns-after-loop-len-clause-bare
returns-after-loop-len-clause-bare c = all-bare c.loop-len.len c.args.text.now (λ place below. c.loop-len.invariant.1 place (omega arith) below)
