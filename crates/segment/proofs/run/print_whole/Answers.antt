-- What is read is the whole text.
use Rattle.segment.proofs.Counted.{whole-found}
use Rattle.segment.proofs.run.print_whole.Goals as goal

pub returns-in-Ok-clause-written : goal.returns-in-Ok-clause-written
returns-in-Ok-clause-written g c =
    whole-found c.args.splitting (g.I.Read.remaining c.args.input.now) _ _ _ _ _ _ c.in_ok-text.ensures.made c.as_slice.ensures.value c.in-Ok.ensures.written
