use Rattle.seg_pairs.proofs.Forward.{no-complex}
use Rattle.seg_pairs.proofs.laws.no_run_without_complex.Goals as goal

pub returns : goal.returns
returns c = no-complex c.args.table.now
