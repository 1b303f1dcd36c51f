use Rattle.seg_pairs.proofs.Landings.{lands-last}
use Rattle.seg_pairs.proofs.verdicts.TableVerdictsVerdicts.step.Goals as goal

pub returns-in-None-clause-lands : goal.returns-in-None-clause-lands
returns-in-None-clause-lands g c = lands-last _ _ _ _ c.in-None.ensures.gives.0 c.in-None.ensures.gives.1
