use Rattle.std.proofs.Common.{ap}
use Rattle.seg_clusters.specs.Rules.{boundaries_by, rules_of}
use Rattle.seg_clusters.proofs.Begins.{splits-begin}
use Rattle.seg_clusters.proofs.Certain.{certain-by}
use Rattle.seg_clusters.proofs.CertainParts.{splits-by}
use Rattle.seg_clusters.proofs.laws.engine.certain_places.Goals as goal

pub returns-in-Neo-clause-breaks : goal.returns-in-Neo-clause-breaks
returns-in-Neo-clause-breaks c = certain-by (rules_of c.args.engine) _ (ap rules_of c.in-Neo.is) c.facts.ensures _ _ _

pub returns-in-Neo-clause-parts : goal.returns-in-Neo-clause-parts
returns-in-Neo-clause-parts c = splits-by (rules_of c.args.engine) _ (ap rules_of c.in-Neo.is) c.facts.ensures _ _ _

pub returns-in-Neo-clause-begins : goal.returns-in-Neo-clause-begins
returns-in-Neo-clause-begins c certain =
    splits-begin (boundaries_by (rules_of c.args.engine)) c.args.before c.args.one c.args.other c.cover.ensures (splits-by (rules_of c.args.engine) _ (ap rules_of c.in-Neo.is) c.facts.ensures _ _ _ certain)
