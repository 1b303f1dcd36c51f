use Rattle.std.proofs.Common.{◌∙◌, rules}
use Rattle.seg_data.proofs.Ordered.{ordered-faultless}
use Rattle.seg_clusters.specs.Scripts.{script_of}
use Rattle.seg_clusters.proofs.Rows.{value-is-script}
use Rattle.seg_clusters.proofs.script_iter.script_by_halving.Goals as goal

pub value_by_halving-requires : goal.value_by_halving-requires
value_by_halving-requires c = search (rules, ordered-faultless)

pub returns : goal.returns
returns c = c.script_numbered.ensures (script_of c.args.code_point) (c.value_by_halving.ensures ∙ value-is-script c.args.code_point)
