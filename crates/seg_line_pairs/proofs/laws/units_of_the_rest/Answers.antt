use Rattle.seg_line_pairs.specs.LineBoundaries.{rules_by}
use Rattle.seg_line_pairs.proofs.UnitLists.{units-left}
use Rattle.seg_line_pairs.proofs.laws.units_of_the_rest.Goals as goal

pub returns : goal.returns
returns c = units-left (rules_by c.args.pairs)
