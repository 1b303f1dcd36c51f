use Rattle.std.proofs.Common.{◌≡◌, ◌+◌, ◌<◌, suc, length, get_or, arith, ap, ◌∙◌, below_more}
use Rattle.seg_rules.specs.RowRules.{moves_on}
use Rattle.seg_rules.specs.Check.{no_before}
use Rattle.seg_rules.specs.Given.{before_of, rules_of}
use Rattle.seg_rules.proofs.Claims.{get-mapped}
use Rattle.seg_rules.proofs.tables.moves_hold.Goals as goal

pub loop-j-preserved : goal.loop-j-preserved
loop-j-preserved c =
    let rules = rules_of c.args.rules.now in
    let next : suc c.loop-j.j ≡ c.loop-j.j + 1 = omega arith in
    let within : get_or c.args.from.now.moves.now c.loop-j.j 0 < length c.args.befores.now = omega arith in
    below_more _ _ c.loop-j.invariant (record {
      within = within;
      is = ap (moves_on rules (before_of rules c.args.from.now)) next ∙ c.before_moves.ensures c.if-not-before_moves.false
          ∙ get-mapped (before_of rules) no_before c.args.befores.now (get_or c.args.from.now.moves.now c.loop-j.j 0) _ within;
    })
