use Rattle.std.proofs.Common.{◌<◌, get_or, length, false, arith, sym, ap, ◌∙◌, subst}
use Rattle.seg_rules.specs.RowRules.{reading}
use Rattle.seg_rules.specs.Given.{owed_of, row_of, rules_of}
use Rattle.seg_rules.specs.Claims.{IsReading}
use Rattle.seg_rules.proofs.Claims.{above-reading, default_row, get-map}
use Rattle.seg_rules.proofs.dues.read_above.Goals as goal

pub returns : goal.returns
returns c =
    let rules = rules_of c.args.rules.now in
    let within : c.args.row < length c.args.rules.now.above.now = omega arith in
    let is = get-map c.args.rules.now.above.now c.args.row default_row within in
    subst (IsReading rules c.read_right.result)
    (sym (above-reading rules c.args.read.glues c.args.read.symbol (row_of (get_or c.args.rules.now.above.now c.args.row default_row)) c.args.live)
    ∙ ap (λ row. reading rules c.args.read.glues c.args.read.symbol (owed_of false row c.args.live)) is)
    (c.read_right.ensures rules is)
