use Rattle.std.proofs.Common.{◌<◌, ◌==◌, get_or, length, map, true, false, arith, sym, ap, ◌∙◌, subst}
use Rattle.std.proofs.lemmas.Bool.{and_parts}
use Rattle.seg_rules.specs.Check.{get}
use Rattle.seg_rules.specs.RowRules.{Row, flow, reading}
use Rattle.seg_rules.specs.Given.{flags_by, no_row, owed_of, row_of, rules_of}
use Rattle.seg_rules.specs.Claims.{IsReading, reading_by}
use Rattle.seg_rules.proofs.Claims.{below-reading, stuck-reading, default_row, get-map}
use Rattle.seg_rules.proofs.dues.read_below.Goals as goal

pub returns-then-is_glued : goal.returns-then-is_glued
returns-then-is_glued c =
    let rules = rules_of c.args.rules.now in
    let within : c.args.row < length c.args.rules.now.below.now = omega arith in
    let is = get-map c.args.rules.now.below.now c.args.row default_row within in
    let parts = and_parts _ _ (sym c.is_glued.ensures ∙ c.if-is_glued.true) in
    (stuck-reading rules c.args.read.glues c.args.read.symbol (get no_row (map row_of c.args.rules.now.below.now) c.args.row) c.args.live parts.0 parts.1, ap (λ (row : Row). row.verdict) is)

pub returns : goal.returns
returns c =
    let rules = rules_of c.args.rules.now in
    let within : c.args.row < length c.args.rules.now.below.now = omega arith in
    let is = get-map c.args.rules.now.below.now c.args.row default_row within in
    let row = get_or c.args.rules.now.below.now c.args.row default_row in
    subst (IsReading rules c.read_right.result)
    (below-reading rules c.args.read.glues c.args.read.symbol (row_of (get_or c.args.rules.now.below.now c.args.row default_row)) c.args.live (sym c.is_glued.ensures ∙ c.if-is_glued.false)
    ∙ ap (λ row. reading rules c.args.read.glues c.args.read.symbol (owed_of true row c.args.live)) is)
    (subst (λ symbol. IsReading rules c.read_right.result
    (reading_by true (row_of row) (flow false row.right.now (flags_by row.right.now c.args.live) symbol) (c.args.read.symbol == 0)))
    c.unmarked.ensures (c.read_right.ensures rules is))
