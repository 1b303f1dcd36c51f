use Rattle.std.proofs.Common.{Some, sym, subst}
use Rattle.std.specs.Prelude.{if◌then◌else◌}
use Rattle.seg_rules.specs.RowRules.{Decides, Drops, reading}
use Rattle.seg_rules.specs.Given.{entry_of, rules_of}
use Rattle.seg_rules.specs.Claims.{IsReading}
use Rattle.seg_rules.proofs.dues.read_entry.Goals as goal

pub returns-in-Marks : goal.returns-in-Marks
unfolding reading
returns-in-Marks c =
    let rules = rules_of c.args.rules.now in
    subst (λ entry. IsReading rules (Some c.read_marks.result) (reading rules c.args.read.glues c.args.read.symbol (entry_of rules entry))) (sym c.in-Marks.is)
    (subst (λ glued. IsReading rules (Some c.read_marks.result) (if glued then Decides 0 else Drops)) c.is_glued.ensures (c.read_marks.ensures rules))
