use Rattle.std.proofs.Common.{sym, ap, ◌∙◌}
use Rattle.seg_rules.proofs.Numbers.{get-is, get-past, glued-number, number_of, number-same, plain-number}
use Rattle.seg_rules.proofs.relation.read_pair.Goals as goal

pub returns-then-symbol-reads : goal.returns-then-symbol-reads
returns-then-symbol-reads c =
    number-same c.args.glues 0 ∙ ap (number_of c.args.glues) (sym (get-past (0, 0) c.args.reads.now c.args.symbol c.if-symbol-reads.true))

pub returns-then-glues : goal.returns-then-glues
returns-then-glues c = glued-number c.args.glues _ c.if-glues.true ∙ ap (number_of c.args.glues) (get-is (0, 0) c.args.reads.now c.args.symbol)

pub returns-else-glues : goal.returns-else-glues
returns-else-glues c = plain-number c.args.glues _ c.if-glues.false ∙ ap (number_of c.args.glues) (get-is (0, 0) c.args.reads.now c.args.symbol)
