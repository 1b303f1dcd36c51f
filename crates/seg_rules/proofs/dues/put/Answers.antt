use Rattle.std.proofs.Common.{arith, sym, ◌∙◌}
use Rattle.seg_rules.specs.Given.{entry_of}
use Rattle.seg_rules.proofs.Claims.{put-drops, put-adds}
use Rattle.seg_rules.proofs.dues.put.Goals as goal
use Rattle.seg_rules.proofs.dues.put.Goals.{else-part-eq0-via-then-part-eq0+else-verdict-part, else-part-eq0-via-else-part-eq0}

pub returns-then-verdict-part : goal.returns-then-verdict-part
returns-then-verdict-part c = λ rules due is last.
    put-drops rules c.args.claim.now c.args.part (entry_of rules c.args.entry) due (sym is ∙ c.if-verdict-part.true) c.if-part-eq0.true last

pub returns : goal.returns
returns c = λ rules due is last.
    put-adds rules c.args.claim.now c.args.part.matched c.args.part.otherwise c.args.entry _ due
    (elim c.else-part-eq0.branch [
      | else-part-eq0-via-then-part-eq0+else-verdict-part w ↦ λ none same. w.if-verdict-part.false (is ∙ same)
      | else-part-eq0-via-else-part-eq0 w ↦ λ none same. w.if-part-eq0.false none
    ]) (omega arith) (c.is_same.ensures c.if-not-is_same.false) last
