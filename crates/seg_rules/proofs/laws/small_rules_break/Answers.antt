use Rattle.seg_rules.proofs.Examples.{breaks}
use Rattle.seg_rules.proofs.laws.small_rules_break.Goals as goal

pub returns : goal.returns
returns c = record {
  letters = breaks.letters;
  marks = breaks.marks;
  alone = breaks.alone;
  flags = breaks.flags;
  statuses = breaks.statuses;
}
