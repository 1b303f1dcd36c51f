use Rattle.seg_text.proofs.Covers.{covers}
use Rattle.seg_machine.proofs.Segmentations.{machine-within}
use Rattle.seg_rows.proofs.rule_segmenter_v2.RuleBreakIterator.new.Goals as goal

pub returns-clause-cover : goal.returns-clause-cover
returns-clause-cover g c = covers _ (machine-within _ c.facts.ensures) _ (g.met.I.Cursor.rises c.args.text)
