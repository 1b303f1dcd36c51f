use Rattle.std.proofs.Common.{refl}
use Rattle.seg_machine.specs.Scan.{condition_end, places_after}
use Rattle.seg_rows.proofs.rule_segmenter_v2.pass.Goals as goal

pub returns-then-mark-lt-CONTINUES-clause-none : goal.returns-then-mark-lt-CONTINUES-clause-none
unfolding condition_end
returns-then-mark-lt-CONTINUES-clause-none g c = λ _. rw (c.mark-mark.ensures.0 c.if-mark-lt-CONTINUES.true) refl

pub returns-then-mark-lt-CONTINUES-clause-kept : goal.returns-then-mark-lt-CONTINUES-clause-kept
unfolding places_after
returns-then-mark-lt-CONTINUES-clause-kept g c = λ _. rw (c.mark-mark.ensures.0 c.if-mark-lt-CONTINUES.true) refl

pub returns-then-mark-clause-none : goal.returns-then-mark-clause-none
unfolding condition_end
returns-then-mark-clause-none g c = λ _. rw (c.mark-mark.ensures.1 c.if-mark.true) refl

pub returns-then-mark-clause-kept : goal.returns-then-mark-clause-kept
unfolding places_after
returns-then-mark-clause-kept g c = λ _. rw (c.mark-mark.ensures.1 c.if-mark.true) refl
