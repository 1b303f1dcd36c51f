use Rattle.std.proofs.Common.{refl}
use Rattle.std.proofs.lemmas.Bool.{false≢true}
use Rattle.seg_data.proofs.Ranges.{overlaps-at, apart-more, no-overlap}
use Rattle.seg_data.proofs.provider.table.has_overlap.Goals as goal

pub returns-then-ranges-k : goal.returns-then-ranges-k
returns-then-ranges-k c = (λ _. overlaps-at _ _ c.loop-k.auto.k c.loop-k-test.true c.if-ranges-k.true, λ _. refl)

pub loop-k-preserved : goal.loop-k-preserved
loop-k-preserved c = apart-more _ _ c.loop-k.invariant c.if-ranges-k.false

pub returns : goal.returns
returns c = (λ e. absurd (false≢true e), λ h. absurd (no-overlap _ _ c.loop-k.invariant c.loop-k-test.false h))
