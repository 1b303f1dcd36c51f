use Rattle.std.proofs.Common.{◌∙◌}
use Rattle.seg_text.proofs.Filling.{last-mark, last-place, some-ahead}
use Rattle.seg_words.specs.WordsLeft.{span_left}
use Rattle.seg_words.proofs.Spans.{last-left}
use Rattle.seg_words.proofs.neo.NeoBoundariesBatchSource.batch.Goals as goal

pub invariant_of-self : goal.invariant_of-self
invariant_of-self g c =
    let writes = c.batch-count.ensures in
    let more = c.if-count-gt0.true in
    rw (last-place _ _ _ _ _ _ _ writes more, writes.left)
    (last-left c.self.inside.place (span_left c.self.inside.span) c.batch-count.result more writes.some ∙ c.self.invariant)

pub returns-then-count-gt0-clause-status : goal.returns-then-count-gt0-clause-status
returns-then-count-gt0-clause-status g c =
    rw (← c.self.view_is) (last-mark c.self.inside.status _ _ _ _ _ _ _ (some-ahead _ _ _ _ _ _ _ _ c.batch-count.ensures) c.if-count-gt0.true)
