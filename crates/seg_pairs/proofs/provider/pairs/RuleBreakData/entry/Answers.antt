use Rattle.std.proofs.Common.{◌∙◌, ap, sym}
use Rattle.seg_pairs.specs.PairTable.{named_state}
use Rattle.seg_pairs.proofs.Pairs.{entry-read}
use Rattle.seg_pairs.proofs.provider.pairs.RuleBreakData.entry.Goals as goal

pub returns-clause-value : goal.returns-clause-value
returns-clause-value c =
    let left = rw (← c.self.view_is) at c.requires.left in
    let right = rw (← c.self.view_is) at c.requires.right in
    rw (← c.self.view_is) (entry-read _ c.self.invariant _ _ _ left right c.index.ensures)

pub returns-clause-state : goal.returns-clause-state
returns-clause-state c = λ state named.
    let left = rw (← c.self.view_is) at c.requires.left in
    let right = rw (← c.self.view_is) at c.requires.right in
    let read = entry-read _ c.self.invariant _ _ _ left right c.index.ensures in
    rw (← c.self.view_is) (c.self.invariant.states _ _ state (sym (ap named_state read) ∙ named))
