use Rattle.std.proofs.Common.{ℕ, ◌+◌, ◌-◌, length}
use Rattle.seg_memo.specs.Configurations.{following}
use Rattle.seg_memo.specs.Grids.{Went}
use Rattle.seg_memo.proofs.search.go_back.Given as goal

abbrev pub invariant-back : goal.invariant-back
invariant-back g l =
    (count : ℕ) → Went g.named.source.subject l.fn.table count g.named.start g.named.last l.fn.first l.fn.last l.fn.outcome → Went g.named.source.subject l.table count g.named.start g.named.last l.fn.first l.here l.outcome

abbrev pub decreases-back : goal.decreases-back
decreases-back g l = length g.named.source.subject.symbols + length g.named.source.subject.machine.states - length (following g.named.source.subject l.here)
