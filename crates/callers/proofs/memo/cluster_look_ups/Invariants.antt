-- The machine and the text stay.
use Rattle.std.proofs.Common.{◌≡◌, length}
use Rattle.icu_segmenter.specs.Memos.{memo_places}
use Rattle.callers.proofs.memo.cluster_look_ups.Given as goal

abbrev pub invariant-clusters : goal.invariant-clusters
invariant-clusters l = (l.memo.machine ≡ l.initial.memo.machine) × (l.memo.text ≡ l.initial.memo.text)

abbrev pub decreases-clusters : goal.decreases-clusters
decreases-clusters l = length (memo_places l.memo)
