-- The machine and the text stay.
use Rattle.std.proofs.Common.{◌≡◌, length}
use Rattle.icu_segmenter.specs.Memos.{memo_places}
use Rattle.callers.proofs.memo.read_count.Given as goal

abbrev pub invariant-runs : goal.invariant-runs
invariant-runs l = (l.memo.machine ≡ l.initial.memo.machine) × (l.memo.text ≡ l.initial.memo.text)

abbrev pub decreases-runs : goal.decreases-runs
decreases-runs l = length (memo_places l.memo)
