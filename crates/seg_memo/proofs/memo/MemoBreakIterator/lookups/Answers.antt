use Rattle.seg_memo.proofs.Memoised.{looked-up, memo-bound}
use Rattle.seg_memo.proofs.Reading.{symbols-length}
use Rattle.seg_memo.proofs.memo.MemoBreakIterator.lookups.Goals as goal

pub returns-clause-different : goal.returns-clause-different
returns-clause-different g c = rw (← c.self.view_is) (looked-up _ _ _ _ _ c.self.invariant.2.memo c.count.ensures)

pub returns-clause-bound : goal.returns-clause-bound
returns-clause-bound g c = rw (← c.self.view_is) (memo-bound _ _ _ _ _ _ c.self.invariant.2.memo c.count.ensures (symbols-length _ (g.I.Cursor.text c.self.inside.left.text).items))
