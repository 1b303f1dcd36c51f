use Rattle.seg_text.specs.Items.{code_points}
use Rattle.seg_machine.specs.Machine.{symbols_of}
use Rattle.seg_machine.specs.Tailored.{parts_of}
use Rattle.seg_memo.specs.Configurations.{reading, subject}
use Rattle.seg_memo.proofs.memo.MemoBreakIterator.next_boundary.Given as goal

abbrev pub ghost-next_segment : goal.ghost-next_segment
ghost-next_segment g a =
    let m = reading (parts_of a.self.now.machine) (g.R.ReadTransitions.transitions a.self.now.reader) in
    record { subject = subject m (symbols_of m (code_points (g.I.Cursor.text a.left.now.text).items)); whole = g.I.Cursor.text a.left.now.text }
