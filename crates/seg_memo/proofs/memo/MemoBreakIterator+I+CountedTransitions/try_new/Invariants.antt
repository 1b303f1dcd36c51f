use Rattle.seg_text.specs.Items.{code_points}
use Rattle.seg_machine.specs.Machine.{symbols_of}
use Rattle.seg_machine.specs.Tailored.{parts_of}
use Rattle.seg_memo.specs.Configurations.{subject}
use Rattle.seg_memo.proofs.memo.«MemoBreakIterator+I+CountedTransitions».try_new.Given as goal

abbrev pub ghost-next_symbol : goal.ghost-next_symbol
ghost-next_symbol g a =
    let m = parts_of a.machine.now in
    record { subject = subject m (symbols_of m (code_points (g.I.Cursor.text a.rest.now).items)); whole = g.I.Cursor.text a.rest.now }
