use Rattle.std.proofs.Common.{IfOk, sym, subst}
use Rattle.seg_text.specs.Boundaries.{boundaries_in}
use Rattle.seg_machine.specs.Tailored.{machine_of}
use Rattle.seg_memo.specs.Memos.{IsNewMemo}
use Rattle.seg_clusters.specs.Payloads.{payloads_of}
use Rattle.seg_lines.specs.declared.finder.Finder.{Finder}
use Rattle.seg_lines.specs.LineBreaks.{boundaries_with, machine_in_finder}
use Rattle.seg_lines.specs.Lines.{finder_of}
use Rattle.seg_lines.proofs.Memos.{new-lines}
use Rattle.seg_lines.proofs.memo.memoised.Goals as goal

pub returns-in-Machine-clause-made : goal.returns-in-Machine-clause-made
returns-in-Machine-clause-made g c =
    let text = g.I.Cursor.text c.args.text in
    let payloads = payloads_of c.args.payloads in
    let made = c.memoised-in-Machine.result in
    subst
    (λ (finder : Finder). IfOk made (IsNewMemo (machine_in_finder (finder_of finder) payloads) text (boundaries_in (boundaries_with (finder_of finder) payloads) text)))
    (sym c.in-Machine.is)
    (new-lines (machine_of c.in-Machine.machine) payloads text made c.memoised-in-Machine.ensures.words c.memoised-in-Machine.ensures.made)
