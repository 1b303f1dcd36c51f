-- Memoised boundaries of lines.
use Rattle.std.proofs.Common.{◌≡◌, Result, Ok, Err, IfOk, Some, List, map, sym, ap, subst}
use Rattle.seg_text.specs.declared.boundary.Boundary.{Boundary}
use Rattle.seg_text.specs.Items.{Text, code_points}
use Rattle.seg_text.specs.Boundaries.{boundary_in, boundaries_in}
use Rattle.seg_machine.specs.Machine.{Machine}
use Rattle.seg_machine.specs.Pick.{machine_boundaries}
use Rattle.seg_memo.specs.declared.memo.MemoError.{MemoError}
use Rattle.seg_memo.specs.Memos.{IsNewMemo, Memo}
use Rattle.seg_data.specs.ScriptWords.{no_words}
use Rattle.seg_clusters.specs.Payloads.{Payloads}
use Rattle.seg_lines.specs.LineBreaks.{boundaries_with}
use Rattle.seg_lines.specs.LineBreaks.LineFinder.{ByMachine}
use Rattle.seg_lines.proofs.LineLaws.{without-cuts}

-- where no script has words, the boundaries of a machine are those of its lines
pub new-lines : (m : Machine) (payloads : Payloads) (text : Text) (made : Result Memo MemoError) → IfOk made (λ s. payloads.words ≡ no_words)
    → IfOk made (IsNewMemo (Some m) text (boundaries_in (machine_boundaries m) text)) → IfOk made (IsNewMemo (Some m) text (boundaries_in (boundaries_with (ByMachine m) payloads) text))
new-lines m payloads text (Ok s) none new =
    subst (λ (found : List Boundary). IsNewMemo (Some m) text found s)
    (ap (map (boundary_in text)) (sym (without-cuts m payloads (code_points text.items) none))) new
new-lines m payloads text (Err refusal) none new = tt
