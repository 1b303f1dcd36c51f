-- Memoised boundaries of words.
use Rattle.std.proofs.Common.{◌≡◌, Result, Ok, Err, IfOk, List, map, sym, ap, subst}
use Rattle.seg_text.specs.declared.boundary.Boundary.{Boundary}
use Rattle.seg_text.specs.Items.{Text, code_points}
use Rattle.seg_text.specs.Boundaries.{boundary_in}
use Rattle.seg_memo.specs.declared.memo.MemoError.{MemoError}
use Rattle.seg_memo.specs.Memos.{IsNewMemo, Memo}
use Rattle.seg_clusters.specs.Rules.{Rules, boundaries_of, machine_in}
use Rattle.seg_clusters.specs.Rules.Rules.{ByTable, ByMachine}
use Rattle.seg_data.specs.ScriptWords.{no_words}
use Rattle.seg_words.specs.WordRules.{WordRules, word_boundaries_of}
use Rattle.seg_clusters.specs.Payloads.{Payloads}
use Rattle.seg_words.proofs.Spans.{without-words}

new-memo : (rules : Rules) (payloads : Payloads) (text : Text) (s : Memo) → payloads.words ≡ no_words → IsNewMemo (machine_in rules) text (boundaries_of rules text) s
    → IsNewMemo (machine_in rules) text (word_boundaries_of (record { rules = rules; payloads = payloads }) text) s
new-memo (ByTable t overriding) payloads text s none new =
    let no_machine = new.machine in
    absurd cc
new-memo (ByMachine m) payloads text s none new =
    subst (λ (found : List Boundary). IsNewMemo (machine_in (ByMachine m)) text found s)
    (ap (map (boundary_in text)) (sym (without-words m payloads none (code_points text.items)))) new

-- where no script has words, the boundaries of a machine are those of its words
pub new-words : (words : WordRules) (whole text : Text) → text ≡ whole → (made : Result Memo MemoError) → IfOk made (λ s. words.payloads.words ≡ no_words)
    → IfOk made (IsNewMemo (machine_in words.rules) text (boundaries_of words.rules text)) → IfOk made (IsNewMemo (machine_in words.rules) whole (word_boundaries_of words whole))
new-words words whole text same (Ok s) none new =
    subst (λ (text : Text). IsNewMemo (machine_in words.rules) text (word_boundaries_of words text) s) same (new-memo words.rules words.payloads text s none new)
new-words words whole text same (Err refusal) none new = tt
