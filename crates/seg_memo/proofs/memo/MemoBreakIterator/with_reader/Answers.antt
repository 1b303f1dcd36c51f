use Rattle.std.proofs.Common.{◌∙◌, ap, length, refl, subst, sym}
use Rattle.seg_machine.specs.MachineFaults.{IsChecked}
use Rattle.seg_machine.specs.Tailored.{parts_of}
use Rattle.seg_memo.specs.Configurations.{reading}
use Rattle.seg_memo.specs.Memos.{Memo}
use Rattle.seg_memo.proofs.Ahead.{other-ahead}
use Rattle.seg_memo.proofs.Memoised.{other-memo, read-by}
use Rattle.seg_memo.proofs.memo.MemoBreakIterator.with_reader.Goals as goal

pub invariant_of-result : goal.invariant_of-result
invariant_of-result g c =
    let off = ap (λ (v : Memo). v.started) c.self.view_is ∙ c.requires.started in
    let none = (c.self.invariant.0 off).1 in
    let checked : IsChecked (reading (parts_of c.self.inside.scanner.machine) (g.Other.ReadTransitions.transitions c.args.reader)) =
    subst (λ (v : Memo). IsChecked (reading v.machine (g.Other.ReadTransitions.transitions c.args.reader))) (sym c.self.view_is) c.requires.checked in (
      λ off. (refl, none),
      read-by (parts_of c.self.inside.scanner.machine) _ _ (g.I.Cursor.text c.self.inside.left.text) (c.requires.states ∙ ap (λ (v : Memo). length v.machine.states) (sym c.self.view_is)),
      record {
        rest = c.self.invariant.2.rest;
        memo = other-memo (parts_of c.self.inside.scanner.machine) (g.R.ReadTransitions.transitions c.self.inside.scanner.reader) (g.Other.ReadTransitions.transitions c.args.reader) _ _ _ _ _ c.self.invariant.2.memo none checked c.requires.count;
        ahead = other-ahead (parts_of c.self.inside.scanner.machine) (g.R.ReadTransitions.transitions c.self.inside.scanner.reader) (g.Other.ReadTransitions.transitions c.args.reader) _ _ _ _ _ c.self.invariant.2.ahead;
      },
    )
