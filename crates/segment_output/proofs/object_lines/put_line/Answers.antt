-- What stood on the page is written, and then the line, if it has no room there.
use Rattle.std.proofs.Common.{List, ℕ, ◌++◌, Result, Ok, Err, OnOk, ap, ◌∙◌, append-nil, subst}
use Rattle.std.proofs.KnownBytes.{Appends-trans}
use Rattle.std.specs.Io.KnownBytes.{Appends}
use Rattle.segment_output.proofs.object_lines.put_line.Goals as goal

on-ok : {X E P Q : Type 0} (r : Result X E) → (P → Q) → OnOk r P → OnOk r Q
on-ok (Ok x) give is = give is
on-ok (Err e) give is = tt

pub returns : goal.returns
returns g c =
    let (empty, written) = c.in_ok-write.ensures in
    let before : Appends (g.O.Write.contents c.args.out.now) (g.O.Write.contents c.write.new.out) c.args.page.now =
    subst (λ (lines : List ℕ). Appends (g.O.Write.contents c.args.out.now) (g.O.Write.contents c.write.new.out) lines) (c.put.ensures.full c.if-put.false) written in
    on-ok c.write_all.result
    (λ after. (
      c.args.page.now ++ c.args.line.now,
      Appends-trans _ _ _ c.args.page.now c.args.line.now before after,
      ap (λ (lines : List ℕ). (c.args.page.now ++ c.args.line.now) ++ lines) (c.put-2.ensures.full c.if-put-2.false ∙ empty) ∙ append-nil (c.args.page.now ++ c.args.line.now),
    ))
    c.write_all.ensures.bytes
