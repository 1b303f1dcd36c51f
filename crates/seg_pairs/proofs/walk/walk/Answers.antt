use Rattle.std.proofs.Common.{◌<◌, ◌∙◌, sym, ap, subst}
use Rattle.seg_pairs.specs.PairTable.{PairTable, entry_of}
use Rattle.seg_pairs.proofs.Walks.{midway-saved, midway-kept, stop-from, read-some, entry-at, below-some, below-same}
use Rattle.seg_pairs.proofs.walk.walk.Goals as goal
use Rattle.seg_pairs.proofs.walk.walk.Goals.{then-saves, else-saves}

pub returns-in_default-clause-stop : goal.returns-in_default-clause-stop
returns-in_default-clause-stop g c =
    let entry = c.entry-entry.ensures.value ∙ ap (entry_of c.args.table.now c.loop-element.state) c.class_before.ensures.value in
    stop-from g.E.Elements.left _ _ _ _ _ _ c.loop-element.invariant.midway c.next_element-next.ensures.gives entry c.in_default.ensures

pub loop-element-preserved : goal.loop-element-preserved
loop-element-preserved g c =
    let there = c.in-Some.ensures.0 in
    let named = c.in-Some.ensures.1 in
    let read = read-some _ _ _ _ c.next_element-next.ensures.gives there in
    let entry = entry-at _ _ _ _ _ (c.entry-entry.ensures.value ∙ ap (entry_of c.args.table.now c.loop-element.state) c.class_before.ensures.value) there in
    let end = c.next_element-next.ensures.end ∙ c.loop-element.invariant.end in
    let same = c.next_element-next.ensures.table ∙ c.loop-element.invariant.table in
    elim c.if-saves.branch [
      | then-saves w ↦ record {
        midway = rw (w.saved_before-is, w.saved-is, w.saved_rest-is, w.fork-saved_rest-then-saves.ensures)
            (midway-saved _ _ _ _ _ _ _ _ _ _ _ _ _ _ _ _ c.loop-element.invariant.midway read entry named
            (c.entry-entry.ensures.state _ named) c.is_class-leaves_class.ensures (sym c.saves.ensures ∙ w.if-saves.true) c.class_after-saved_class.ensures);
        saved = below-same _ _ _ w.saved-is
            (subst (λ (t : PairTable). c.in-Some.element.class < t.property_count) (c.loop-element.invariant.table ∙ c.requires.table)
            (below-some (g.E.Elements.table c.loop-element.rest) _ _ c.next_element-next.ensures.class there));
        end = end;
        table = same;
        saved_end = ap g.E.Elements.end (w.saved_rest-is ∙ w.fork-saved_rest-then-saves.ensures) ∙ end;
        saved_table = ap g.E.Elements.table (w.saved_rest-is ∙ w.fork-saved_rest-then-saves.ensures) ∙ same;
      }
      | else-saves w ↦ record {
        midway = rw (w.saved_before-is, w.saved-is, w.saved_rest-is)
            (midway-kept _ _ _ _ _ _ _ _ _ _ _ _ _ _ _ _ c.loop-element.invariant.midway read entry named
            (c.entry-entry.ensures.state _ named) c.is_class-leaves_class.ensures (sym c.saves.ensures ∙ w.if-saves.false) c.class_after-saved_class.ensures);
        saved = below-same _ _ _ w.saved-is c.loop-element.invariant.saved;
        end = end;
        table = same;
        saved_end = ap g.E.Elements.end w.saved_rest-is ∙ c.loop-element.invariant.saved_end;
        saved_table = ap g.E.Elements.table w.saved_rest-is ∙ c.loop-element.invariant.saved_table;
      }
    ]
