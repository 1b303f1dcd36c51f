use Rattle.std.proofs.Common.{◌∷◌, List, refl, sym, ap, ◌∙◌}
use Rattle.seg_text.specs.Items.{Text}
use Rattle.seg_pairs.specs.PairData.{pair_table_of}
use Rattle.seg_pairs.specs.Elements.{ItemElement, elements_of}
use Rattle.seg_pairs.specs.Verdict.{chain}
use Rattle.seg_pairs.proofs.Engine.{rest-empty, none-left, below-of}
use Rattle.seg_pairs.proofs.Events.{element_verdict, break-of, run-of, place-after, nothing-left, ahead-read, break-leads, run-leads, goes-on, run-goes}
use Rattle.seg_pairs.proofs.runs.Events.next_event.Goals as goal

pub returns-in_default-clause-leads : goal.returns-in_default-clause-leads
returns-in_default-clause-leads g c =
    let s = c.self.inside in
    let empty = ap (elements_of s.rest.pairs) (c.self.invariant.empty c.in_default.is) in
    let none = nothing-left s.pairs (g.I.Cursor.text s.here).items s.next _ c.in_default.is empty c.self.invariant.same in
    rw (← c.self.view_is) (none, refl)

pub seek-requires : goal.seek-requires
seek-requires g c =
    let s = c.self.inside in
    let b = break-of s.pairs (g.I.Cursor.text s.here) _ _ _ _ _ _ _ c.table.ensures c.in-Some.is c.self.invariant.same c.in-Break.ensures.ends in
    (b.taken, place-after s.pairs (g.I.Cursor.text s.here) b.taken _ _ _ c.place_before-place.ensures b.rest (c.in-Break.ensures.end ∙ c.self.invariant.same_end))

pub seek-requires-in-Run : goal.seek-requires-in-Run
seek-requires-in-Run g c =
    let s = c.self.inside in
    let r = run-of s.pairs (g.I.Cursor.text s.here) _ _ _ _ _ _ _ c.table.ensures c.in-Some.is c.self.invariant.same c.in-Run.ensures.ends in
    (r.gone, r.here)

pub invariant_of-self : goal.invariant_of-self
invariant_of-self g c =
    let s = c.self.inside in
    let text = g.I.Cursor.text s.here in
    let after = c.next_break.new.rest in
    let b = break-of s.pairs text _ _ _ _ _ _ _ c.table.ensures c.in-Some.is c.self.invariant.same c.in-Break.ensures.ends in
    let moved = c.seek.ensures b.taken (place-after s.pairs text b.taken _ _ _ c.place_before-place.ensures b.rest (c.in-Break.ensures.end ∙ c.self.invariant.same_end)) in
    let whole : List ItemElement = c.in-Some.left ∷ elements_of s.rest.pairs (g.I.Cursor.text s.rest.cursor).items in
    record {
      same = b.rest ∙ ap (λ (text : Text). elements_of s.pairs text.items) (sym moved);
      same_end = c.in-Break.ensures.end ∙ c.self.invariant.same_end ∙ ap (λ (text : Text). text.end) (sym moved);
      same_table = c.in-Break.ensures.table ∙ c.self.invariant.same_table;
      empty = λ none. none-left after.pairs (g.I.Cursor.text after.cursor).items (rest-empty (chain (element_verdict c.table.result.now) whole) whole _ _ _ c.in-Break.ensures.ends none);
      below = below-of _ (pair_table_of s.pairs) (pair_table_of s.pairs) _ c.table.ensures refl c.in-Break.ensures.class;
    }

pub returns-in-Break-clause-leads : goal.returns-in-Break-clause-leads
returns-in-Break-clause-leads g c =
    let s = c.self.inside in
    let text = g.I.Cursor.text s.here in
    let b = break-of s.pairs text _ _ _ _ _ _ _ c.table.ensures c.in-Some.is c.self.invariant.same c.in-Break.ensures.ends in
    let place = place-after s.pairs text b.taken _ _ _ c.place_before-place.ensures b.rest (c.in-Break.ensures.end ∙ c.self.invariant.same_end) in
    rw (← c.self.view_is) (break-leads s.pairs text (g.I.Cursor.text c.seek.new.self) _ _ _ b place (c.seek.ensures b.taken place))

pub returns-in-Break-clause-goes : goal.returns-in-Break-clause-goes
returns-in-Break-clause-goes g c =
    let s = c.self.inside in
    let text = g.I.Cursor.text s.here in
    let b = break-of s.pairs text _ _ _ _ _ _ _ c.table.ensures c.in-Some.is c.self.invariant.same c.in-Break.ensures.ends in
    let place = place-after s.pairs text b.taken _ _ _ c.place_before-place.ensures b.rest (c.in-Break.ensures.end ∙ c.self.invariant.same_end) in
    rw (← c.self.view_is) (goes-on s.pairs text (g.I.Cursor.text c.seek.new.self) b.taken (c.seek.ensures b.taken place) b.fewer)

pub invariant_of-self-in-Run : goal.invariant_of-self-in-Run
invariant_of-self-in-Run g c =
    let read = c.next_element-self-inside in
    ahead-read c.self.inside.pairs (g.I.Cursor.text c.fork.result) (g.I.Cursor.text c.take_prefix-run.new.rest) read.result read.new.self.pairs (g.I.Cursor.text read.new.self.cursor)
    (ap g.I.Cursor.text c.fork.ensures) read.ensures.gives read.ensures.end read.ensures.table read.ensures.class

pub returns-in-Run-clause-leads : goal.returns-in-Run-clause-leads
returns-in-Run-clause-leads g c =
    let s = c.self.inside in
    let text = g.I.Cursor.text s.here in
    let r = run-of s.pairs text _ _ _ _ _ _ _ c.table.ensures c.in-Some.is c.self.invariant.same c.in-Run.ensures.ends in
    rw (← c.self.view_is)
    (run-leads s.pairs text (g.I.Cursor.text c.seek-in-Run.new.self) (g.I.Cursor.text c.take_prefix-run.result) (g.I.Cursor.text c.take_prefix-run.new.rest) _ r
    (c.seek-in-Run.ensures r.gone r.here) c.take_prefix-run.ensures.prefix c.take_prefix-run.ensures.rest)

pub returns-in-Run-clause-goes : goal.returns-in-Run-clause-goes
returns-in-Run-clause-goes g c =
    let s = c.self.inside in
    let text = g.I.Cursor.text s.here in
    let r = run-of s.pairs text _ _ _ _ _ _ _ c.table.ensures c.in-Some.is c.self.invariant.same c.in-Run.ensures.ends in
    rw (← c.self.view_is)
    (run-goes s.pairs text (g.I.Cursor.text c.seek-in-Run.new.self) (g.I.Cursor.text c.take_prefix-run.new.rest) _ r
    (c.seek-in-Run.ensures r.gone r.here) c.take_prefix-run.ensures.rest)
