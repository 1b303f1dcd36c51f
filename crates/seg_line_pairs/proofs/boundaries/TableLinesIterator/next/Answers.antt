use Rattle.std.proofs.Common.{ap, refl, sym, ◌∙◌, []}
use Rattle.seg_text.specs.Boundaries.{offsets}
use Rattle.seg_clusters.specs.Payloads.{payloads_of, run_cuts_by}
use Rattle.seg_line_pairs.specs.LineBoundaries.{inside}
use Rattle.seg_line_pairs.specs.LineEvents.{UnreadText}
use Rattle.seg_line_pairs.proofs.LinesLeft.{end-next, fewer-still, none-of, run-next}
use Rattle.seg_line_pairs.proofs.boundaries.TableLinesIterator.next.Goals as goal

pub returns-in-End-clause-steps : goal.returns-in-End-clause-steps
returns-in-End-clause-steps g c =
    let cuts = inside (run_cuts_by (payloads_of c.loop-place.self-inside.payloads)) in
    let first : UnreadText = g.S.LineSource.unread c.loop-place.self-inside.source in
    let before : UnreadText = g.S.LineSource.unread c.plain_break.new.self in
    let after : UnreadText = g.S.LineSource.unread c.next_event.new.self in
    let leads = c.in-End.ensures.leads in
    let nothing = leads.1.1 cuts in
    let none = end-next (before.later cuts) (after.later cuts) _ _ _ c.in_default.ensures.steps.0 c.in_default.ensures.steps.1
    (sym (c.in_default-plain_break.ensures.leads.0 cuts) ∙ none-of (first.later cuts) _ _ c.in_default.ensures.steps.0 c.loop-place.invariant.left)
    nothing (ap (λ (unread : UnreadText). unread.later cuts []) leads.1.0 ∙ nothing) in
    rw c.loop-place.invariant.started ((ap offsets none.0, ap offsets none.1), (none.0, none.1, refl))

pub loop-place-smaller-in-Go : goal.loop-place-smaller-in-Go
loop-place-smaller-in-Go g c = fewer-still _ _ _ (c.in-Go.ensures.goes.fewer c.in-Go.ensures.leads.0) c.in_default-plain_break.ensures.leads.1

pub loop-place-smaller : goal.loop-place-smaller
loop-place-smaller g c = fewer-still _ _ _ (c.in-Run.ensures.goes.fewer c.in-Run.ensures.leads.0) c.in_default-plain_break.ensures.leads.1

pub loop-place-preserved : goal.loop-place-preserved
loop-place-preserved g c =
    let cuts = run_cuts_by (payloads_of c.loop-place.self-inside.payloads) in
    let first : UnreadText = g.S.LineSource.unread c.loop-place.self-inside.source in
    let before : UnreadText = g.S.LineSource.unread c.plain_break.new.self in
    let after : UnreadText = g.S.LineSource.unread c.next_event.new.self in record {
      started = c.loop-place.invariant.started;
      left = run-next g.S.Text.Cursor.text cuts before after _ _ _ _ c.in-Run.ensures.leads c.new.ensures
          (sym (c.in_default-plain_break.ensures.leads.0 (inside cuts)) ∙ none-of (first.later (inside cuts)) _ _ c.in_default.ensures.steps.0 c.loop-place.invariant.left);
    }
