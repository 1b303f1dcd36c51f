use Rattle.std.proofs.Common.{ap, refl}
use Rattle.seg_text.specs.Boundaries.{offsets}
use Rattle.seg_clusters.specs.Payloads.{payloads_of, piece_cuts_by, run_cuts_by}
use Rattle.seg_words.proofs.Left.{at-end, left-of, left-run, run-fewer}
use Rattle.seg_words.proofs.classic.ClassicBoundariesIterator.next.Goals as goal

pub returns-in-End-clause-steps : goal.returns-in-End-clause-steps
returns-in-End-clause-steps g c =
    let cuts = run_cuts_by (payloads_of c.loop-place.self-inside.payloads) in
    let none = at-end cuts _ _ _ _ _ _ c.in_default.ensures.steps.0 c.in_default.ensures.steps.1 c.in-End.ensures.leads.0 c.in-End.ensures.leads.1 c.loop-place.invariant.left in
    rw c.loop-place.invariant.started ((ap offsets none.0, ap offsets none.1), (none.0, none.1, refl))

pub loop-place-smaller : goal.loop-place-smaller
loop-place-smaller g c = run-fewer g.I.Cursor.text _ _ _ c.in-Run.ensures.leads c.in-Run.ensures.goes

pub loop-place-preserved : goal.loop-place-preserved
loop-place-preserved g c = record {
  started = c.loop-place.invariant.started;
  cover = c.loop-place.invariant.cover;
  left = left-run g.I.Cursor.text (piece_cuts_by (payloads_of c.loop-place.self-inside.payloads)) c.loop-place.invariant.cover _ _ _ _ _ c.in-Run.ensures.leads c.in-Run.ensures.goes c.new.ensures
      (left-of _ _ _ _ c.in_default.ensures.steps.0 c.loop-place.invariant.left);
}
