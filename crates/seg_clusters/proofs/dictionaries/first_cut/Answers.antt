use Rattle.std.proofs.Common.{sym, ◌∙◌, ap, refl, length}
use Rattle.seg_text.specs.Items.{code_points, place_of}
use Rattle.seg_text.specs.Boundaries.{offsets, boundaries_in}
use Rattle.seg_clusters.specs.Rules.{boundaries_by}
use Rattle.seg_clusters.specs.Clusters.{cluster_rules}
use Rattle.seg_clusters.proofs.Restarted.{covered-ends}
use Rattle.seg_clusters.proofs.Reading.{length-points, at-start, ends-at, reading-start, reading-step, reading-on, reading-stop, reading-end}
use Rattle.seg_clusters.proofs.dictionaries.first_cut.Goals as goal

pub loop-code_point-init : goal.loop-code_point-init
loop-code_point-init g c =
    let text = g.I.Cursor.text c.args.rest.now in
    let clusters = boundaries_by (cluster_rules c.args.clusters) in
    let ends = offsets (clusters (code_points text.items)) in
    let covered = covered-ends (clusters (code_points text.items)) (length text.items) (rw (length-points text.items) at (c.cover.ensures (code_points text.items))) in
    record {
      reading = rw c.fork-ahead.ensures (reading-start (g.D.WordCursor.tails c.args.dictionary.now) ends text.items text.end _ _ _ (ap g.D.WordCursor.tails c.fork-words.ensures)
          (at-start text.items text.end ends _ _ _ covered
          (ends-at clusters text _ (ap offsets (c.boundaries-ends.ensures.boundaries ∙ ap (λ rest. boundaries_in clusters (g.I.Cursor.text rest)) c.fork.ensures))) c.first_end-cluster.ensures));
      end = ap (λ ahead. (g.I.Cursor.text ahead).end) c.fork-ahead.ensures;
    }

pub returns-in_default : goal.returns-in_default
returns-in_default g c =
    c.unwrap_or.ensures ∙ reading-end _ _ _ _ _ _ _ _ _ c.loop-code_point.invariant.reading c.in_default.ensures.gives.0

pub returns-then-not-goes_on : goal.returns-then-not-goes_on
returns-then-not-goes_on g c =
    c.unwrap_or-then-not-goes_on.ensures
    ∙ reading-stop _ _ _ _ _ _ _ _ _
    (reading-step _ _ _ _ _ _ _ _ _ _ _ _ _ _ _ _ (g.met.I.Cursor.rises c.args.rest.now) c.loop-code_point.invariant.reading c.in-Some.ensures.gives
    (c.place-reached.ensures ∙ ap (place_of (g.I.Cursor.text c.next_item.new.self).items) (c.in-Some.ensures.end ∙ c.loop-code_point.invariant.end))
    c.end_from-cluster.ensures.stays c.end_from-cluster.ensures.goes c.step.ensures (c.longer-longest.ensures ∙ rw c.is_word.ensures refl))
    (sym c.goes_on.ensures ∙ c.if-not-goes_on.true)

pub loop-code_point-preserved : goal.loop-code_point-preserved
loop-code_point-preserved g c = record {
  reading = reading-on _ _ _ _ _ _ _ _ _
      (reading-step _ _ _ _ _ _ _ _ _ _ _ _ _ _ _ _ (g.met.I.Cursor.rises c.args.rest.now) c.loop-code_point.invariant.reading c.in-Some.ensures.gives
      (c.place-reached.ensures ∙ ap (place_of (g.I.Cursor.text c.next_item.new.self).items) (c.in-Some.ensures.end ∙ c.loop-code_point.invariant.end))
      c.end_from-cluster.ensures.stays c.end_from-cluster.ensures.goes c.step.ensures (c.longer-longest.ensures ∙ rw c.is_word.ensures refl))
      (sym c.goes_on.ensures ∙ c.if-not-goes_on.false);
  end = c.in-Some.ensures.end ∙ c.loop-code_point.invariant.end;
}
