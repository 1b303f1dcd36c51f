use Rattle.std.proofs.Common.{◌≡◌, length}
use Rattle.seg_text.specs.Items.{code_points}
use Rattle.seg_text.specs.Boundaries.{offsets, offsets_left}
use Rattle.seg_clusters.specs.Rules.{boundaries_by}
use Rattle.seg_clusters.specs.Clusters.{cluster_rules}
use Rattle.seg_clusters.proofs.Reading.{IsReading}
use Rattle.seg_clusters.proofs.dictionaries.first_cut.Given as goal

abbrev pub invariant-loop-code_point : goal.invariant-loop-code_point
invariant-loop-code_point g l = record {
  reading : IsReading (g.D.WordCursor.tails l.dictionary) (offsets (boundaries_by (cluster_rules l.clusters) (code_points (g.I.Cursor.text l.rest).items)))
      (g.I.Cursor.text l.rest).items (g.I.Cursor.text l.rest).end (g.I.Cursor.text l.ahead).items (g.D.WordCursor.tails l.words) l.cluster (offsets_left l.ends) l.longest;
  end : (g.I.Cursor.text l.ahead).end ≡ (g.I.Cursor.text l.rest).end;
}

abbrev pub decreases-loop-code_point : goal.decreases-loop-code_point
decreases-loop-code_point g l = length (g.I.Cursor.text l.ahead).items
