use Rattle.seg_text.proofs.Cursors.{fewer-left}
use Rattle.seg_clusters.specs.Clusters.{cluster_rules}
use Rattle.seg_clusters.specs.Rules.{boundaries_by}
use Rattle.seg_clusters.proofs.Reading.{at_end-none, not_at_end-some}
use Rattle.seg_clusters.proofs.WordCuts.{places-nil, places-next}
use Rattle.seg_clusters.proofs.dictionaries.DictionaryCutsIterator.next.Goals as goal

pub returns-then-is_at_end-clause-steps : goal.returns-then-is_at_end-clause-steps
returns-then-is_at_end-clause-steps g c =
    let none = places-nil (g.D.WordCursor.tails c.self.inside.dictionary) (boundaries_by (cluster_rules c.self.inside.clusters)) (g.I.Cursor.text c.self.inside.rest)
    (at_end-none _ _ c.is_at_end.ensures c.if-is_at_end.true) in
    rw (← c.self.view_is) (none, none)

pub returns-clause-steps : goal.returns-clause-steps
returns-clause-steps g c =
    rw (← c.self.view_is) (places-next (g.D.WordCursor.tails c.self.inside.dictionary) (boundaries_by (cluster_rules c.self.inside.clusters)) (g.I.Cursor.text c.self.inside.rest) _ _
    (not_at_end-some _ _ c.is_at_end.ensures c.if-is_at_end.false) c.first_cut-place.ensures (c.seek.ensures _ c.first_cut-place.ensures))

pub returns-clause-goes : goal.returns-clause-goes
returns-clause-goes g c = fewer-left (λ left. left) _ _ _ (returns-clause-steps g c)
