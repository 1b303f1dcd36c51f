use Rattle.std.proofs.Common.{arith}
use Rattle.seg_text.proofs.Hints.{items-few}
use Rattle.seg_clusters.specs.Clusters.{cluster_rules}
use Rattle.seg_clusters.specs.Rules.{boundaries_by}
use Rattle.seg_clusters.proofs.CutHints.{cuts-few, cuts-some}
use Rattle.seg_clusters.proofs.dictionaries.DictionaryCutsIterator.size_hint.Goals as goal

pub overflow_sub-units : goal.overflow_sub-units
overflow_sub-units g c =
    let text = g.I.Cursor.text c.self.inside.rest in
    omega (arith, c.place.ensures, c.end.ensures, items-few text.items text.end (g.met.I.Cursor.rises c.self.inside.rest))

pub returns-clause-lower : goal.returns-clause-lower
returns-clause-lower g c _ =
    rw (← c.self.view_is, c.min.ensures, c.place.ensures, c.end.ensures)
    (cuts-some (g.D.WordCursor.tails c.self.inside.dictionary) (boundaries_by (cluster_rules c.self.inside.clusters)) c.cover.ensures (g.I.Cursor.text c.self.inside.rest))

pub returns-clause-upper : goal.returns-clause-upper
returns-clause-upper g c =
    let few = cuts-few (g.D.WordCursor.tails c.self.inside.dictionary) (boundaries_by (cluster_rules c.self.inside.clusters)) c.cover.ensures (g.I.Cursor.text c.self.inside.rest)
    (g.met.I.Cursor.rises c.self.inside.rest) in
    (tt, rw (← c.self.view_is, c.place.ensures, c.end.ensures) few)
