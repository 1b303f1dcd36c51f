use Rattle.seg_data.specs.ScriptWords.{words_after}
use Rattle.seg_clusters.specs.Rules.{boundaries_by}
use Rattle.seg_clusters.specs.Clusters.{cluster_rules}
use Rattle.seg_clusters.specs.DictionaryCuts.{dictionary_cuts}
use Rattle.seg_clusters.proofs.Fitting.{places-fit}
use Rattle.seg_clusters.proofs.later.LaterCuts.new.Goals as goal

pub invariant_of-result : goal.invariant_of-result
invariant_of-result g c =
    let cuts = dictionary_cuts (words_after c.cursor.result) (boundaries_by (cluster_rules c.args.clusters)) in
    places-fit c.args.offset cuts (g.I.Cursor.text c.args.piece) c.new.result (g.met.I.Cursor.rises c.args.piece) c.requires c.new.ensures
