use Rattle.seg_clusters.specs.Rules.{boundaries_by}
use Rattle.seg_clusters.specs.Clusters.{cluster_rules}
use Rattle.seg_clusters.specs.DictionaryCuts.{by_dictionaries}
use Rattle.seg_clusters.proofs.Cutting.{runs-covered}
use Rattle.seg_clusters.proofs.WordCuts.{dictionaries-cover}
use Rattle.seg_clusters.proofs.laws.complex.dictionary_cuts_cover.Goals as goal

pub returns-clause-pieces : goal.returns-clause-pieces
returns-clause-pieces c = λ dictionaries. dictionaries-cover (boundaries_by (cluster_rules c.args.clusters)) c.cover.ensures dictionaries

pub returns-clause-runs : goal.returns-clause-runs
returns-clause-runs c = λ dictionaries. runs-covered (by_dictionaries dictionaries (boundaries_by (cluster_rules c.args.clusters))) (dictionaries-cover (boundaries_by (cluster_rules c.args.clusters)) c.cover.ensures dictionaries)
