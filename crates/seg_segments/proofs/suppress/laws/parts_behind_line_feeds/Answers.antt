use Rattle.std.proofs.Common.{refl}
use Rattle.seg_data.specs.WordSets.{Words}
use Rattle.seg_clusters.proofs.SplitTexts.{texts-split}
use Rattle.seg_clusters.specs.Clusters.{sentence_rules}
use Rattle.seg_clusters.specs.Rules.{boundaries_by}
use Rattle.seg_segments.specs.Abbreviations.{abbreviations_of}
use Rattle.seg_segments.specs.Suppression.{without_abbreviated}
use Rattle.seg_segments.proofs.Feeds.{in-parts}
use Rattle.seg_segments.proofs.Texts.{found-covers}
use Rattle.seg_segments.proofs.suppress.laws.parts_behind_line_feeds.Goals as goal

pub returns : goal.returns
returns c resets =
    let words : Words = abbreviations_of c.args.abbreviations.now in
    let find = boundaries_by (sentence_rules c.args.segmenter) in
    texts-split (without_abbreviated words find) (λ cs. found-covers words find cs (c.cover.ensures cs)) 10
    (in-parts words c.args.abbreviations.now.in_lines find c.cover.ensures (c.parts_behind_resets.ensures resets).lists) refl
