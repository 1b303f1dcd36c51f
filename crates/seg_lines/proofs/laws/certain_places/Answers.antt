use Rattle.std.proofs.Common.{ap}
use Rattle.seg_clusters.specs.Payloads.{payloads_of}
use Rattle.seg_lines.specs.Lines.{finder_of, line_rules}
use Rattle.seg_lines.proofs.CertainLines.{by-clusters, by-machine}
use Rattle.seg_lines.proofs.laws.certain_places.Goals as goal

pub returns-in-Machine-clause-breaks : goal.returns-in-Machine-clause-breaks
returns-in-Machine-clause-breaks c certain =
    (by-machine (line_rules c.args.segmenter) _ (ap finder_of c.in-Machine.is) c.facts-in-Machine.ensures c.facts.ensures.pieces _ _ _ certain).breaks

pub returns-in-Machine-clause-parts : goal.returns-in-Machine-clause-parts
returns-in-Machine-clause-parts c certain =
    (by-machine (line_rules c.args.segmenter) _ (ap finder_of c.in-Machine.is) c.facts-in-Machine.ensures c.facts.ensures.pieces _ _ _ certain).parts

pub returns-in-Machine-clause-begins : goal.returns-in-Machine-clause-begins
returns-in-Machine-clause-begins c certain =
    (by-machine (line_rules c.args.segmenter) _ (ap finder_of c.in-Machine.is) c.facts-in-Machine.ensures c.facts.ensures.pieces _ _ _ certain).begins

pub returns-in_default-clause-breaks : goal.returns-in_default-clause-breaks
returns-in_default-clause-breaks c certain =
    (by-clusters (payloads_of c.args.segmenter.payloads) c.args.segmenter.finder c.in_default.not-Machine _ _ _ c.cover.ensures c.certain_places.ensures.breaks c.certain_places.ensures.parts certain).breaks

pub returns-in_default-clause-parts : goal.returns-in_default-clause-parts
returns-in_default-clause-parts c certain =
    (by-clusters (payloads_of c.args.segmenter.payloads) c.args.segmenter.finder c.in_default.not-Machine _ _ _ c.cover.ensures c.certain_places.ensures.breaks c.certain_places.ensures.parts certain).parts

pub returns-in_default-clause-begins : goal.returns-in_default-clause-begins
returns-in_default-clause-begins c certain =
    (by-clusters (payloads_of c.args.segmenter.payloads) c.args.segmenter.finder c.in_default.not-Machine _ _ _ c.cover.ensures c.certain_places.ensures.breaks c.certain_places.ensures.parts certain).begins
