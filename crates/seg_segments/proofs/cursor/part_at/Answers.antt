use Rattle.seg_segments.proofs.Certain.{boundary-from, part-from}
use Rattle.seg_segments.proofs.Parts.{cover-starts}
use Rattle.seg_segments.proofs.cursor.part_at.Goals as goal

pub returns-clause-starts : goal.returns-clause-starts
returns-clause-starts g c = cover-starts _ _ c.cover-2.ensures

pub returns-clause-part : goal.returns-clause-part
returns-clause-part g c =
    part-from g.T.Source.Source.decode (g.S.BoundaryFinder.find c.args.segmenter.now) _ _ _ _ _
    c.requires.parts c.parts_at-before.ensures.front c.parts_at-before.ensures.back c.requires.cover c.cover.ensures c.start_before-start.ensures.begins

pub returns-clause-boundary : goal.returns-clause-boundary
returns-clause-boundary g c known =
    boundary-from g.T.Source.Source.decode (g.S.BoundaryFinder.find c.args.segmenter.now) _ _ _ _ _
    c.requires.parts c.parts_at-before.ensures.front c.parts_at-before.ensures.back c.requires.cover c.cover.ensures c.start_before-start.ensures.begins known
