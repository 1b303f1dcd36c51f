use Rattle.seg_segments.proofs.cursor.lines.LineSegmenterBorrowedBoundaryFinder.always_breaks.Goals as goal

pub returns-clause-breaks : goal.returns-clause-breaks
returns-clause-breaks c is = c.certain_places.ensures.breaks (c.always_breaks.ensures.0 is)

pub returns-clause-parts : goal.returns-clause-parts
returns-clause-parts c is = c.certain_places.ensures.parts (c.always_breaks.ensures.0 is)

pub returns-clause-begins : goal.returns-clause-begins
returns-clause-begins c is = c.certain_places.ensures.begins (c.always_breaks.ensures.0 is)
