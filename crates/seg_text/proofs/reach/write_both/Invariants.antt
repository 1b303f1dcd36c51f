-- So many places and statuses were written, and their boundaries are gone.
use Rattle.seg_text.specs.Boundaries.{offsets}
use Rattle.seg_text.specs.Filled.{statuses}
use Rattle.seg_text.proofs.Filling.{Filling, Writing}
use Rattle.seg_text.proofs.reach.write_both.Given as goal

abbrev pub invariant-loop-index : goal.invariant-loop-index
invariant-loop-index g l = record {
  writing : Writing l.room (g.B.BoundarySource.remainder l.initial.source) (g.B.BoundarySource.remainder l.source) l.index;
  places : Filling (offsets (g.B.BoundarySource.remainder l.initial.source).left) l.initial.places l.places l.index (offsets (g.B.BoundarySource.remainder l.source).left);
  statuses_are : Filling (statuses (g.B.BoundarySource.remainder l.initial.source).left) l.initial.statuses l.statuses l.index (statuses (g.B.BoundarySource.remainder l.source).left);
}
