-- So many places were written, and their boundaries are gone.
use Rattle.std.proofs.Common.{length}
use Rattle.seg_text.specs.Boundaries.{offsets}
use Rattle.seg_text.proofs.Filling.{Filling, Writing}
use Rattle.seg_text.proofs.reach.write_places.Given as goal

abbrev pub invariant-loop-index : goal.invariant-loop-index
invariant-loop-index g l = record {
  writing : Writing (length l.initial.places) (g.B.BoundarySource.remainder l.initial.source) (g.B.BoundarySource.remainder l.source) l.index;
  filling : Filling (offsets (g.B.BoundarySource.remainder l.initial.source).left) l.initial.places l.places l.index (offsets (g.B.BoundarySource.remainder l.source).left);
}
