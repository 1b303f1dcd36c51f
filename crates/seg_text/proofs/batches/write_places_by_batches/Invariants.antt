-- So many places were written, and their boundaries are gone.
use Rattle.std.proofs.Common.{◌-◌, length}
use Rattle.seg_text.specs.Boundaries.{offsets}
use Rattle.seg_text.proofs.Filling.{Filling, Writing}
use Rattle.seg_text.proofs.batches.write_places_by_batches.Given as goal

abbrev pub invariant-loop-done : goal.invariant-loop-done
invariant-loop-done g l = record {
  writing : Writing (length l.initial.places) (g.B.BoundarySource.remainder l.initial.source) (g.B.BoundarySource.remainder l.source) l.done;
  places : Filling (offsets (g.B.BoundarySource.remainder l.initial.source).left) l.initial.places l.places l.done (offsets (g.B.BoundarySource.remainder l.source).left);
}

abbrev pub decreases-loop-done : goal.decreases-loop-done
decreases-loop-done g l = length l.initial.places - l.done
