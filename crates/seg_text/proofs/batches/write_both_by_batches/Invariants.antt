-- So many places and statuses were written, and their boundaries are gone.
use Rattle.std.proofs.Common.{◌-◌}
use Rattle.seg_text.specs.Boundaries.{offsets}
use Rattle.seg_text.specs.Filled.{statuses}
use Rattle.seg_text.proofs.Filling.{Filling, Writing}
use Rattle.seg_text.proofs.batches.write_both_by_batches.Given as goal

abbrev pub invariant-loop-done : goal.invariant-loop-done
invariant-loop-done g l = record {
  writing : Writing l.room (g.B.BoundarySource.remainder l.initial.source) (g.B.BoundarySource.remainder l.source) l.done;
  places : Filling (offsets (g.B.BoundarySource.remainder l.initial.source).left) l.initial.places l.places l.done (offsets (g.B.BoundarySource.remainder l.source).left);
  statuses_are : Filling (statuses (g.B.BoundarySource.remainder l.initial.source).left) l.initial.statuses l.statuses l.done (statuses (g.B.BoundarySource.remainder l.source).left);
}

abbrev pub decreases-loop-done : goal.decreases-loop-done
decreases-loop-done g l = l.room - l.done
