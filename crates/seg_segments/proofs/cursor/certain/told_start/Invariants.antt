use Rattle.std.proofs.Common.{◌≤◌, length}
use Rattle.std.specs.Prelude.{IfSome}
use Rattle.seg_segments.specs.declared.cursor.certain.Start.{Start}
use Rattle.seg_segments.specs.NearBoundaries.{IsTold}
use Rattle.seg_segments.proofs.Certain.{ReadsTwo}
use Rattle.seg_segments.proofs.cursor.certain.told_start.Given as goal

-- the last two items that were read are before those that are left; what was found may begin a search
abbrev pub invariant-loop-at : goal.invariant-loop-at
invariant-loop-at g l = record {
  read : ReadsTwo (g.T.Source.Source.decode (g.T.Units.units l.fn.text)) l.before l.one (g.T.Source.Cursor.text l.items);
  order : IfSome l.found (λ (start : Start). start.place ≤ l.place);
  told : IfSome l.found (IsTold g.T.Source.Source.decode (g.S.BoundaryFinder.find l.segmenter) (g.T.Units.units l.fn.text));
}

abbrev pub decreases-loop-at : goal.decreases-loop-at
decreases-loop-at g l = length (g.T.Source.Cursor.text l.items).items
