use Rattle.std.proofs.Common.{◌≡◌, ◌<◌, ◌∷◌, length}
use Rattle.seg_pairs.proofs.Walks.{IsMidway}
use Rattle.seg_pairs.proofs.walk.walk.Given as goal

abbrev pub invariant-loop-element : goal.invariant-loop-element
invariant-loop-element g l = record {
  midway : IsMidway l.table l.start (l.fn.left ∷ l.fn.right ∷ g.E.Elements.left l.fn.rest) l.state l.before (g.E.Elements.left l.rest)
      l.saved_before l.saved (g.E.Elements.left l.saved_rest) l.saved_class;
  saved : l.saved.class < l.table.property_count;
  end : g.E.Elements.end l.rest ≡ g.E.Elements.end l.fn.rest;
  table : g.E.Elements.table l.rest ≡ g.E.Elements.table l.fn.rest;
  saved_end : g.E.Elements.end l.saved_rest ≡ g.E.Elements.end l.fn.rest;
  saved_table : g.E.Elements.table l.saved_rest ≡ g.E.Elements.table l.fn.rest;
}

abbrev pub decreases-loop-element : goal.decreases-loop-element
decreases-loop-element g l = length (g.E.Elements.left l.rest)
