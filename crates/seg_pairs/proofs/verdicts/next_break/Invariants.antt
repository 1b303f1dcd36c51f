use Rattle.std.proofs.Common.{◌≡◌, ◌<◌, ◌∷◌, length}
use Rattle.seg_pairs.proofs.Chains.{IsOnChain}
use Rattle.seg_pairs.proofs.verdicts.next_break.Given as goal

abbrev pub invariant-loop-next : goal.invariant-loop-next
invariant-loop-next g l = record {
  on : IsOnChain (g.R.Verdicts.verdict l.rules) (l.fn.left ∷ g.E.Elements.left l.fn.rest) l.left (g.E.Elements.left l.rest);
  class : l.left.class < (g.R.Verdicts.table l.rules).property_count;
  end : g.E.Elements.end l.rest ≡ g.E.Elements.end l.fn.rest;
  table : g.E.Elements.table l.rest ≡ g.E.Elements.table l.fn.rest;
}

abbrev pub decreases-loop-next : goal.decreases-loop-next
decreases-loop-next g l = length (g.E.Elements.left l.rest)
