use Rattle.std.proofs.Common.{◌≡◌, ◌-◌}
use Rattle.seg_data.specs.Building.{AreAdded}
use Rattle.seg_data.specs.WordSets.{held}
use Rattle.seg_data.proofs.provider.dictionary.building.Draft.add_edges.Given as goal

abbrev pub invariant-loop-first : goal.invariant-loop-first
invariant-loop-first l = record {
  added : AreAdded (held l.words) l.depth l.begin l.first l.end l.initial.self.ranges.items l.self.ranges.items l.initial.self.edges.items l.self.edges.items;
  flags : l.self.flags ≡ l.initial.self.flags;
  starts : l.self.starts ≡ l.initial.self.starts;
}

abbrev pub decreases-loop-first : goal.decreases-loop-first
decreases-loop-first l = l.end - l.first
