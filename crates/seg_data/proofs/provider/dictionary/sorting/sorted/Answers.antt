use Rattle.std.proofs.lemmas.List.Filters.{dedup_is}
use Rattle.seg_data.proofs.Sorted.{kept-order, kept-same}
use Rattle.seg_data.proofs.provider.dictionary.sorting.sorted.Goals as goal

pub returns-clause-order : goal.returns-clause-order
returns-clause-order c = rw (dedup_is _ _ _ c.dedup.ensures.filtered) (kept-order c.sort.new.self.items c.in_ok-sort.ensures.sorted)

pub returns-clause-same : goal.returns-clause-same
returns-clause-same c =
    rw (dedup_is _ _ _ c.dedup.ensures.filtered) (kept-same c.in_ok-sorted.sorted.items c.sort.new.self.items _ c.in_ok-sorted.ensures c.sort.ensures.permutation)
