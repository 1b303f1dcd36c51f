use Rattle.std.proofs.Common.{◌≡◌, length, refl, arith}
use Rattle.seg_data.proofs.Drafts.{added-start, added-more}
use Rattle.seg_data.proofs.provider.dictionary.building.Draft.add_edges.Goals as goal

pub loop-first-init : goal.loop-first-init
loop-first-init c = record {
  added = added-start _ _ _ _ _ _ c.requires.range.order;
  flags = refl;
  starts = refl;
}

pub loop-first-preserved : goal.loop-first-preserved
loop-first-preserved c =
    let value = c.code_point.ensures.value in
    let next : c.len.result ≡ length c.loop-first.self.ranges.items = omega arith in
    record {
      added = rw (c.in_ok-push.ensures.items, c.in_ok-push-2.ensures.items, value, next)
          (added-more _ _ _ _ _ _ _ _ _ _ c.requires.range c.requires.longer c.loop-first.invariant.added c.loop-first-test.true c.group_end-next.ensures);
      flags = c.loop-first.invariant.flags;
      starts = c.loop-first.invariant.starts;
    }
