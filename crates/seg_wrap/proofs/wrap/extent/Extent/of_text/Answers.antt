use Rattle.std.proofs.Common.{arith}
use Rattle.seg_wrap.proofs.Extents.{measuring-end, measuring-next, measuring-room}
use Rattle.seg_wrap.proofs.wrap.extent.Extent.of_text.Goals as goal

pub followed_by-extent-requires : goal.followed_by-extent-requires
followed_by-extent-requires g c = omega (arith, measuring-room _ _ _ (g.met.I.Cursor.rises c.args.text) c.items.invariant, c.requires)

pub items-preserved : goal.items-preserved
items-preserved g c = measuring-next _ _ _ _ _ _ c.items.invariant c.in-Some.ensures.gives c.followed_by-extent.ensures

pub returns-clause-small : goal.returns-clause-small
returns-clause-small g c = measuring-room _ _ _ (g.met.I.Cursor.rises c.args.text) c.items.invariant

pub returns-clause-measured : goal.returns-clause-measured
returns-clause-measured g c = measuring-end _ _ _ c.items.invariant c.in_default.ensures.gives.0
