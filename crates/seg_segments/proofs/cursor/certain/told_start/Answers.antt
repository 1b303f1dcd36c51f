use Rattle.std.proofs.Common.{subst}
use Rattle.seg_text.specs.Items.{IsRising, Text}
use Rattle.seg_segments.proofs.Certain.{reads-first, reads-next, sought, told-here}
use Rattle.seg_segments.proofs.cursor.certain.told_start.Goals as goal

pub loop-at-init : goal.loop-at-init
loop-at-init g c =
    let (k, is) = sought _ _ _ _ c.of-items.ensures.text c.seek.ensures c.requires c.of-items.ensures.start in
    record {
      read = reads-first _ k _ _ _ (_, _) (_, _) is c.in_ok-before.ensures.gives c.in_ok-one.ensures.gives c.in_ok-before.ensures.end c.in_ok-one.ensures.end;
      order = tt;
      told = tt;
    }

pub loop-at-preserved-then-may_begin : goal.loop-at-preserved-then-may_begin
loop-at-preserved-then-may_begin g c =
    let read = c.loop-at.invariant.read in
    let next = c.in-Some.ensures.gives in
    record {
      read = reads-next _ _ _ _ _ _ _ read next c.in-Some.ensures.end;
      order = c.if-at-place.false;
      told =
          told-here (g.S.BoundaryFinder.find c.args.segmenter.now) g.T.Source.Source.decode (g.T.Units.units c.args.text) _ _ _ _ _ _ c.has_certain_places-is_boundary.result
          (g.met.T.Source.Source.rests (g.T.Units.units c.args.text))
          (subst (λ (text : Text). IsRising text.items text.end) c.of-items.ensures.text (g.met.T.Source.Cursor.rises c.of-items.result)) read next
          (λ known. c.may_begin.ensures.breaks known c.if-may_begin.true) (c.may_begin.ensures.begins c.if-may_begin.true);
    }

pub loop-at-preserved : goal.loop-at-preserved
loop-at-preserved g c = record {
  read = reads-next _ _ _ _ _ _ _ c.loop-at.invariant.read c.in-Some.ensures.gives c.in-Some.ensures.end;
  order = c.loop-at.invariant.order;
  told = c.loop-at.invariant.told;
}
