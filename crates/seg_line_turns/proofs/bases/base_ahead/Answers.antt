use Rattle.std.proofs.Common.{Some, refl, sym, ap, ◌∙◌}
use Rattle.seg_line_pairs.specs.LineUnits.{is_mark}
use Rattle.seg_line_pairs.specs.declared.engines.LineEngine.TheVariants.{Seventeen}
use Rattle.seg_line_pairs.specs.LineBoundaries.{rules_by}
use Rattle.seg_line_turns.proofs.TurnPlaces.{looking-end, looking-found, looking-next}
use Rattle.seg_line_turns.proofs.bases.base_ahead.Goals as goal

pub returns-in_default : goal.returns-in_default
returns-in_default g c = looking-end (rules_by c.args.pairs) (g.I.Cursor.text c.args.rest.now) _ _ _ c.loop-place.invariant.looking c.in_default.ensures.gives.0 refl refl

pub returns-then-not-is_mark : goal.returns-then-not-is_mark
returns-then-not-is_mark g c =
    looking-found (rules_by c.args.pairs) (g.I.Cursor.text c.args.rest.now) _ _ _ _ _ c.loop-place.invariant.looking c.in-Some.ensures.gives c.in-Some.ensures.end
    (ap (is_mark Seventeen) (sym c.class-class.ensures.value) ∙ sym c.is_mark.ensures ∙ c.if-not-is_mark.true) (ap Some c.class-class.ensures.value) refl

pub loop-place-preserved : goal.loop-place-preserved
loop-place-preserved g c = record {
  looking = looking-next (rules_by c.args.pairs) (g.I.Cursor.text c.args.rest.now) _ _ _ _ c.loop-place.invariant.looking c.in-Some.ensures.gives c.in-Some.ensures.end
      (ap (is_mark Seventeen) (sym c.class-class.ensures.value) ∙ sym c.is_mark.ensures ∙ c.if-not-is_mark.false);
}
