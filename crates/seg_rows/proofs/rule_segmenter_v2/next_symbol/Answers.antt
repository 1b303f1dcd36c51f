use Rattle.std.proofs.Common.{arith}
use Rattle.seg_machine.proofs.Scanned.{begins-next, begins-end, one-less, none-less}
use Rattle.seg_rows.proofs.rule_segmenter_v2.next_symbol.Goals as goal

pub returns-in-Some : goal.returns-in-Some
returns-in-Some g c = record {
  below = c.symbol.ensures.text.1;
  begins = λ state here. begins-next _ _ _ _ _ c.in-Some.ensures.gives c.in-Some.ensures.end c.symbol.ensures.value state;
  left = one-less _ _ _ c.in-Some.ensures.gives c.in-Some.ensures.end;
}

pub returns-in-None : goal.returns-in-None
returns-in-None g c = record {
  below = omega (arith, c.facts.ensures.text_symbols 0);
  begins = λ state here. begins-end _ c.facts.ensures _ _ c.in-None.ensures.gives.0 c.in-None.ensures.gives.1 c.in-None.ensures.end state here;
  left = none-less _ _ c.in-None.ensures.gives.0 c.in-None.ensures.gives.1 c.in-None.ensures.end;
}
