use Rattle.seg_text.specs.Decoding.{utf8}
use Rattle.seg_text.specs.Lemmas.Rising.{utf8_items-rises}
use Rattle.seg_lines.proofs.Progress.{fewer}
use Rattle.seg_wrap.proofs.Given.{end-place, lines-next, lines-none, rest-next, span-order, start-place}
use Rattle.seg_wrap.specs.WrappedLines.{lines_to_come}
use Rattle.seg_wrap.proofs.wrap.WrapIteratorIterator.next.Goals as goal

pub invariant_of-self : goal.invariant_of-self
invariant_of-self c = record { rest = rest-next (utf8 c.args.self.now.text.now) _ _ _ (utf8_items-rises 0 c.args.self.now.text.now) c.args.self.now.rest c.next_span.ensures }

pub returns-in_err-line-clause-steps : goal.returns-in_err-line-clause-steps
returns-in_err-line-clause-steps c = rw c.from_residual.ensures (lines-none _ _ _ c.in_err-line.ensures)

pub part-requires-clause-order : goal.part-requires-clause-order
part-requires-clause-order c = span-order (utf8 c.args.self.now.text.now) _ _ _ (utf8_items-rises 0 c.args.self.now.text.now) c.args.self.now.rest c.in_ok-line.ensures

pub part-requires-clause-start : goal.part-requires-clause-start
part-requires-clause-start c = start-place (utf8 c.args.self.now.text.now) _ _ _ c.args.self.now.rest c.in_ok-line.ensures

pub part-requires-clause-end : goal.part-requires-clause-end
part-requires-clause-end c = end-place (utf8 c.args.self.now.text.now) _ _ _ (utf8_items-rises 0 c.args.self.now.text.now) c.args.self.now.rest c.in_ok-line.ensures

pub returns-clause-steps : goal.returns-clause-steps
returns-clause-steps c = rw c.part.ensures (lines-next _ _ _ _ c.in_ok-line.ensures)

pub returns-clause-goes : goal.returns-clause-goes
returns-clause-goes c = fewer lines_to_come _ _ _ _ (returns-clause-steps c)
