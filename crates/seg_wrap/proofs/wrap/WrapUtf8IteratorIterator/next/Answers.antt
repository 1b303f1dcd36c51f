use Rattle.std.proofs.Common.{arith}
use Rattle.seg_text.specs.Decoding.{utf8}
use Rattle.seg_text.specs.Lemmas.Rising.{utf8_items-rises}
use Rattle.seg_lines.proofs.Progress.{fewer}
use Rattle.seg_wrap.proofs.Given.{end-within, lines-next, lines-none, rest-next, span-order}
use Rattle.seg_wrap.specs.WrappedLines.{utf8_lines_to_come}
use Rattle.seg_wrap.proofs.wrap.WrapUtf8IteratorIterator.next.Goals as goal

pub invariant_of-self : goal.invariant_of-self
invariant_of-self c = record { rest = rest-next (utf8 c.args.self.now.bytes.now) _ _ _ (utf8_items-rises 0 c.args.self.now.bytes.now) c.args.self.now.rest c.next_span.ensures }

pub returns-in_err-line-clause-steps : goal.returns-in_err-line-clause-steps
returns-in_err-line-clause-steps c = rw c.from_residual.ensures (lines-none _ _ _ c.in_err-line.ensures)

pub slice_bounds-result-count : goal.slice_bounds-result-count
slice_bounds-result-count c = span-order (utf8 c.args.self.now.bytes.now) _ _ _ (utf8_items-rises 0 c.args.self.now.bytes.now) c.args.self.now.rest c.in_ok-line.ensures

pub slice_bounds-result-start : goal.slice_bounds-result-start
slice_bounds-result-start c = span-order (utf8 c.args.self.now.bytes.now) _ _ _ (utf8_items-rises 0 c.args.self.now.bytes.now) c.args.self.now.rest c.in_ok-line.ensures

pub slice_bounds-result-end : goal.slice_bounds-result-end
slice_bounds-result-end c = omega (arith, end-within (utf8 c.args.self.now.bytes.now) _ _ _ (utf8_items-rises 0 c.args.self.now.bytes.now) c.args.self.now.rest c.in_ok-line.ensures)

pub returns-clause-steps : goal.returns-clause-steps
returns-clause-steps c = lines-next _ _ _ _ c.in_ok-line.ensures

pub returns-clause-goes : goal.returns-clause-goes
returns-clause-goes c = fewer utf8_lines_to_come _ _ _ _ (returns-clause-steps c)
