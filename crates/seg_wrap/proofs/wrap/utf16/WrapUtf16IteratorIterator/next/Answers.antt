use Rattle.std.proofs.Common.{arith}
use Rattle.seg_text.specs.Decoding.{utf16}
use Rattle.seg_text.specs.Lemmas.Rising.{utf16_items-rises}
use Rattle.seg_lines.proofs.Progress.{fewer}
use Rattle.seg_wrap.proofs.Given.{end-within, lines-next, lines-none, rest-next, span-order}
use Rattle.seg_wrap.specs.WrappedLines.{utf16_lines_to_come}
use Rattle.seg_wrap.proofs.wrap.utf16.WrapUtf16IteratorIterator.next.Goals as goal

pub invariant_of-self : goal.invariant_of-self
invariant_of-self c = record { rest = rest-next (utf16 c.args.self.now.units.now) _ _ _ (utf16_items-rises 0 c.args.self.now.units.now) c.args.self.now.rest c.next_span.ensures }

pub returns-in_err-line-clause-steps : goal.returns-in_err-line-clause-steps
returns-in_err-line-clause-steps c = rw c.from_residual.ensures (lines-none _ _ _ c.in_err-line.ensures)

pub part-requires-clause-order : goal.part-requires-clause-order
part-requires-clause-order c = span-order (utf16 c.args.self.now.units.now) _ _ _ (utf16_items-rises 0 c.args.self.now.units.now) c.args.self.now.rest c.in_ok-line.ensures

pub part-requires-clause-within : goal.part-requires-clause-within
part-requires-clause-within c = omega (arith, end-within (utf16 c.args.self.now.units.now) _ _ _ (utf16_items-rises 0 c.args.self.now.units.now) c.args.self.now.rest c.in_ok-line.ensures)

pub returns-clause-steps : goal.returns-clause-steps
returns-clause-steps c = rw c.part.ensures (lines-next _ _ _ _ c.in_ok-line.ensures)

pub returns-clause-goes : goal.returns-clause-goes
returns-clause-goes c = fewer utf16_lines_to_come _ _ _ _ (returns-clause-steps c)
