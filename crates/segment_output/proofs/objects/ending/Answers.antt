-- What is written, token by token.
use Rattle.std.proofs.Common.{refl}
use Rattle.std.specs.Fmt.{digits}
use Rattle.json.specs.Print.{escape_byte, print_from}
use Rattle.segment_output.proofs.objects.ending.Goals as goal

pub returns-in-Unmarked-clause-value : goal.returns-in-Unmarked-clause-value
unfolding print_from escape_byte
returns-in-Unmarked-clause-value c = rw c.in-Unmarked.is refl

pub returns-in-Line-true-clause-value : goal.returns-in-Line-true-clause-value
unfolding print_from escape_byte
returns-in-Line-true-clause-value c = rw (c.in-Line-true.is, c.in-Line-true.field-0-test) refl

pub returns-in-Line-false-clause-value : goal.returns-in-Line-false-clause-value
unfolding print_from escape_byte
returns-in-Line-false-clause-value c = rw (c.in-Line-false.is, c.in-Line-false.field-0-test) refl

pub returns-in-Rule-true-clause-value : goal.returns-in-Rule-true-clause-value
unfolding print_from escape_byte digits
returns-in-Rule-true-clause-value c = rw (c.in-Rule-true.is, c.in-Rule-true.field-0-test) refl

pub returns-in-Rule-false-clause-value : goal.returns-in-Rule-false-clause-value
unfolding print_from escape_byte digits
returns-in-Rule-false-clause-value c = rw (c.in-Rule-false.is, c.in-Rule-false.field-0-test) refl
