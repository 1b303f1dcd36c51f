-- What is written of a type, token by token.
use Rattle.std.proofs.Common.{refl}
use Rattle.json.specs.Print.{escape_byte, print_from}
use Rattle.segment_output.proofs.objects.word_ending.Goals as goal

pub returns-in-None-clause-value : goal.returns-in-None-clause-value
unfolding print_from escape_byte
returns-in-None-clause-value c = rw c.in-None.is refl

pub returns-in-Number-clause-value : goal.returns-in-Number-clause-value
unfolding print_from escape_byte
returns-in-Number-clause-value c = rw c.in-Number.is refl

pub returns-in-Letter-clause-value : goal.returns-in-Letter-clause-value
unfolding print_from escape_byte
returns-in-Letter-clause-value c = rw c.in-Letter.is refl
