-- So many lines were read.
use Rattle.segment_text.proofs.LineByLine.{IsBehind}
use Rattle.segment_text.proofs.limit.first_lines.Given as goal

abbrev pub invariant-lines : goal.invariant-lines
invariant-lines l = IsBehind l.text l.rest l._line
