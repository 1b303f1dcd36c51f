-- What has been written so far is the lines of the numbers so far.
use Rattle.std.specs.Io.KnownBytes.{Appends}
use Rattle.textcut.specs.Lines.{lines_of}
use Rattle.textcut.proofs.lines.print_lines.Given as goal

abbrev pub invariant-loop-number : goal.invariant-loop-number
invariant-loop-number g l =
    Appends (g.O.Write.contents l.fn.out) (g.O.Write.contents l.out) (lines_of l.yielded)
