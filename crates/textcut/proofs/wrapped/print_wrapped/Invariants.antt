-- What has been written so far is the lines so far.
use Rattle.std.proofs.Common.{map}
use Rattle.std.specs.Io.KnownBytes.{Appends}
use Rattle.icu_segmenter.specs.WrappedLines.{line_in}
use Rattle.textcut.specs.Wrapped.{printed_lines}
use Rattle.textcut.proofs.wrapped.print_wrapped.Given as goal

abbrev pub invariant-loop-line : goal.invariant-loop-line
invariant-loop-line g l =
    Appends (g.O.Write.contents l.fn.out) (g.O.Write.contents l.out) (printed_lines (map line_in l.yielded))
