-- One line more is printed.
use Rattle.std.proofs.Common.{ℕ, List, subst, ◌∙◌}
use Rattle.std.specs.Io.KnownBytes.{Appends}
use Rattle.icu_segmenter.specs.WrappedLines.{line_in}
use Rattle.textcut.specs.Wrapped.{printed_line}
use Rattle.textcut.proofs.LinesMore.{printed-more}
use Rattle.textcut.proofs.wrapped.print_wrapped.Goals as goal

pub loop-line-preserved : goal.loop-line-preserved
loop-line-preserved g c =
    printed-more line_in _ _ _ c.loop-line.yielded c.in-Some.line c.loop-line.invariant
    (subst (λ (bytes : List ℕ). Appends (g.O.Write.contents c.loop-line.out) (g.O.Write.contents c.write_line.new.out) (printed_line bytes))
    (c.as_bytes.ensures.value ∙ c.text.ensures) c.in_ok-write_line.ensures)
