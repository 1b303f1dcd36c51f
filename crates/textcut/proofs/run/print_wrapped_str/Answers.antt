-- The lines are the sample lines, and all of them come.
use Rattle.std.proofs.Common.{◌≡◌, List, OnOk, ap, subst, ◌∙◌}
use Rattle.std.specs.Io.KnownBytes.{Appends}
use Rattle.icu_segmenter.specs.Boundary.{Boundary}
use Rattle.icu_segmenter.specs.LineBreaks.{LineRules, IsByPairTable}
use Rattle.icu_segmenter.specs.Decoding.{utf8}
use Rattle.icu_segmenter.specs.Wrapping.{Measure, TextLine, by_characters, even, segments_of, text_lines, wrapped_lines}
use Rattle.icu_segmenter.specs.WrappedLines.{lines_to_come, wrapped_text, wrapper_rules}
use Rattle.textcut.specs.Command.{sample_lines}
use Rattle.textcut.specs.Wrapped.{printed_lines}
use Rattle.textcut.proofs.run.print_wrapped_str.Goals as goal

pub unreachable-requires : goal.unreachable-requires
unreachable-requires g c =
    c.in_ok-lines.ensures.finder (subst (λ (rules : LineRules). IsByPairTable rules.finder) c.as_borrowed.ensures c.in_default.ensures.rejected)

pub returns-clause-printed : goal.returns-clause-printed
returns-clause-printed g c =
    let bytes = c.args.text.now in
    let lines : lines_to_come c.wrap_str.result ≡ wrapped_text by_characters sample_lines c.args.columns bytes =
    c.wrap_str.ensures.lines
    ∙ ap (λ (measure : Measure). wrapped_text measure (wrapper_rules c.in-Ok.wrapper) c.args.columns bytes) c.in-Ok.ensures.measure
    ∙ ap (λ (rules : LineRules). wrapped_text by_characters rules c.args.columns bytes) (c.in-Ok.ensures.made.0 ∙ c.as_borrowed.ensures)
    ∙ ap (λ (found : List Boundary). text_lines bytes (utf8 bytes) (wrapped_lines (even c.args.columns) (segments_of by_characters (utf8 bytes) found))) (c.in_ok-lines.ensures.breaks (utf8 bytes)) in
    subst (λ (lines : List TextLine). OnOk c.print_wrapped_lines.result (Appends (g.O.Write.contents c.args.out.now) (g.O.Write.contents c.print_wrapped_lines.new.out) (printed_lines lines)))
    lines c.print_wrapped_lines.ensures.printed
