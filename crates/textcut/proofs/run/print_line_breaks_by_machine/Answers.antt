-- The lines are the sample lines, which have all the boundaries left when the iterator is made.
use Rattle.std.proofs.Common.{List, ℕ, OnOk, ap, subst, ◌∙◌}
use Rattle.std.specs.Io.KnownBytes.{Appends}
use Rattle.icu_segmenter.specs.Boundaries.{offsets}
use Rattle.icu_segmenter.specs.LineBreaks.{LineRules, line_boundaries_of}
use Rattle.icu_segmenter.specs.Decoding.{utf8}
use Rattle.textcut.specs.Lines.{lines_of}
use Rattle.textcut.proofs.run.print_line_breaks_by_machine.Goals as goal

pub returns-clause-printed : goal.returns-clause-printed
returns-clause-printed g c =
    let text = utf8 c.args.text.now in
    let places =
    ap (λ (rules : LineRules). offsets (line_boundaries_of rules text)) c.as_borrowed.ensures
    ∙ ap offsets (c.in_ok-lines.ensures.breaks text) in
    subst (λ (places : List ℕ). OnOk c.print_line_breaks.result (Appends (g.O.Write.contents c.args.out.now) (g.O.Write.contents c.print_line_breaks.new.out) (lines_of places)))
    places c.print_line_breaks.ensures.printed
