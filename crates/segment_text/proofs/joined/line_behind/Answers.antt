-- Behind a line feed another line begins.
use Rattle.std.proofs.Common.{◌==◌, ap, ne_eqb, sym, ◌∙◌}
use Rattle.segment_text.proofs.Words.{begins}
use Rattle.segment_text.proofs.joined.line_behind.Goals as goal

pub returns : goal.returns
returns c =
    begins c.args.line.now c.args.after.now c.args.gap c.indentation_len.result c.requires.within (ap (λ n. n == 0) (sym c.line_feeds.ensures.value) ∙ ne_eqb _ _ c.if-line_feeds-eq0.false)
    c.indentation_len.ensures.value
