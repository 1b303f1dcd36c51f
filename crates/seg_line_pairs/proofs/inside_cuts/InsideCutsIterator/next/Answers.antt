use Rattle.std.proofs.Common.{◌∙◌, ap}
use Rattle.seg_line_pairs.specs.LineEvents.{places_before}
use Rattle.seg_line_pairs.proofs.LinesLeft.{none-before-zero}
use Rattle.seg_line_pairs.proofs.inside_cuts.InsideCutsIterator.next.Goals as goal

pub returns-then-self-eq0-clause-steps : goal.returns-then-self-eq0-clause-steps
returns-then-self-eq0-clause-steps g c =
    let s = c.self.inside in
    let none = ap (λ end. places_before end s.cuts) c.if-self-eq0.true ∙ none-before-zero s.cuts in
    rw (← c.self.view_is) (none, none)
