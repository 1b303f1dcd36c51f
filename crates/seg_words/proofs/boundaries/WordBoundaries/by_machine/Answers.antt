use Rattle.std.proofs.Common.{List, map, sym, ap, ◌∙◌}
use Rattle.seg_text.specs.declared.boundary.Boundary.{Boundary}
use Rattle.seg_text.specs.Items.{code_points}
use Rattle.seg_text.specs.Boundaries.{boundary_in}
use Rattle.seg_machine.specs.Tailored.{machine_of}
use Rattle.seg_clusters.specs.Payloads.{payloads_of}
use Rattle.seg_words.proofs.Spans.{without-words}
use Rattle.seg_words.proofs.boundaries.WordBoundaries.by_machine.Goals as goal

pub returns-then-is_empty-clause-boundaries : goal.returns-then-is_empty-clause-boundaries
returns-then-is_empty-clause-boundaries g c =
    let text = g.I.Cursor.text c.args.text in
    c.new.ensures.left
    ∙ ap (λ (found : List Boundary). map (boundary_in text) found)
    (sym (without-words (machine_of c.args.machine) (payloads_of c.args.payloads) (c.is_empty.ensures.0 c.if-is_empty.true) (code_points text.items)))
