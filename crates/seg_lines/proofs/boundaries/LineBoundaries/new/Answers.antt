use Rattle.std.proofs.Common.{List, ap, sym, ◌∙◌, subst}
use Rattle.seg_text.specs.declared.boundary.Boundary.{Boundary}
use Rattle.seg_text.specs.Items.{code_points, start_of}
use Rattle.seg_text.specs.Boundaries.{IsCover, boundaries_in, offsets, with_status}
use Rattle.seg_clusters.specs.Rules.{boundaries_by}
use Rattle.seg_clusters.specs.Payloads.{payloads_of}
use Rattle.seg_lines.specs.declared.finder.Finder.{Finder}
use Rattle.seg_lines.specs.LineBreaks.{boundaries_with}
use Rattle.seg_lines.specs.Lines.{finder_of}
use Rattle.seg_lines.proofs.PlainBoundaries.{plain-cover, plain-places}
use Rattle.seg_lines.proofs.boundaries.LineBoundaries.new.Goals as goal

pub returns-in-Places-clause-boundaries : goal.returns-in-Places-clause-boundaries
returns-in-Places-clause-boundaries g c =
    let text = g.I.Cursor.text c.args.text in
    let payloads = payloads_of c.args.payloads in
    c.new.ensures.boundaries
    ∙ ap (λ (found : List Boundary). with_status 0 (offsets found)) c.boundaries-in-Places.ensures.boundaries
    ∙ plain-places text (boundaries_by payloads.clusters (code_points text.items))
    ∙ sym (ap (λ (finder : Finder). boundaries_in (boundaries_with (finder_of finder) payloads) text) c.in-Places.is)

pub returns-in-Places-clause-cover : goal.returns-in-Places-clause-cover
returns-in-Places-clause-cover g c =
    let text = g.I.Cursor.text c.args.text in
    subst (λ (found : List Boundary). IsCover (start_of text) text.end found) (sym c.new.ensures.boundaries)
    (plain-cover (start_of text) text.end c.boundaries-in-Places.result.left c.boundaries-in-Places.ensures.cover)
