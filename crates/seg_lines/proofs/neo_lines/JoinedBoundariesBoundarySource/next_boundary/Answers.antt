use Rattle.std.proofs.Common.{◌++◌, List, sym, ap, subst, ◌∙◌}
use Rattle.std.specs.Option.{option_to_list}
use Rattle.seg_text.specs.declared.boundary.Boundary.{Boundary}
use Rattle.seg_text.specs.Boundaries.{offsets}
use Rattle.seg_machine.specs.Tailored.{machine_of}
use Rattle.seg_rows.specs.Underway.{behind}
use Rattle.seg_clusters.specs.Payloads.{payloads_of}
use Rattle.seg_clusters.specs.Spans.{cuts_left}
use Rattle.seg_lines.specs.LineBreaks.{AreRising, joined}
use Rattle.seg_lines.proofs.Joins.{boundary-step, both-step, cut-step}
use Rattle.seg_lines.proofs.neo_lines.JoinedBoundariesBoundarySource.next_boundary.Goals as goal

pub returns-in-Cut : goal.returns-in-Cut
returns-in-Cut g c =
    let first = c.in-Cut.ensures in
    let found = c.next_found-self-inside.ensures in
    let cut = c.next_cut-self-inside.ensures in
    let left = cuts_left (machine_of c.self.inside.machine) (payloads_of c.self.inside.payloads) in
    rw (← c.self.view_is)
    (ap (λ (l : List Boundary). joined l (option_to_list c.self.inside.cut ++ left c.self.inside.cuts)) (sym found.same)
    ∙ cut-step c.self.inside.cut c.next_cut-self-inside.result (left c.self.inside.cuts) (left c.next_cut-self-inside.new.cuts) cut.same c.self.invariant.1
    c.next_found-self-inside.result (behind (machine_of c.self.inside.machine) (g.I.Cursor.text c.next_found-self-inside.new.rest)) c.in-Cut.place first.0 first.1
    (subst (λ (l : List Boundary). AreRising (offsets l)) (sym found.same) c.self.invariant.0) found.none)

pub returns-in-Boundary : goal.returns-in-Boundary
returns-in-Boundary g c =
    let first = c.in-Boundary.ensures in
    let found = c.next_found-self-inside.ensures in
    let cut = c.next_cut-self-inside.ensures in
    let left = cuts_left (machine_of c.self.inside.machine) (payloads_of c.self.inside.payloads) in
    rw (← c.self.view_is)
    (ap (λ (l : List Boundary). joined l (option_to_list c.self.inside.cut ++ left c.self.inside.cuts)) (sym found.same)
    ∙ boundary-step c.self.inside.cut c.next_cut-self-inside.result (left c.self.inside.cuts) (left c.next_cut-self-inside.new.cuts) cut.same c.self.invariant.1
    c.next_found-self-inside.result (behind (machine_of c.self.inside.machine) (g.I.Cursor.text c.next_found-self-inside.new.rest)) c.in-Boundary.boundary first.0 first.1 cut.beyond)

pub returns-in-Both : goal.returns-in-Both
returns-in-Both g c =
    let first = c.in-Both.ensures in
    let found = c.next_found-self-inside.ensures in
    let cut = c.next_cut-self-inside.ensures in
    let left = cuts_left (machine_of c.self.inside.machine) (payloads_of c.self.inside.payloads) in
    rw (← c.self.view_is)
    (ap (λ (l : List Boundary). joined l (option_to_list c.self.inside.cut ++ left c.self.inside.cuts)) (sym found.same)
    ∙ both-step c.self.inside.cut c.next_cut-self-inside.result (left c.self.inside.cuts) (left c.next_cut-self-inside.new.cuts) cut.same c.self.invariant.1
    c.next_found-self-inside.result (behind (machine_of c.self.inside.machine) (g.I.Cursor.text c.next_found-self-inside.new.rest)) c.in-Both.boundary first.0 first.1)
