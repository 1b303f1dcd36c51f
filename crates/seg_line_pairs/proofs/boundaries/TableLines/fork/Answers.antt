use Rattle.std.proofs.Common.{ap, ◌∙◌}
use Rattle.seg_clusters.specs.Payloads.{payloads_of, run_cuts_by}
use Rattle.seg_line_pairs.specs.LineBoundaries.{inside}
use Rattle.seg_line_pairs.specs.LineEvents.{line_remainder}
use Rattle.seg_line_pairs.proofs.boundaries.TableLines.fork.Goals as goal

pub returns : goal.returns
returns g c =
    let s = c.self.inside in
    let cut = inside (run_cuts_by (payloads_of s.payloads)) in
    ap (λ source. line_remainder cut s.started c.fork-2.result (g.S.LineSource.unread source)) c.fork.ensures
    ∙ ap (λ run. line_remainder cut s.started run (g.S.LineSource.unread s.source)) c.fork-2.ensures
    ∙ c.self.view_is
