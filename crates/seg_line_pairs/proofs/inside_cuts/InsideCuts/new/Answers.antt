use Rattle.std.proofs.Common.{◌∙◌, ap}
use Rattle.seg_clusters.specs.Payloads.{payloads_of, run_cuts_by}
use Rattle.seg_line_pairs.specs.LineEvents.{places_before}
use Rattle.seg_line_pairs.proofs.LinesLeft.{inside-places}
use Rattle.seg_line_pairs.proofs.inside_cuts.InsideCuts.new.Goals as goal

pub returns : goal.returns
returns g c =
    ap (places_before c.args.end) c.new.ensures
    ∙ inside-places (run_cuts_by (payloads_of c.args.payloads)) (g.I.Cursor.text c.args.run) c.args.end c.requires (g.met.I.Cursor.rises c.args.run)
