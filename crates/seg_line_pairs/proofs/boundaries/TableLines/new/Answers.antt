use Rattle.std.proofs.Common.{ap, refl, ◌∙◌, [], ◌∷◌}
use Rattle.seg_text.specs.Boundaries.{boundary}
use Rattle.seg_text.specs.Items.{start_of}
use Rattle.seg_clusters.specs.Payloads.{payloads_of, piece_cuts_by, run_cuts_by}
use Rattle.seg_line_pairs.specs.LineBoundaries.{inside}
use Rattle.seg_line_pairs.proofs.LinesLeft.{no-inside, with-none}
use Rattle.seg_line_pairs.proofs.boundaries.TableLines.new.Goals as goal

pub returns-clause-boundaries : goal.returns-clause-boundaries
returns-clause-boundaries g c =
    let unread = g.S.LineSource.unread c.args.source in
    let cuts = inside (run_cuts_by (payloads_of c.args.payloads)) in
    let none = c.new.ensures ∙ no-inside (piece_cuts_by (payloads_of c.args.payloads)) _ _ c.nothing.ensures in
    ap (λ found. boundary (start_of unread.text) 0 ∷ found) (with-none (unread.later cuts) _ (unread.later cuts []) none refl)
