use Rattle.std.proofs.Common.{ap, ◌∙◌, refl}
use Rattle.seg_text.specs.Boundaries.{boundaries_in, list_boundaries}
use Rattle.seg_pairs.specs.Breaks.{Unread, complex_stretch}
use Rattle.seg_clusters.specs.Payloads.{payloads_of, piece_cuts_by, run_cuts_by}
use Rattle.seg_words.proofs.Left.{new-cover, no-cuts}
use Rattle.seg_words.proofs.classic.ClassicBoundaries.new.Goals as goal

pub returns-clause-boundaries : goal.returns-clause-boundaries
returns-clause-boundaries g c =
    let cuts = run_cuts_by (payloads_of c.args.payloads) in
    ap (λ (unread : Unread). boundaries_in (list_boundaries (complex_stretch cuts unread.table unread.overriding)) unread.text) c.new-events.ensures

pub returns-clause-cover : goal.returns-clause-cover
returns-clause-cover g c = new-cover (run_cuts_by (payloads_of c.args.payloads)) c.facts.ensures.runs _ _ _ _ c.new-events.ensures (g.met.I.Cursor.rises c.args.text)

pub invariant_of-result : goal.invariant_of-result
invariant_of-result g c = λ not_started. (refl, c.new.ensures ∙ no-cuts (piece_cuts_by (payloads_of c.args.payloads)) _ _ c.nothing.ensures)
