use Rattle.std.proofs.Common.{◌≡◌, ◌≤◌, length}
use Rattle.seg_machine.specs.Tailored.{machine_of}
use Rattle.seg_clusters.specs.Payloads.{payloads_of, piece_cuts_by}
use Rattle.seg_clusters.specs.Scripts.{CoverPieces}
use Rattle.seg_text.specs.Boundaries.{cut_places}
use Rattle.seg_rows.specs.Underway.{IsLater}
use Rattle.seg_clusters.specs.Spans.{inner_cuts}
use Rattle.seg_clusters.proofs.inner.next_run.Given as goal

abbrev pub invariant-items : goal.invariant-items
invariant-items g l =
    let inside = cut_places (inner_cuts (machine_of l.machine) (payloads_of l.payloads)) in record {
      cover : CoverPieces (piece_cuts_by (payloads_of l.payloads));
      same : inside (g.I.Cursor.text l.rest) ≡ inside (g.I.Cursor.text l.fn.rest);
      later : IsLater (g.I.Cursor.text l.fn.rest) (g.I.Cursor.text l.rest);
      fewer : length (g.I.Cursor.text l.rest).items ≤ length (g.I.Cursor.text l.fn.rest).items;
    }

abbrev pub decreases-items : goal.decreases-items
decreases-items g l = length (g.I.Cursor.text l.rest).items
