use Rattle.std.proofs.Common.{◌≡◌, length}
use Rattle.seg_text.specs.Items.{start_of}
use Rattle.seg_machine.specs.MachineFaults.{IsChecked}
use Rattle.seg_machine.specs.Tailored.{machine_of}
use Rattle.seg_clusters.specs.Payloads.{payloads_of, piece_cuts_by}
use Rattle.seg_clusters.specs.Scripts.{CoverPieces}
use Rattle.seg_words.specs.WordsLeft.{after_span, last_of, span_left, spans_left}
use Rattle.seg_words.proofs.neo.NeoBoundariesBoundarySource.next_boundary.Given as goal

abbrev pub invariant-loop-boundary : goal.invariant-loop-boundary
invariant-loop-boundary g l =
    let s = l.self-inside in
    let m = machine_of s.machine in
    let payloads = payloads_of s.payloads in record {
      checked : IsChecked m;
      cover : CoverPieces (piece_cuts_by payloads);
      left : spans_left m payloads s.span s.has_begun (g.I.Cursor.text s.rest) ≡ l.fn.self.left;
      last : last_of s.place (span_left s.span) ≡ start_of (after_span m payloads.words s.has_begun (g.I.Cursor.text s.rest));
    }

abbrev pub decreases-loop-boundary : goal.decreases-loop-boundary
decreases-loop-boundary g l = let s = l.self-inside in length (after_span (machine_of s.machine) (payloads_of s.payloads).words s.has_begun (g.I.Cursor.text s.rest)).items
