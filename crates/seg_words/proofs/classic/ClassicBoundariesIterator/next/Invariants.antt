use Rattle.std.proofs.Common.{◌≡◌, ◌++◌, true, length}
use Rattle.seg_text.specs.Boundaries.{with_status}
use Rattle.seg_pairs.specs.Breaks.{run_status, unread_boundaries}
use Rattle.seg_clusters.specs.Payloads.{payloads_of, piece_cuts_by, run_cuts_by}
use Rattle.seg_clusters.specs.Scripts.{CoverPieces}
use Rattle.seg_words.proofs.classic.ClassicBoundariesIterator.next.Given as goal

abbrev pub invariant-loop-place : goal.invariant-loop-place
invariant-loop-place g l =
    let s = l.self-inside in record {
      started : s.started ≡ true;
      cover : CoverPieces (piece_cuts_by (payloads_of s.payloads));
      left : with_status (run_status s.events.table) s.run ++ unread_boundaries (run_cuts_by (payloads_of s.payloads)) s.events ≡ l.fn.self.left;
    }

abbrev pub decreases-loop-place : goal.decreases-loop-place
decreases-loop-place g l = length l.self-inside.events.text.items
