use Rattle.std.proofs.Common.{◌≡◌, ◌++◌, length}
use Rattle.seg_text.specs.Boundaries.{cut_places}
use Rattle.seg_clusters.specs.Payloads.{payloads_of, piece_left, run_cuts_by, piece_cuts_by}
use Rattle.seg_clusters.specs.Scripts.{CoverPieces}
use Rattle.seg_clusters.proofs.runs.RunCutsIterator.next.Given as goal

abbrev pub invariant-loop-place : goal.invariant-loop-place
invariant-loop-place g l =
    let s = l.self-inside in record {
      cover : CoverPieces (piece_cuts_by (payloads_of s.payloads));
      left : piece_left s.piece ++ cut_places (run_cuts_by (payloads_of s.payloads)) s.pieces ≡ l.fn.self;
    }

abbrev pub decreases-loop-place : goal.decreases-loop-place
decreases-loop-place g l = length l.self-inside.pieces.items
