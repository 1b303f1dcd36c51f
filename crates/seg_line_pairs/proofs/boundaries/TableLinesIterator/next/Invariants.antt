use Rattle.std.proofs.Common.{◌≡◌, ◌++◌, true, length}
use Rattle.seg_text.specs.Boundaries.{with_status}
use Rattle.seg_clusters.specs.Payloads.{payloads_of, run_cuts_by}
use Rattle.seg_line_pairs.specs.LineBoundaries.{inside}
use Rattle.seg_line_pairs.proofs.boundaries.TableLinesIterator.next.Given as goal

abbrev pub invariant-loop-place : goal.invariant-loop-place
invariant-loop-place g l =
    let s = l.self-inside in record {
      started : s.started ≡ true;
      left : with_status 0 s.run ++ (g.S.LineSource.unread s.source).later (inside (run_cuts_by (payloads_of s.payloads))) s.run ≡ l.fn.self.left;
    }

abbrev pub decreases-loop-place : goal.decreases-loop-place
decreases-loop-place g l = length (g.S.LineSource.unread l.self-inside.source).text.items
