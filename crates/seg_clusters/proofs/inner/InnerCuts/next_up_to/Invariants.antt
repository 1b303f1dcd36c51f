use Rattle.std.proofs.Common.{◌≡◌, ◌++◌, [], length}
use Rattle.std.specs.Prelude.{None}
use Rattle.std.specs.Option.{option_to_list}
use Rattle.seg_text.specs.Boundaries.{cut_places}
use Rattle.seg_machine.specs.Tailored.{machine_of}
use Rattle.seg_rows.specs.Underway.{IsLater}
use Rattle.seg_clusters.specs.Spans.{but_the_last, cuts_left, inner_cuts}
use Rattle.seg_clusters.specs.Payloads.{payloads_of, piece_cuts_by, piece_left}
use Rattle.seg_clusters.specs.Scripts.{CoverPieces}
use Rattle.seg_clusters.proofs.inner.InnerCuts.next_up_to.Given as goal

abbrev pub invariant-loop-place : goal.invariant-loop-place
invariant-loop-place g l =
    let s = l.self-inside in record {
      cover : CoverPieces (piece_cuts_by (payloads_of l.payloads));
      held : s.held ≡ None → piece_left s.run ≡ [];
      left : but_the_last (option_to_list s.held ++ piece_left s.run) ++ cut_places (inner_cuts (machine_of l.machine) (payloads_of l.payloads)) (g.I.Cursor.text s.rest)
          ≡ cuts_left (machine_of l.machine) (payloads_of l.payloads) l.fn.self;
      later : IsLater l.fn.self.rest (g.I.Cursor.text s.rest);
    }

abbrev pub decreases-loop-place : goal.decreases-loop-place
decreases-loop-place g l = length (g.I.Cursor.text l.self-inside.rest).items
