-- So many ends and widths were written.
use Rattle.std.proofs.Common.{drop}
use Rattle.icu_segmenter.proofs.Filling.{Filling}
use Rattle.yengatomu_segmenter.specs.Balanced.{span_ends, span_widths}
use Rattle.yengatomu_segmenter.proofs.balanced.put.Given as goal

abbrev pub invariant-loop-index : goal.invariant-loop-index
invariant-loop-index l = record {
  ends : Filling (span_ends l.from l.spans) l.initial.ends l.ends l.index (drop l.index (span_ends l.from l.spans));
  widths : Filling (span_widths l.spans) l.initial.widths l.widths l.index (drop l.index (span_widths l.spans));
}
