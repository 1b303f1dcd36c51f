-- So many ends were written, and those that are left stay in the text.
use Rattle.std.proofs.Common.{◌+◌, ◌<◌, ◌^◌, length}
use Rattle.icu_segmenter.specs.WrappedLines.{joined_units}
use Rattle.yengatomu_segmenter.specs.Wrapped.{ends_from}
use Rattle.icu_segmenter.proofs.Filling.{Filling}
use Rattle.yengatomu_segmenter.proofs.wrapped.fill.Given as goal

abbrev pub invariant-loop-index : goal.invariant-loop-index
invariant-loop-index g l = record {
  filling : Filling (ends_from l.from (g.L.WrappedLines.left l.fn.lines)) l.initial.ends l.ends l.index (ends_from l.end (g.L.WrappedLines.left l.lines));
  inside : l.end + length (joined_units (g.L.WrappedLines.left l.lines)) < 2 ^ 64;
}
