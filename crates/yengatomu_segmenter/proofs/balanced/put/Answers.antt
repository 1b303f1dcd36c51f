use Rattle.std.proofs.Common.{◌+◌, ◌-◌, ◌<◌, ◌^◌, length, arith}
use Rattle.std.specs.Prelude.{min}
use Rattle.icu_segmenter.proofs.Filling.{went-on}
use Rattle.seg_wrap.specs.declared.wrap.wrapping.Span.{Span}
use Rattle.yengatomu_segmenter.proofs.Spans.{next-of}
use Rattle.yengatomu_segmenter.proofs.balanced.put.Goals as goal

pub loop-index-preserved : goal.loop-index-preserved
loop-index-preserved c =
    let inside : c.loop-index.index < length c.args.spans.now = omega (arith, c.loop-index-test.true, c.min-room.ensures) in
    let first : c.loop-index.index < length c.args.ends.now = omega (arith, c.loop-index-test.true, c.min-room.ensures, c.min.ensures) in
    let second : c.loop-index.index < length c.args.widths.now = omega (arith, c.loop-index-test.true, c.min-room.ensures, c.min.ensures) in
    record {
      ends = went-on _ _ _ _ _ _ _ c.loop-index.invariant.ends (next-of (λ (span : Span). c.args.from + span.end) c.args.spans.now c.loop-index.index _ inside) first;
      widths =
          went-on _ _ _ _ _ _ _ c.loop-index.invariant.widths
          (rw c.min-in-loop-index.ensures (next-of (λ (span : Span). min span.columns (2 ^ 64 - 1)) c.args.spans.now c.loop-index.index _ inside)) second;
    }
