-- Each read adds a block, and the last one gives nothing.
use Rattle.std.proofs.Common.{rules, ℕ, List, ap, subst, sym, take}
use Rattle.std.specs.Io.KnownBytes.{Appends, Consumes}
use Rattle.std.specs.Option.{option_map}
use Rattle.segment_output.specs.TextSegmenter.{boundaries_by}
use Rattle.segment_output.proofs.SplitParts.{all-split, under-way}
use Rattle.segment_output.proofs.splits.print_splits.Goals as goal

pub returns-then-len-eq0-clause-written : goal.returns-then-len-eq0-clause-written
returns-then-len-eq0-clause-written g c =
    let written : Appends (g.O.Write.contents c.reads.out) (g.O.Write.contents c.write_whole.new.out) c.as_slice.result.now = search rules in
    all-split (boundaries_by c.args.parts.segmenter.now) c.args.parts.least (option_map (λ name. name.now) c.args.parts.file) (g.I.Read.remaining c.args.input.now) _ _ _ c.reads.split c.end.new.self _ _
    c.reads.invariant.0 c.in_ok-len.ensures.read.1 (ap (λ (count : ℕ). take count c.read_block.new.block) c.if-len-eq0.true) (c.in_ok-len.ensures.read.2 c.if-len-eq0.true)
    c.in_ok-end.ensures.size c.in_ok-end.ensures.lines
    (subst (λ out. Appends (g.O.Write.contents out) (g.O.Write.contents c.write_whole.new.out) c.end.new.self.lines.items) c.reads.invariant.1
    (subst (λ (bytes : List ℕ). Appends (g.O.Write.contents c.reads.out) (g.O.Write.contents c.write_whole.new.out) bytes) c.as_slice.ensures.value written))

pub reads-preserved : goal.reads-preserved
reads-preserved g c = (
  under-way (boundaries_by c.args.parts.segmenter.now) c.args.parts.least (option_map (λ name. name.now) c.args.parts.file) (g.I.Read.remaining c.args.input.now) _ _ c.split_at.result.0.now
      c.reads.split c.add.new.self c.reads.invariant.0 (subst (Consumes _ _) (sym c.split_at.ensures.front) c.in_ok-len.ensures.read.1) c.in_ok-add.ensures,
  c.reads.invariant.1,
)
