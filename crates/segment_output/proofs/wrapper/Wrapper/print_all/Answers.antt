-- One line more is gathered.
use Rattle.std.proofs.Common.{◌≡◌, ℕ, List, map, ap, sym, rules}
use Rattle.std.proofs.lemmas.Iterator.Consumers.{YieldsList-end, YieldsList-from_first}
use Rattle.std.specs.Io.KnownBytes.{Appends}
use Rattle.icu_segmenter.specs.WrappedLines.{utf8_line_in, utf8_lines_to_come}
use Rattle.segment_output.specs.Wrapped.{shown_line, shown_lines}
use Rattle.segment_output.specs.Wrapper.{wrapping_of}
use Rattle.segment_output.proofs.Gathered.{gathered-all, gathered-written}
use Rattle.segment_output.proofs.ShownLines.{gathered-line}
use Rattle.segment_output.proofs.wrapper.Wrapper.print_all.Goals as goal

pub loop-line-preserved : goal.loop-line-preserved
loop-line-preserved g c =
    gathered-line (shown_line (wrapping_of c.args.self.now)) utf8_line_in c.loop-line.yielded c.in-Some.line _ _ _ _ c.loop-line.invariant
    (c.in_ok-push_shown.ensures (utf8_line_in c.in-Some.line) (sym c.bytes.ensures) (sym c.columns.ensures) (sym c.is_first.ensures))

pub loop-line-preserved-in-Continue-branch-3 : goal.loop-line-preserved-in-Continue-branch-3
loop-line-preserved-in-Continue-branch-3 g c =
    gathered-written _ _ _ _ _ _
    (gathered-line (shown_line (wrapping_of c.args.self.now)) utf8_line_in c.loop-line.yielded c.in-Some.line _ _ _ _ c.loop-line.invariant
    (c.in_ok-push_shown.ensures (utf8_line_in c.in-Some.line) (sym c.bytes.ensures) (sym c.columns.ensures) (sym c.is_first.ensures)))
    c.in_ok-write_lines.ensures

pub returns : goal.returns
returns g c =
    let all : List ℕ = shown_lines (wrapping_of c.args.self.now) (map utf8_line_in c.loop-line.yielded) in
    let slice : Appends (g.O.Write.contents c.loop-line.out) (g.O.Write.contents c.write_all.new.self) c.loop-line.gathered.items = search rules in
    let written : Appends (g.O.Write.contents c.args.out.now) (g.O.Write.contents c.write_all.new.self) all =
    gathered-all _ _ _ _ _ c.loop-line.invariant slice in
    let drained : map utf8_line_in c.loop-line.yielded ≡ utf8_lines_to_come c.args.lines =
    (YieldsList-end (YieldsList-from_first utf8_line_in utf8_lines_to_come (utf8_lines_to_come c.args.lines) (ap utf8_lines_to_come c.into_iter-line-iterator.ensures.into_iter_gives)) c.loop-line.yielded _ c.loop-line.yielded_by c.next.result c.next.new.self c.in-None.is c.next.ensures.steps).0 in
    search rules
