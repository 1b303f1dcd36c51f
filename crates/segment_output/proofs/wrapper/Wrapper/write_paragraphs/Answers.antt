-- One paragraph more is given.
use Rattle.std.proofs.Common.{◌≡◌, ℕ, List, true, false, rules, subst, sym}
use Rattle.std.specs.Io.KnownBytes.{Appends}
use Rattle.segment_output.specs.Paragraphs.{AppendsSome, IsWrittenFrom}
use Rattle.segment_output.specs.Wrapper.{wrapping_of}
use Rattle.segment_output.proofs.GivenParagraphs.{IsProgress, progress-all, progress-end, progress-fewer, progress-next, progress-none, progress-written}
use Rattle.segment_output.proofs.wrapper.Wrapper.write_paragraphs.Goals as goal

pub paragraphs-init : goal.paragraphs-init
paragraphs-init g c =
    let wrapping = wrapping_of c.args.self.now in
    let out = g.O.Write.contents c.args.out.now in
    subst (λ (lines : List ℕ). IsProgress wrapping c.args.self.now.patterns c.args.text.now c.args.paragraphs.now c.args.paragraphs.now lines out out) (sym c.in_ok-gathered.ensures.items)
    (progress-none wrapping c.args.self.now.patterns c.args.text.now c.args.paragraphs.now out c.requires)

pub paragraphs-smaller-in_ok-write_lines : goal.paragraphs-smaller-in_ok-write_lines
paragraphs-smaller-in_ok-write_lines g c =
    let some : c.in_ok-push_paragraph.field-0 ≡ true = search rules in
    progress-fewer (wrapping_of c.args.self.now) c.args.self.now.patterns c.args.text.now c.args.paragraphs.now _ _ _ _ _ c.in_ok-push_paragraph.ensures some

pub paragraphs-preserved-in_ok-write_lines : goal.paragraphs-preserved-in_ok-write_lines
paragraphs-preserved-in_ok-write_lines g c =
    let wrapping = wrapping_of c.args.self.now in
    progress-written wrapping c.args.self.now.patterns c.args.text.now c.args.paragraphs.now _ _ _ _ _ _
    (progress-next wrapping c.args.self.now.patterns c.args.text.now c.args.paragraphs.now _ _ _ _ _ c.in_ok-push_paragraph.ensures _ _ c.paragraphs.invariant) c.in_ok-write_lines.ensures

pub paragraphs-smaller : goal.paragraphs-smaller
paragraphs-smaller g c =
    let some : c.in_ok-push_paragraph.field-0 ≡ true = search rules in
    progress-fewer (wrapping_of c.args.self.now) c.args.self.now.patterns c.args.text.now c.args.paragraphs.now _ _ _ _ _ c.in_ok-push_paragraph.ensures some

pub paragraphs-preserved : goal.paragraphs-preserved
paragraphs-preserved g c =
    progress-next (wrapping_of c.args.self.now) c.args.self.now.patterns c.args.text.now c.args.paragraphs.now _ _ _ _ _ c.in_ok-push_paragraph.ensures _ _ c.paragraphs.invariant

pub returns : goal.returns
returns g c =
    let wrapping = wrapping_of c.args.self.now in
    let none : c.in_ok-push_paragraph.field-0 ≡ false = search rules in
    let slice : Appends (g.O.Write.contents c.paragraphs.out) (g.O.Write.contents c.write_all.new.self) c.push_paragraph.new.gathered.items = search rules in
    let shown : AppendsSome (g.O.Write.contents c.args.out.now) (g.O.Write.contents c.write_all.new.self) (IsWrittenFrom wrapping c.args.self.now.patterns c.args.text.now c.args.paragraphs.now) =
    progress-all wrapping c.args.self.now.patterns c.args.text.now c.args.paragraphs.now _ _ _ _ _
    (progress-next wrapping c.args.self.now.patterns c.args.text.now c.args.paragraphs.now _ _ _ _ _ c.in_ok-push_paragraph.ensures _ _ c.paragraphs.invariant)
    (progress-end wrapping c.args.self.now.patterns c.args.text.now c.args.paragraphs.now _ _ _ _ _ c.in_ok-push_paragraph.ensures none) slice in
    search rules
