use Rattle.seg_text.specs.Decoding.{utf8}
use Rattle.seg_lines.specs.LineBreaks.{line_boundaries_by}
use Rattle.seg_lines.specs.Lines.{line_rules}
use Rattle.seg_wrap.proofs.Starts.{after-first}
use Rattle.seg_wrap.proofs.Texts.{utf8-text}
use Rattle.seg_wrap.proofs.wrap.LineWrapper.paragraphs_utf8.Goals as goal

pub new-requires-2 : goal.new-requires-2
new-requires-2 c =
    rw c.new.ensures
    (after-first c.args.bytes.now (utf8 c.args.bytes.now) (line_boundaries_by (line_rules c.args.self.lines)) c.segment_utf8-breaks.result.boundaries c.next-start.new.self.boundaries _
    (utf8-text c.args.bytes.now) c.segment_utf8-breaks.ensures.boundaries c.segment_utf8-breaks.ensures.cover c.next-start.ensures.steps.1).1
