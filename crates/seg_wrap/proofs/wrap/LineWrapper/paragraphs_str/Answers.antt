use Rattle.seg_text.specs.Decoding.{utf8}
use Rattle.seg_lines.specs.LineBreaks.{line_boundaries_by}
use Rattle.seg_lines.specs.Lines.{line_rules}
use Rattle.seg_wrap.proofs.Starts.{after-first}
use Rattle.seg_wrap.proofs.Texts.{utf8-text}
use Rattle.seg_wrap.proofs.wrap.LineWrapper.paragraphs_str.Goals as goal

pub new-requires-2 : goal.new-requires-2
new-requires-2 c =
    rw c.new.ensures
    (after-first c.args.text.now (utf8 c.args.text.now) (line_boundaries_by (line_rules c.args.self.lines)) c.segment_str-breaks.result.boundaries c.next-start.new.self.boundaries _
    (utf8-text c.args.text.now) c.segment_str-breaks.ensures.boundaries c.segment_str-breaks.ensures.cover c.next-start.ensures.steps.1).1
