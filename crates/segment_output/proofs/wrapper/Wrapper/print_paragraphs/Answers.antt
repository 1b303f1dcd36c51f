-- The paragraphs are those of the text.
use Rattle.std.proofs.Common.{subst, sym}
use Rattle.seg_wrap.proofs.Texts.{utf8-text}
use Rattle.segment_output.specs.Paragraphs.{IsTextWithin}
use Rattle.segment_output.proofs.wrapper.Wrapper.print_paragraphs.Goals as goal

pub write_paragraphs-requires : goal.write_paragraphs-requires
write_paragraphs-requires g c =
    let is = utf8-text c.args.text.now in
    subst (IsTextWithin c.args.text.now) (sym (c.paragraphs_utf8-paragraphs.ensures.text)) (is.rises, is.end)
