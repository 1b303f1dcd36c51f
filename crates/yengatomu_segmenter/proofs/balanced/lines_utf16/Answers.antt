use Rattle.icu_segmenter.specs.Decoding.{utf16}
use Rattle.seg_wrap.proofs.Texts.{utf16-text}
use Rattle.yengatomu_segmenter.proofs.Spans.{fit-of, given-of, ok-given}
use Rattle.yengatomu_segmenter.proofs.balanced.lines_utf16.Goals as goal

pub returns-in-Some-clause-given : goal.returns-in-Some-clause-given
returns-in-Some-clause-given c =
    ok-given _ _ _
    (λ spans given. c.in-Some.ensures.paragraphs utf16 c.args.columns c.args.text.now c.args.from spans.items
    (given-of _ _ _ _ _ _ _ _ _ _ c.paragraphs_utf16-paragraphs.ensures c.balanced-style.ensures c.rest_of.ensures.rest given))
    c.next_paragraph.ensures.given

pub returns-in-Some-clause-within : goal.returns-in-Some-clause-within
returns-in-Some-clause-within c =
    ok-given _ _ _
    (λ spans given. fit-of _ _ (utf16 c.rest_of.result.now) _ _ _ (utf16-text c.rest_of.result.now) c.paragraphs_utf16-paragraphs.ensures.text
    c.rest_of.ensures.fits given)
    c.next_paragraph.ensures.given
