use Rattle.icu_segmenter.specs.Decoding.{utf8}
use Rattle.seg_wrap.proofs.Texts.{utf8-text}
use Rattle.yengatomu_segmenter.proofs.Spans.{fit-of, given-of, ok-given}
use Rattle.yengatomu_segmenter.proofs.balanced.lines.Goals as goal

pub returns-in-Some-clause-given : goal.returns-in-Some-clause-given
returns-in-Some-clause-given c =
    ok-given _ _ _
    (λ spans given. c.in-Some.ensures.paragraphs utf8 c.args.columns c.args.text.now c.args.from spans.items
    (given-of _ _ _ _ _ _ _ _ _ _ c.paragraphs_utf8-paragraphs.ensures c.balanced-style.ensures c.rest_of.ensures.rest given))
    c.next_paragraph.ensures.given

pub returns-in-Some-clause-within : goal.returns-in-Some-clause-within
returns-in-Some-clause-within c =
    ok-given _ _ _
    (λ spans given. fit-of _ _ (utf8 c.rest_of.result.now) _ _ _ (utf8-text c.rest_of.result.now) c.paragraphs_utf8-paragraphs.ensures.text
    c.rest_of.ensures.fits given)
    c.next_paragraph.ensures.given
