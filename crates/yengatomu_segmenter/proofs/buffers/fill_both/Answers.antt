use Rattle.std.proofs.Common.{ℕ, ◌+◌, ◌∙◌}
use Rattle.std.proofs.lemmas.List.{drop-map}
use Rattle.icu_segmenter.specs.Boundary.{Boundary}
use Rattle.icu_segmenter.proofs.Given.{cover-up-to, numbers-behind, offsets-behind}
use Rattle.yengatomu_segmenter.proofs.Later.{filled-changed, numbers-of, written-fit}
use Rattle.yengatomu_segmenter.proofs.buffers.fill_both.Goals as goal

pub put_later-requires-clause-fits : goal.put_later-requires-clause-fits
put_later-requires-clause-fits g c =
    let behind = offsets-behind g.B.BreakIterator.mark g.B.BreakIterator.left _ _ _ c.next_break-start.ensures in
    written-fit _ _ _ _ _ _ _ c.requires.fits (rw behind (cover-up-to _ _ c.requires.cover)) c.fill_both-count.ensures.places

pub returns-clause-places : goal.returns-clause-places
returns-clause-places g c =
    let behind = offsets-behind g.B.BreakIterator.mark g.B.BreakIterator.left _ _ _ c.next_break-start.ensures in
    let all = drop-map (λ (found : Boundary). found.offset) 1 (g.B.BreakIterator.left c.args.breaks) in
    rw (← (behind ∙ all)) (filled-changed (λ (place : ℕ). c.args.from + place) _ _ _ _ _ _ c.fill_both-count.ensures.places c.put_later.ensures)

pub returns-clause-marks : goal.returns-clause-marks
returns-clause-marks g c =
    let number = λ (status : ℕ). g.M.Mark.number (g.B.BreakIterator.mark status) in
    let behind = numbers-behind g.B.BreakIterator.mark g.B.BreakIterator.left g.M.Mark.number _ _ _ c.next_break-start.ensures in
    rw (← (numbers-of number _ ∙ behind)) (filled-changed number _ _ _ _ _ _ c.fill_both-count.ensures.marks c.put_marks.ensures)
