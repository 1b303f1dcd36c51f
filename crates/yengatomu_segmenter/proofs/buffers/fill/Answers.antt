use Rattle.std.proofs.Common.{ℕ, ◌+◌, ◌∙◌}
use Rattle.std.proofs.lemmas.List.{drop-map}
use Rattle.icu_segmenter.specs.Boundary.{Boundary}
use Rattle.icu_segmenter.proofs.Given.{cover-up-to, offsets-behind}
use Rattle.yengatomu_segmenter.proofs.Later.{filled-changed, written-fit}
use Rattle.yengatomu_segmenter.proofs.buffers.fill.Goals as goal

pub put_later-requires-clause-fits : goal.put_later-requires-clause-fits
put_later-requires-clause-fits g c =
    let behind = offsets-behind g.B.BreakIterator.mark g.B.BreakIterator.left _ _ _ c.next_break-start.ensures in
    written-fit _ _ _ _ _ _ _ c.requires.fits (rw behind (cover-up-to _ _ c.requires.cover)) c.fill-count.ensures.filled

pub returns : goal.returns
returns g c =
    let behind = offsets-behind g.B.BreakIterator.mark g.B.BreakIterator.left _ _ _ c.next_break-start.ensures in
    let all = drop-map (λ (found : Boundary). found.offset) 1 (g.B.BreakIterator.left c.args.breaks) in
    rw (← (behind ∙ all)) (filled-changed (λ (place : ℕ). c.args.from + place) _ _ _ _ _ _ c.fill-count.ensures.filled c.put_later.ensures)
