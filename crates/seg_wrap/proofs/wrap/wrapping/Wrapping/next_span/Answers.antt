use Rattle.std.proofs.Common.{ap, sym, ◌∙◌, length}
use Rattle.seg_text.specs.Items.{rest_after, start_of}
use Rattle.seg_wrap.specs.Walk.{LinesLeft, measure_of}
use Rattle.seg_wrap.proofs.Walks.{given-span}
use Rattle.seg_wrap.proofs.wrap.wrapping.Wrapping.next_span.Goals as goal

pub returns : goal.returns
returns g c =
    let span = given-span (measure_of c.self.inside.setting.measuring) _ _ _ _ _ _ _ _ _ _ c.in_ok-first.was c.next_line-held.ensures.piece (c.seek.ensures _ c.next_line-held.ensures.piece.1.at) c.next_line-held.ensures.lines in (
      span.0,
      (
        ap (λ (left : LinesLeft). left.lines) (sym c.self.view_is) ∙ span.1.0,
        (
          span.1.1.0 ∙ ap (λ (left : LinesLeft). rest_after (length span.0.characters) left.text) c.self.view_is,
          (
            c.place-start.ensures ∙ ap (λ (left : LinesLeft). start_of left.text) c.self.view_is,
            span.1.1.1,
          ),
        ),
      ),
    )
