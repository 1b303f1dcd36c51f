-- What has come up to the certain place is written, and the rest is held.
use Rattle.std.proofs.Common.{◌≡◌, ℕ, ◌≤◌, Global, List, Vec, length, take, sym, ap, subst, ◌∙◌}
use Rattle.std.specs.Io.KnownBytes.{Appends}
use Rattle.icu_segmenter.specs.Boundaries.{IsCover}
use Rattle.icu_segmenter.specs.NearBoundaries.{SplitsAt}
use Rattle.segment_text.specs.Size.{size_of}
use Rattle.segment_output.specs.Output.{lines_at}
use Rattle.segment_output.specs.Parts.{look_by}
use Rattle.segment_output.specs.TextSegmenter.{boundaries_by, segments_to}
use Rattle.segment_output.proofs.SplitText.{added-amid, none-of, where-all}
use Rattle.segment_output.proofs.parts.add_amid.Goals as goal

pub returns-in-Ok-clause-added : goal.returns-in-Ok-clause-added
returns-in-Ok-clause-added g c =
    let segmenter = c.in-Segments.segmenter in
    let place : ℕ = c.in-Some.place in
    let held : List ℕ = c.hold.new.held.items in
    let kept = ap (λ (held : Vec ℕ Global). held.items) c.in_ok-held.ensures.all in
    let printed : c.as_slice-2.result.now ≡ held = c.as_slice-2.ensures.value ∙ kept in
    let front : c.deref.result.now ≡ held = c.deref.ensures.value ∙ kept in
    where-all c.count.result
    (λ size made count.
    added-amid c.args.splitting c.args.block.now held place c.in-Ok.segments _ c.args.progress.now c.keep_from.new.self c.count.new.self _ _ _
    segmenter c.in-Segments.style c.in-Segments.file c.in-Segments.is (none-of c.args.splitting.preparation.tabs (sym c.is_some.ensures ∙ c.if-is_some.false)) c.if-splitting.false
    (subst (λ (bytes : List ℕ). place ≤ length bytes) c.as_slice.ensures.value c.in-Some.ensures.within)
    (subst (λ (bytes : List ℕ). SplitsAt (boundaries_by segmenter.now) bytes place) c.as_slice.ensures.value c.in-Some.ensures.splits)
    (subst (λ (bytes : List ℕ). IsCover 0 (length bytes) (boundaries_by segmenter.now bytes)) printed c.print_part.ensures.cover) c.in_ok-hold.ensures
    c.in_ok-held.ensures.held c.count.ensures.held c.in_ok-held.ensures.size c.in_ok-held.ensures.made c.in_ok-held.ensures.segments
    (c.of.ensures ∙ ap (λ (bytes : List ℕ). size_of (take place bytes)) front)
    (subst (λ (bytes : List ℕ). (c.in-Ok.segments ≡ length (segments_to segmenter.now place bytes))
    × Appends (g.O.Write.contents c.args.out.now) (g.O.Write.contents c.print_part.new.out)
    (lines_at (look_by c.in-Segments.style c.in-Segments.file) c.keep_from.new.self.made bytes (segments_to segmenter.now place bytes))) printed c.in-Ok.ensures.written)
    size made count)
    c.count.ensures.size c.count.ensures.made c.count.ensures.segments
