use Rattle.std.proofs.Common.{ℕ, List, subst}
use Rattle.std.specs.Prelude.{length}
use Rattle.icu_segmenter.specs.Boundaries.{IsCover, boundaries_in}
use Rattle.icu_segmenter.specs.Decoding.{utf16}
use Rattle.yengatomu_segmenter.specs.Finders.{find_by, finder_of}
use Rattle.yengatomu_segmenter.proofs.GoingOn.{behind-feeds, feeds-utf16}
use Rattle.yengatomu_segmenter.proofs.laws.goes_on_utf16.Goals as goal

pub returns : goal.returns
returns c reset begins =
    behind-feeds (find_by (finder_of c.args.segmenter.now)) utf16 (feeds-utf16 (find_by (finder_of c.args.segmenter.now)) (c.parts.ensures reset)) c.args.text.now c.args.from begins c.cover.ensures
    (subst (λ (units : List ℕ). IsCover 0 (length units) (boundaries_in (find_by (finder_of c.args.segmenter.now)) (utf16 units))) c.front_of.ensures c.cover-2.ensures)
