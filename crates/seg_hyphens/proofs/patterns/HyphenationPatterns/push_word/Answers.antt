use Rattle.std.proofs.Common.{◌++◌, ap, sym, subst, ◌∙◌, encode_utf8_all}
use Rattle.std.proofs.lemmas.Result.{on_ok_weaker}
use Rattle.seg_text.specs.Items.{code_points}
use Rattle.seg_hyphens.specs.Liang.{ArePoints}
use Rattle.seg_hyphens.specs.Words.{lowered}
use Rattle.seg_hyphens.proofs.PointPlaces.{pushes-word}
use Rattle.seg_hyphens.proofs.patterns.HyphenationPatterns.push_word.Goals as goal

pub returns : goal.returns
returns g c =
    let word = c.as_str.ensures.value ∙ c.in_ok-push_lower.ensures
    ∙ ap (λ xs. xs ++ encode_utf8_all (lowered (code_points (g.I.Cursor.text c.args.word.now).items))) c.clear.ensures.bytes in
    on_ok_weaker c.push_points.result (pushes-word c.args.self.now (g.I.Cursor.text c.args.word.now) c.as_str.result.now c.as_slice.result.now c.args.places.now.items c.push_points.new.places.items word
    (λ hyphenation means. subst (λ points. ArePoints hyphenation c.as_str.result.now points) (sym c.as_slice.ensures.value) (c.in_ok-points.ensures.points hyphenation means)))
    c.push_points.ensures
