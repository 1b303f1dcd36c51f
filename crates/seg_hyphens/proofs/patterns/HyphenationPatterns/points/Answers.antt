use Rattle.std.proofs.Common.{rules, List, ℕ, subst, sym, take, drop, length, get_or, ◌++◌, ◌≡◌}
use Rattle.seg_hyphens.specs.Liang.{ArePoints, IsValue, edged}
use Rattle.seg_hyphens.proofs.Choosing.{points-are, written-back}
use Rattle.seg_hyphens.proofs.patterns.HyphenationPatterns.points.Goals as goal

pub returns-clause-points : goal.returns-clause-points
returns-clause-points c = λ hyphenation means.
    let back : take c.resize.new.self.len (c.set_values.new.values ++ drop (length c.set_values.new.values) c.resize.new.self.items) ≡ c.set_values.new.values =
    written-back _ _ _ (search rules) (search rules) in
    subst (λ (word : List ℕ). ArePoints hyphenation word c.keep_places.new.values.items) c.as_bytes-letters.ensures.value
    (points-are hyphenation _ _ _ _ _ means.left means.right
    (λ place h. subst (λ (values : List ℕ). IsValue hyphenation.patterns (edged c.as_bytes-letters.result.now) place (get_or values place 0)) (sym back)
    (c.set_values.ensures hyphenation.patterns means.keeps place h))
    c.keep_places.ensures.are c.keep_places.ensures.ordered)
