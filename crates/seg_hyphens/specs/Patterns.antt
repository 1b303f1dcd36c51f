-- What patterns that were read mean.
use Rattle.std.specs.Prelude.{◌≡◌}
use Rattle.seg_hyphens.specs.declared.patterns.HyphenationPatterns.{HyphenationPatterns}
use Rattle.seg_hyphens.specs.Liang.{Hyphenation}
use Rattle.seg_hyphens.specs.Tries.{Keeps}

-- they hyphenate words so
pub record Means (patterns : HyphenationPatterns) (hyphenation : Hyphenation) : Type 0 where
  pub keeps : Keeps patterns.trie hyphenation.patterns
  pub left : hyphenation.left ≡ patterns.minima.left
  pub right : hyphenation.right ≡ patterns.minima.right
