-- The texts are the words up to here, all of which are UTF-8.
use Rattle.std.proofs.Common.{◌≡◌}
use Rattle.std.specs.Prelude.{take}
use Rattle.icu_segmenter.specs.WordSets.{code_points_of_each}
use Rattle.yengatomu_segmenter.specs.Loaded.{AreUtf8}
use Rattle.yengatomu_segmenter.proofs.dictionary.texts_of.Given as goal

abbrev pub invariant-loop-index : goal.invariant-loop-index
invariant-loop-index l = record {
  texts : code_points_of_each l.texts.items ≡ code_points_of_each (take l.index l.words);
  utf8 : AreUtf8 (take l.index l.words);
}
