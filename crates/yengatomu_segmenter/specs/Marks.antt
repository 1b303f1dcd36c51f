-- The numbers of the types of words.
use Rattle.std.specs.Prelude.{ℕ}
use Rattle.icu_segmenter.specs.declared.options.WordType.{WordType}
use Rattle.icu_segmenter.specs.declared.options.WordType.TheVariants.{None, Number, Letter}

abbrev pub number_of_type : WordType → ℕ
number_of_type None = 0
number_of_type Number = 1
number_of_type Letter = 2
