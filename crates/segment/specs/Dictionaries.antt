-- The words of the scripts.
use Rattle.std.specs.Prelude.{Some}
use Rattle.icu_segmenter.specs.ScriptWords.{ScriptWords}
use Rattle.icu_segmenter.specs.WordSets.{Words}
use Rattle.icu_segmenter.specs.declared.provider.ComplexScript.{ComplexScript}
use Rattle.icu_segmenter.specs.declared.provider.ComplexScript.TheVariants.{None, Myanmar, ChineseOrJapanese, Khmer, Lao, Thai}

-- a script has these words, and the others have those that they had
abbrev pub words_with : ComplexScript → Words → ScriptWords → ScriptWords
words_with None words others = others
words_with Myanmar words others = record others { my = Some words }
words_with ChineseOrJapanese words others = record others { ja = Some words }
words_with Khmer words others = record others { km = Some words }
words_with Lao words others = record others { lo = Some words }
words_with Thai words others = record others { th = Some words }
