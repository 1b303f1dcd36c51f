-- The words of the bench dictionaries.
use Rattle.std.specs.Prelude.{None, Some, [], ◌∷◌}
use Rattle.icu_segmenter.specs.WordSets.{Words}
use Rattle.icu_segmenter.specs.ScriptWords.{ScriptWords}

-- ภาษา and ไทย
abbrev pub thai_words : Words
thai_words = (0x0E20 ∷ 0x0E32 ∷ 0x0E29 ∷ 0x0E32 ∷ []) ∷ (0x0E44 ∷ 0x0E17 ∷ 0x0E22 ∷ []) ∷ []

-- 龟山岛 and two ideographs above U+FFFF
abbrev pub ideograph_words : Words
ideograph_words = (0x9F9F ∷ 0x5C71 ∷ 0x5C9B ∷ []) ∷ (0x20000 ∷ 0x20001 ∷ []) ∷ []

abbrev pub dictionary_words : ScriptWords
dictionary_words = record { my = None; km = None; lo = None; th = Some thai_words; ja = Some ideograph_words }
