use Rattle.seg_data.specs.declared.provider.ComplexScript.TheVariants.{None, Myanmar, ChineseOrJapanese, Khmer, Lao, Thai}
use Rattle.bench.specs.Dictionaries.{dictionary_words, ideograph_words, thai_words}
use Rattle.icu_segmenter.specs.ScriptWords.{AreSameWords}
use Rattle.icu_segmenter.specs.WordSets.{IsSameSet, Words}
use Rattle.std.specs.Prelude.{Some, None as Nothing}
use Rattle.std.specs.Str.{chars}
use Rattle.bench.proofs.dictionaries.dictionaries.Goals as goal

same-words : (thai ideographs : Words) → IsSameSet thai thai_words → IsSameSet ideographs ideograph_words
    → AreSameWords (record { my = Nothing; km = Nothing; lo = Nothing; th = Some thai; ja = Some ideographs }) dictionary_words
same-words thai ideographs of_thai of_ideographs None = tt
same-words thai ideographs of_thai of_ideographs Myanmar = tt
same-words thai ideographs of_thai of_ideographs ChineseOrJapanese = of_ideographs
same-words thai ideographs of_thai of_ideographs Khmer = tt
same-words thai ideographs of_thai of_ideographs Lao = tt
same-words thai ideographs of_thai of_ideographs Thai = of_thai

pub returns : goal.returns
unfolding chars
returns c = same-words _ _ c.in_ok-dictionary_of.ensures c.in_ok-dictionary_of-2.ensures
