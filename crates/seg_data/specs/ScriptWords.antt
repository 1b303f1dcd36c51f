-- Dictionaries, and the words of scripts.
use Rattle.std.specs.Prelude.{[], Option, None as Nothing, Some}
use Rattle.std.specs.Option.{option_map_or, option_or, option_map}
use Rattle.seg_data.specs.WordSets.{Words, IsSameSet}
use Rattle.seg_data.specs.Trie.{Trie, trie, words_from}
use Rattle.seg_data.specs.declared.provider.dictionary.DictionaryBreakData.{DictionaryBreakData}
use Rattle.seg_data.specs.declared.provider.dictionary.cursor.DictionaryCursor.{DictionaryCursor}
use Rattle.seg_data.specs.declared.provider.ComplexScript.{ComplexScript}
use Rattle.seg_data.specs.declared.provider.ComplexScript.TheVariants.{None, Myanmar, ChineseOrJapanese, Khmer, Lao, Thai}
use Rattle.seg_data.specs.declared.dictionaries.Dictionaries.{Dictionaries}
use Rattle.seg_data.specs.declared.dictionaries.DictionariesBorrowed.{DictionariesBorrowed}

-- What is seen of dictionaries and their cursors.

abbrev pub trie_of : DictionaryBreakData → Trie
trie_of dictionary = trie dictionary.flags.items dictionary.starts.items dictionary.edges.items

-- the words of a dictionary
abbrev pub words_of : DictionaryBreakData → Words
words_of dictionary = words_from (trie_of dictionary) 0

-- what follows the code points that a cursor read in the words that begin with them
abbrev pub words_after : DictionaryCursor → Words
words_after cursor = option_map_or (words_from (trie_of cursor.data.now)) cursor.node []

-- The words of the scripts that are written without spaces between words.

-- the words of each script that has a dictionary
pub record ScriptWords : Type 0 where
  pub my : Option Words
  pub km : Option Words
  pub lo : Option Words
  pub th : Option Words
  pub ja : Option Words

-- no script has a dictionary
abbrev pub no_words : ScriptWords
no_words = record { my = Nothing; km = Nothing; lo = Nothing; th = Nothing; ja = Nothing }

-- the words of a script
abbrev pub words_in : ScriptWords → ComplexScript → Option Words
words_in words None = Nothing
words_in words Myanmar = words.my
words_in words ChineseOrJapanese = words.ja
words_in words Khmer = words.km
words_in words Lao = words.lo
words_in words Thai = words.th

-- scripts that have none get the words of others; the words that are there stay
abbrev pub filled : ScriptWords → ScriptWords → ScriptWords
filled words others = record {
  my = option_or words.my others.my;
  km = option_or words.km others.km;
  lo = option_or words.lo others.lo;
  th = option_or words.th others.th;
  ja = option_or words.ja others.ja;
}

-- the words of dictionaries
abbrev pub script_words : Dictionaries → ScriptWords
script_words dictionaries = record {
  my = option_map words_of dictionaries.my;
  km = option_map words_of dictionaries.km;
  lo = option_map words_of dictionaries.lo;
  th = option_map words_of dictionaries.th;
  ja = option_map words_of dictionaries.ja;
}

-- and of dictionaries that are borrowed
abbrev pub borrowed_words : DictionariesBorrowed → ScriptWords
borrowed_words dictionaries = record {
  my = option_map (λ borrowed. words_of borrowed.now) dictionaries.my;
  km = option_map (λ borrowed. words_of borrowed.now) dictionaries.km;
  lo = option_map (λ borrowed. words_of borrowed.now) dictionaries.lo;
  th = option_map (λ borrowed. words_of borrowed.now) dictionaries.th;
  ja = option_map (λ borrowed. words_of borrowed.now) dictionaries.ja;
}

-- two choices have one set of words, or none in both
abbrev pub IsSameChoice : Option Words → Option Words → Type 0
IsSameChoice Nothing Nothing = Unit {0}
IsSameChoice (Some words) (Some others) = IsSameSet words others
IsSameChoice Nothing (Some others) = ⊥
IsSameChoice (Some words) Nothing = ⊥

-- each script has the same set of words in both, or none in both
abbrev pub AreSameWords : ScriptWords → ScriptWords → Type 0
AreSameWords words others = (script : ComplexScript) → IsSameChoice (words_in words script) (words_in others script)
