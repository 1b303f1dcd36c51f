-- Lists of words that bear the names of scripts.
use Rattle.std.specs.Prelude.{◌≡◌, ℕ, Option, None, List, ◌++◌, codes, IfSome}
use Rattle.icu_segmenter.specs.ScriptWords.{ScriptWords, no_words}
use Rattle.icu_segmenter.specs.WordSets.{Words}
use Rattle.segment_output.specs.declared.segmenter.Kind.{Kind}
use Rattle.segment_output.specs.declared.segmenter.Kind.TheVariants as kind
use Rattle.segment.specs.declared.command.RequestedAction.{RequestedAction}
use Rattle.segment.specs.declared.command.RequestedAction.TheVariants.{Cut, Paragraphs, Wrap}
use Rattle.segment.specs.declared.lists.Choice.{Choice}
use Rattle.segment.specs.declared.lists.Choice.TheVariants.{Nothing, WithoutCj, All}

-- the lists that a kind of segments takes
abbrev pub choice_of : Kind → Choice
choice_of kind.Clusters = Nothing
choice_of (kind.Words alone) = All
choice_of kind.Sentences = Nothing
choice_of kind.Lines = WithoutCj

-- and those that an action takes
abbrev pub choice_by : RequestedAction → Choice
choice_by (Cut kind written engine) = choice_of kind
choice_by (Wrap width) = WithoutCj
choice_by (Paragraphs width setting) = WithoutCj

-- a script's words are those of the list that bears its name, where these are known
abbrev pub IsListed : (List ℕ → Option (Option Words)) → List ℕ → Option Words → Type 0
IsListed lists name words = IfSome (lists name) (λ listed. words ≡ listed)

-- each script has the words of its own list, but Chinese and Japanese
abbrev pub AreListedOfLines : (List ℕ → Option (Option Words)) → ScriptWords → Type 0
AreListedOfLines lists words =
    IsListed lists (codes "myanmar") words.my
    × IsListed lists (codes "khmer") words.km
    × IsListed lists (codes "lao") words.lo
    × IsListed lists (codes "thai") words.th

-- each script has the words of its own list, if they are chosen
abbrev pub AreListed : Choice → (List ℕ → Option (Option Words)) → ScriptWords → Type 0
AreListed Nothing lists words = words ≡ no_words
AreListed WithoutCj lists words = AreListedOfLines lists words × (words.ja ≡ None)
AreListed All lists words = AreListedOfLines lists words × IsListed lists (codes "cj") words.ja

-- where a list stands in a folder
abbrev pub path_of : List ℕ → List ℕ → List ℕ
path_of folder name = ((folder ++ codes "/") ++ name) ++ codes ".txt"
