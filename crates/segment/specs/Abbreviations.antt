-- Where abbreviations are.
use Rattle.std.specs.Prelude.{◌≡◌, ℕ, Option, None, List, ◌++◌, codes, string_bytes, MatchOption}
use Rattle.segment_output.specs.declared.segmenter.Kind.TheVariants as kind
use Rattle.segment.specs.Lists.{path_of}
use Rattle.segment.specs.declared.abbreviations.Location.{Location}
use Rattle.segment.specs.declared.abbreviations.Location.TheVariants.{Nowhere, InFile, InNoFolder}
use Rattle.segment.specs.declared.command.Request.{Request}
use Rattle.segment.specs.declared.command.RequestedAction.{RequestedAction}
use Rattle.segment.specs.declared.command.RequestedAction.TheVariants.{Cut}

-- the name of a language's list
abbrev pub list_name : List ℕ → List ℕ
list_name language = codes "abbreviations-" ++ language

-- the language whose list an action takes
abbrev pub language_by : RequestedAction → Option (List ℕ) → Option (List ℕ)
language_by (Cut kind.Sentences style engine) language = language
language_by action language = None

abbrev pub listed_language : Request → Option (List ℕ)
listed_language request = language_by request.action request.language

-- a place is a file with this path
abbrev pub IsFile : List ℕ → Location → Type 0
IsFile path Nowhere = ⊥
IsFile path (InFile file) = string_bytes file ≡ path
IsFile path InNoFolder = ⊥

-- a place is the file that is named, or else the list of a language in a folder, if these are named
abbrev pub IsLocation : Option (List ℕ) → Option (List ℕ) → Option (List ℕ) → Location → Type 0
IsLocation file language folder place =
    MatchOption file
    (MatchOption language (place ≡ Nowhere) (λ language. MatchOption folder (place ≡ InNoFolder) (λ folder. IsFile (path_of folder (list_name language)) place)))
    (λ path. IsFile path place)
