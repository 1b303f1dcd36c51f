-- The words of each request, what is read for it, and what is printed.
use Rattle.std.specs.Prelude.{◌≡◌, ℕ, ◌≤◌, List, [], ◌∷◌, length, codes}
use Rattle.std.specs.Str.{IsUtf8}
use Rattle.std.specs.Str.Parse.{IsNumeral, digits_value}
use Rattle.icu_segmenter.specs.Wrapping.{by_characters}
use Rattle.icu_segmenter.specs.WrappedLines.{wrapped_text}
use Rattle.textcut.specs.Command.{places_of, sample_lines, words_of}
use Rattle.textcut.specs.Lines.{lines_of}
use Rattle.textcut.specs.Wrapped.{printed_lines}
use Rattle.textcut.specs.declared.request.Request.{Request}
use Rattle.textcut.specs.declared.request.Request.TheVariants.{Boundaries, Wrapped}

-- a word that says how many columns there are: one to five decimal digits
abbrev pub IsColumns : List ℕ → Type 0
IsColumns word = IsNumeral 10 word × (length word ≤ 5)

-- a request has these words; the same columns may have several, since zeros may stand before a number
abbrev pub HasWords : Request → List (List ℕ) → Type 0
HasWords (Boundaries command) words = words ≡ words_of command
HasWords (Wrapped columns) words =
    (word : List ℕ) × ((words ≡ codes "wrap" ∷ word ∷ []) × (IsColumns word × (columns ≡ digits_value 10 word)))

-- words that no request has
abbrev pub IsNoRequest : List (List ℕ) → Type 0
IsNoRequest words = (request : Request) → HasWords request words → ⊥

-- lines are wrapped of UTF-8 alone
abbrev pub IsReadable : Request → List ℕ → Type 0
IsReadable (Boundaries command) bytes = Unit {0}
IsReadable (Wrapped columns) bytes = IsUtf8 bytes

-- what is printed of the bytes that are read
abbrev pub output_of : Request → List ℕ → List ℕ
output_of (Boundaries command) bytes = lines_of (places_of command bytes)
output_of (Wrapped columns) bytes = printed_lines (wrapped_text by_characters sample_lines columns bytes)
