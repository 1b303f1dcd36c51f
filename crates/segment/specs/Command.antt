-- What the words of the command line ask for.
use Rattle.std.specs.Prelude.{◌≡◌, ◌≢◌, ℕ, ◌<◌, ◌^◌, ◌==◌, ◌||◌, nat_lt, Bool, true, false, Option, None, Some, List, [], length, codes, MatchOption, IfSome}
use Rattle.std.specs.List.{before_first, list_any}
use Rattle.std.specs.Option.{option_map, option_map_or, unwrap_or}
use Rattle.std.specs.Str.{str_to_ascii_lowercase}
use Rattle.std.specs.Str.Parse.{IsNumeral, digits_value}
use Rattle.clap.specs.Matches.{first_value, matched_of, one_text, raw_values}
use Rattle.clap.specs.declared.parser.matches.Found.{Found}
use Rattle.icu_segmenter.specs.declared.options.LineBreakStrictness.{LineBreakStrictness}
use Rattle.icu_segmenter.specs.declared.options.LineBreakStrictness.TheVariants as strictness
use Rattle.icu_segmenter.specs.declared.options.LineBreakWordOption.{LineBreakWordOption}
use Rattle.icu_segmenter.specs.declared.options.LineBreakWordOption.TheVariants as word_option
use Rattle.icu_segmenter.specs.Wrapping.{bytes_columns}
use Rattle.icu_segmenter.specs.declared.provider.ComplexScript.{ComplexScript}
use Rattle.icu_segmenter.specs.declared.provider.ComplexScript.TheVariants as script
use Rattle.segment_output.specs.declared.segmenter.Engine.{Engine}
use Rattle.segment_output.specs.declared.segmenter.Engine.TheVariants as engine
use Rattle.segment_output.specs.declared.segmenter.Kind.{Kind}
use Rattle.segment_output.specs.declared.segmenter.Kind.TheVariants as kind
use Rattle.segment.specs.declared.command.Request.{Request}
use Rattle.segment.specs.declared.command.RequestedAction.{RequestedAction}
use Rattle.segment.specs.declared.command.RequestedAction.TheVariants.{Cut, Paragraphs, Wrap}
use Rattle.segment.specs.declared.command.Written.{Written}
use Rattle.segment.specs.declared.command.Written.TheVariants.{Segments, Parts}
use Rattle.seg_wrap.specs.declared.wrap.paragraphs.Fit.{Fit}
use Rattle.seg_wrap.specs.declared.wrap.paragraphs.Fit.TheVariants.{Balanced, First}
use Rattle.segment_text.specs.declared.limit.Limit.{Limit}
use Rattle.segment_text.specs.declared.preparation.Preparation.{Preparation}
use Rattle.segment_output.specs.declared.wrapper.Width.{Width}
use Rattle.segment_text.specs.declared.counts.AskedCounts.{AskedCounts}
use Rattle.segment_output.specs.declared.output.Style.{Style}
use Rattle.segment_output.specs.declared.output.Style.TheVariants.{Escaped, Raw, ZeroEnded, Json, Offsets, Counted}

-- ---- the words

abbrev pub strictness_word : LineBreakStrictness → List ℕ
strictness_word strictness.Loose = codes "loose"
strictness_word strictness.Normal = codes "normal"
strictness_word strictness.Strict = codes "strict"
strictness_word strictness.Anywhere = codes "anywhere"

abbrev pub word_break_word : LineBreakWordOption → List ℕ
word_break_word word_option.Normal = codes "normal"
word_break_word word_option.BreakAll = codes "break-all"
word_break_word word_option.KeepAll = codes "keep-all"

-- a script has this word
abbrev pub HasScriptWord : ComplexScript → List ℕ → Type 0
HasScriptWord script.None word = ⊥
HasScriptWord script.Myanmar word = word ≡ codes "myanmar"
HasScriptWord script.ChineseOrJapanese word = word ≡ codes "cj"
HasScriptWord script.Khmer word = word ≡ codes "khmer"
HasScriptWord script.Lao word = word ≡ codes "lao"
HasScriptWord script.Thai word = word ≡ codes "thai"

-- the word of a kind of segments, and whether `--words` stands beside it
abbrev pub kind_word : Kind → List ℕ
kind_word kind.Clusters = codes "grapheme"
kind_word (kind.Words alone) = codes "word"
kind_word kind.Sentences = codes "sentence"
kind_word kind.Lines = codes "line"

abbrev pub is_alone : Kind → Bool
is_alone (kind.Words alone) = alone
is_alone other = false

abbrev pub engine_word : Engine → List ℕ
engine_word engine.Neo = codes "neo"
engine_word engine.Classic = codes "classic"
engine_word engine.Seventeen = codes "17"

-- an engine is the one with this word, and neo where there is none
abbrev pub IsEngine : Option (List ℕ) → Engine → Type 0
IsEngine given named = MatchOption given (named ≡ engine.Neo) (λ word. word ≡ engine_word named)

-- the language of a tag, in lower case: what stands before its first hyphen, low line and full stop, as ja of ja-JP and of ja_JP.UTF-8
abbrev pub language_part : List ℕ → List ℕ
language_part tag =
    str_to_ascii_lowercase (before_first (λ byte. byte == 0x2E) (before_first (λ byte. byte == 0x5F) (before_first (λ byte. byte == 0x2D) tag)))

-- what is chosen by a word, if one is given: none where no choice has it
abbrev pub IsChoice : {X : Type 0} → (X → List ℕ) → Option (List ℕ) → Option X → Type 0
IsChoice word_of given chosen = MatchOption chosen ((x : _) → given ≢ Some (word_of x)) (λ x. given ≡ Some (word_of x))

-- ---- what was found of the command line

-- whether a flag is given
abbrev pub IsFlag : Found → List ℕ → Bool → Type 0
IsFlag found id is_given =
    (one_text found id ≡ None → is_given ≡ false)
    × (one_text found id ≡ Some (codes "true") → is_given ≡ true)
    × (one_text found id ≡ Some (codes "false") → is_given ≡ false)

-- a number is the one that some digits say
abbrev pub IsSaid : List ℕ → ℕ → Type 0
IsSaid digits number = IsNumeral 10 digits → digits_value 10 digits < 2 ^ 64 → number ≡ digits_value 10 digits

-- columns are those that are named, by the option if it is there: 80 where none are
abbrev pub AreColumns : Found → ℕ → Type 0
AreColumns found columns =
    (one_text found (codes "width") ≡ None → one_text found (codes "columns") ≡ None → columns ≡ 80)
    × ((digits : List ℕ) → one_text found (codes "width") ≡ None → one_text found (codes "columns") ≡ Some digits → IsSaid digits columns)
    × ((digits : List ℕ) → one_text found (codes "width") ≡ Some digits → IsSaid digits columns)

-- indents are those that are named, that of first lines the other's where it isn't
abbrev pub AreIndents : Found → List ℕ → List ℕ → Type 0
AreIndents found first others =
    (others ≡ unwrap_or (first_value found (codes "indent")) []) × (first ≡ unwrap_or (first_value found (codes "first-indent")) others)

-- control characters of ASCII
abbrev pub is_control : ℕ → Bool
is_control byte = nat_lt byte 0x20 || (byte == 0x7F)

-- an indent has none, and leaves a column or more
abbrev pub IsIndent : ℕ → List ℕ → Type 0
IsIndent columns indent = (list_any is_control indent ≡ false) × (bytes_columns indent < columns)

-- a width is the one that is named, of some columns
abbrev pub IsWidth : Found → Width → Type 0
IsWidth found width =
    AreColumns found width.columns × (0 < width.columns)
    × AreIndents found width.first_indent.now width.indent.now
    × IsIndent width.columns width.first_indent.now × IsIndent width.columns width.indent.now
    × IsFlag found (codes "break-words") width.breaks_words
    × IsFlag found (codes "by-cluster") width.by_cluster

-- tabs are spaces up to multiples of the columns that are named; where none are, of 8 by `wrap`, and otherwise they stay
abbrev pub AreTabs : List ℕ → Found → Option ℕ → Type 0
AreTabs word found tabs =
    (one_text found (codes "tabs") ≡ None → word ≡ codes "wrap" → tabs ≡ Some 8)
    × (one_text found (codes "tabs") ≡ None → word ≢ codes "wrap" → tabs ≡ None)
    × ((digits : List ℕ) → one_text found (codes "tabs") ≡ Some digits → IsNumeral 10 digits → digits_value 10 digits < 2 ^ 64 → tabs ≡ Some (digits_value 10 digits))
    × IfSome tabs (λ columns. 0 < columns)

-- what is done first is what is named
abbrev pub IsPreparation : List ℕ → Found → Preparation → Type 0
IsPreparation word found preparation = AreTabs word found preparation.tabs × IsFlag found (codes "join") preparation.joins

-- the numbers beside that of the segments are those that are named
abbrev pub AreNumbers : Found → AskedCounts → Type 0
AreNumbers found numbers = IsFlag found (codes "lines") numbers.lines × IsFlag found (codes "bytes") numbers.bytes

-- segments are written in the style that is named
abbrev pub IsStyle : Found → Style → Type 0
IsStyle found (Counted numbers) = IsFlag found (codes "count") true × AreNumbers found numbers
IsStyle found Offsets = IsFlag found (codes "count") false × IsFlag found (codes "offsets") true
IsStyle found ZeroEnded = IsFlag found (codes "count") false × IsFlag found (codes "offsets") false × IsFlag found (codes "null") true
IsStyle found Json = IsFlag found (codes "count") false × IsFlag found (codes "offsets") false × IsFlag found (codes "null") false × IsFlag found (codes "json") true
IsStyle found Raw =
    IsFlag found (codes "count") false × IsFlag found (codes "offsets") false × IsFlag found (codes "null") false
    × IsFlag found (codes "json") false × IsFlag found (codes "raw") true
IsStyle found Escaped =
    IsFlag found (codes "count") false × IsFlag found (codes "offsets") false × IsFlag found (codes "null") false
    × IsFlag found (codes "json") false × IsFlag found (codes "raw") false

-- of how many bytes parts are at least, where they are written
abbrev pub least_of : Written → Option ℕ
least_of (Segments style) = None
least_of (Parts least) = Some least

-- segments have the style that is named, and parts a byte or more
abbrev pub IsStyleOrSize : Found → Written → Type 0
IsStyleOrSize found (Segments style) = IsStyle found style
IsStyleOrSize found (Parts least) = 0 < least

-- what is written is what is named: parts of as many bytes as are said, or segments
abbrev pub IsWritten : Found → Written → Type 0
IsWritten found written =
    (one_text found (codes "split") ≡ None → least_of written ≡ None)
    × ((digits : List ℕ) → one_text found (codes "split") ≡ Some digits → IsNumeral 10 digits → digits_value 10 digits < 2 ^ 64 → least_of written ≡ Some (digits_value 10 digits))
    × IsStyleOrSize found written

-- lines are chosen as it is named: balanced, or each filled as far as it goes
abbrev pub IsChosen : Found → Fit → Type 0
IsChosen found Balanced = IsFlag found (codes "balanced") true
IsChosen found First = IsFlag found (codes "balanced") false

-- lines are wrapped so: paragraph by paragraph where they are balanced, words are hyphenated, or there may be only so many
abbrev pub IsWrapping : Found → Width → Option Limit → RequestedAction → Type 0
IsWrapping found width limit (Cut kind written engine) = ⊥
IsWrapping found width limit (Wrap to) =
    (to ≡ width) × IsFlag found (codes "balanced") false × (first_value found (codes "hyphenate") ≡ None) × (limit ≡ None)
IsWrapping found width limit (Paragraphs to setting) = (to ≡ width) × IsChosen found setting.fit × (setting.limit ≡ limit)

-- what ends the last line that there may be: what is named, which has no control characters, and leaves a column or more
abbrev pub IsPlaceholder : Found → ℕ → List ℕ → Type 0
IsPlaceholder found columns placeholder = (placeholder ≡ unwrap_or (first_value found (codes "placeholder")) (codes " [...]")) × IsIndent columns placeholder

-- there may be as many lines as are named, one at least
abbrev pub IsLimit : Found → ℕ → Option Limit → Type 0
IsLimit found columns limit =
    (one_text found (codes "max-lines") ≡ None → limit ≡ None)
    × ((digits : List ℕ) → one_text found (codes "max-lines") ≡ Some digits → IsNumeral 10 digits → digits_value 10 digits < 2 ^ 64
    → option_map (λ limit. limit.lines) limit ≡ Some (digits_value 10 digits))
    × IfSome limit (λ limit. (0 < limit.lines) × IsPlaceholder found columns limit.placeholder.now)

-- an action is the one that is named
abbrev pub IsRequestedAction : List ℕ → Found → RequestedAction → Type 0
IsRequestedAction word found (Cut kind written engine) =
    (word ≡ kind_word kind)
    × IsFlag found (codes "words") (is_alone kind)
    × IsWritten found written
    × IsEngine (first_value found (codes "engine")) engine
IsRequestedAction word found action =
    (word ≡ codes "wrap") × ((width : Width) × IsWidth found width × (limit : Option Limit) × IsLimit found width.columns limit × IsWrapping found width limit action)

-- all values of an argument
abbrev pub values_of : Found → List ℕ → List (List ℕ)
values_of found id = option_map_or raw_values (matched_of found id) []

-- each dictionary has a script of its own
abbrev pub ArePaired : Found → Type 0
ArePaired found = length (values_of found (codes "dictionary")) ≡ length (values_of found (codes "script"))

-- a request is what the word of a kind and its arguments ask for
abbrev pub IsRequest : List ℕ → Found → Request → Type 0
IsRequest word found request =
    ArePaired found
    × IsPreparation word found request.preparation
    × IsRequestedAction word found request.action
    × IsChoice strictness_word (first_value found (codes "strictness")) request.strictness
    × IsChoice word_break_word (first_value found (codes "word-break")) request.word_option
    × (request.language ≡ option_map language_part (first_value found (codes "lang")))
