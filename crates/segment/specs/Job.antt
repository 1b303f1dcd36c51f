-- What a job writes of a text, and which one is asked for.
use Rattle.std.specs.Prelude.{◌≡◌, ℕ, if◌then◌else◌, false, Option, None, Some, List, [], ◌++◌, length, string_bytes}
use Rattle.std.specs.Option.{option_map, option_map_or}
use Rattle.icu_segmenter.specs.ScriptWords.{ScriptWords}
use Rattle.icu_segmenter.specs.WordSets.{Words}
use Rattle.icu_segmenter.specs.declared.options.LineBreakOptions.{LineBreakOptions}
use Rattle.seg_hyphens.specs.declared.patterns.HyphenationPatterns.{HyphenationPatterns}
use Rattle.segment_output.specs.Output.{lines_of}
use Rattle.segment_text.specs.Counts.{count_line}
use Rattle.segment_output.specs.Parts.{IsBegun}
use Rattle.segment_text.specs.Preparation.{prepared}
use Rattle.segment_output.specs.Splits.{AreParts}
use Rattle.segment_output.specs.TextSegmenter.{boundaries_by, segments_by, IsAskedOf}
use Rattle.segment_text.specs.Size.{size_of}
use Rattle.segment_output.specs.Limited.{Bound, IsSetOutput, bound_of}
use Rattle.segment_output.specs.Paragraphs.{chosen_by}
use Rattle.segment_output.specs.Wrapped.{wrapped_output}
use Rattle.segment_output.specs.Wrapper.{wrapping_of, IsAskedWrapper}
use Rattle.segment_output.specs.declared.wrapper.Wrapper.{Wrapper}
use Rattle.segment_output.specs.declared.segmenter.Engine.{Engine}
use Rattle.segment_output.specs.declared.segmenter.Kind.{Kind}
use Rattle.segment_output.specs.declared.segmenter.TextSegmenter.{TextSegmenter}
use Rattle.segment.specs.declared.command.Request.{Request}
use Rattle.segment.specs.declared.command.Written.{Written}
use Rattle.segment.specs.declared.command.Written.TheVariants as written
use Rattle.segment.specs.declared.command.RequestedAction.TheVariants as requested
use Rattle.segment_output.specs.declared.wrapper.Width.{Width}
use Rattle.segment_text.specs.declared.size.Tally.{Tally}
use Rattle.segment_text.specs.declared.counts.AskedCounts.{AskedCounts}
use Rattle.segment_output.specs.declared.wrapper.limited.Setting.{Setting}
use Rattle.segment.specs.declared.job.Job.{Job}
use Rattle.segment.specs.declared.job.OwnedLimit.{OwnedLimit}
use Rattle.segment.specs.declared.job.Action.{Action}
use Rattle.segment.specs.declared.job.Action.TheVariants.{Cut, Paragraphs, Split, Wrap}
use Rattle.segment_output.specs.declared.output.Style.TheVariants.{Counted}
use Rattle.segment_output.specs.declared.parts.Printing.{Printing}
use Rattle.segment_output.specs.declared.parts.Printing.TheVariants.{Segments, Lines}
use Rattle.segment_output.specs.declared.parts.Splitting.{Splitting}

-- ---- a text to which the action is done

-- how many lines there may be
abbrev pub bound_in : OwnedLimit → Bound
bound_in limit = record { lines = limit.lines; placeholder = string_bytes limit.placeholder }

-- what is written of it, with the name of its file where that is said; where the text is split, it is as it was read
abbrev pub IsActionOutput : Action → Option (List ℕ) → List ℕ → List ℕ → List ℕ → Type 0
IsActionOutput (Cut segmenter style) file bytes text written = written ≡ lines_of (record { style = style; file = file }) text (segments_by segmenter text)
IsActionOutput (Split segmenter least) file bytes text written = AreParts (boundaries_by segmenter) least file bytes written
IsActionOutput (Wrap wrapper) file bytes text written = written ≡ wrapped_output (wrapping_of wrapper) text
IsActionOutput (Paragraphs action) file bytes text written = IsSetOutput (chosen_by action.wrapper action.fit) (option_map bound_in action.limit) text written

-- the numbers beside that of the segments, where these are only counted
abbrev pub numbers_of : Action → Option AskedCounts
numbers_of (Cut segmenter (Counted numbers)) = Some numbers
numbers_of action = None

-- how many segments there are
abbrev pub count_by : Action → List ℕ → ℕ
count_by (Cut segmenter style) text = length (segments_by segmenter text)
count_by (Split segmenter least) text = 0
count_by (Wrap wrapper) text = 0
count_by (Paragraphs action) text = 0

-- what is written part by part is what the action writes
abbrev pub IsPrintingOf : Action → Option (List ℕ) → Printing → Type 0
IsPrintingOf (Cut segmenter style) file (Segments one how name) = (one.now ≡ segmenter) × (how ≡ style) × (option_map (λ name. name.now) name ≡ file)
IsPrintingOf (Wrap wrapper) file (Lines one) = one.now ≡ wrapper
IsPrintingOf action file printing = ⊥

-- ---- some bytes that are read

-- the text that is made of them first
abbrev pub text_of : Job → List ℕ → List ℕ
text_of job bytes = prepared job.preparation bytes

-- of the name of a file what lines say
abbrev pub said_by : Job → Option (List ℕ) → Option (List ℕ)
said_by job name = if job.names_files then name else None

-- what is written of them, with the name that is said
abbrev pub IsPrintedBy : Job → Option (List ℕ) → List ℕ → List ℕ → Type 0
IsPrintedBy job file bytes written = IsActionOutput job.action file bytes (text_of job bytes) written

-- what is done part by part is what the job does
abbrev pub IsDoneBy : Job → Option (List ℕ) → Splitting → Type 0
IsDoneBy job file splitting = (splitting.preparation ≡ job.preparation) × IsPrintingOf job.action file splitting.printing

-- of what a reader gave before it failed whole lines or paragraphs are written, or all up to a certain place, and nothing of the rest
abbrev pub IsBegunBy : Job → Option (List ℕ) → Option (List ℕ) → Option (List ℕ) → Option (List ℕ) → Option (List ℕ) → Type 0
IsBegunBy job file from to old new = (splitting : Splitting) × IsDoneBy job file splitting × IsBegun splitting from to old new

-- how many segments their text has, and how large they are
abbrev pub IsTally : Job → List ℕ → Tally → Type 0
IsTally job bytes tally = (tally.segments ≡ count_by job.action (text_of job bytes)) × (tally.size ≡ size_of bytes)

-- how many segments some bytes have that have a name or none, on a line, where segments are only counted
abbrev pub counted_by : Job → Option (List ℕ) → List ℕ → List ℕ
counted_by job name bytes = option_map_or (λ numbers. count_line numbers (count_by job.action (text_of job bytes)) (size_of bytes) name) (numbers_of job.action) []

-- all that is written of them: the segments, the parts or the lines of their text, or how many segments it has
abbrev pub IsOutputOf : Job → Option (List ℕ) → List ℕ → List ℕ → Type 0
IsOutputOf job name bytes written = (printed : List ℕ) × IsPrintedBy job (said_by job name) bytes printed × (written ≡ printed ++ counted_by job name bytes)

-- options of lines are those of a request
abbrev pub AreOptions : Request → LineBreakOptions → Type 0
AreOptions request options =
    (options.strictness ≡ request.strictness) × (options.word_option ≡ request.word_option)
    × (option_map (λ language. language.now) options.content_locale ≡ request.language)

-- a wrapper is the one to a width that a request asks for, with the words of scripts
abbrev pub IsWrapperFor : Request → ScriptWords → Width → Wrapper → Type 0
IsWrapperFor request words width wrapper = (options : LineBreakOptions) × AreOptions request options × IsAskedWrapper width options words wrapper

-- this is written of texts that a segmenter cuts
abbrev pub IsActionOf : TextSegmenter → Written → Action → Type 0
IsActionOf segmenter what (Cut one style) = (one ≡ segmenter) × (what ≡ written.Segments style)
IsActionOf segmenter what (Split one least) = (one ≡ segmenter) × (what ≡ written.Parts least)
IsActionOf segmenter what action = ⊥

-- a request asks for what is written of texts that a segmenter cuts
abbrev pub IsAskedCut : Request → ScriptWords → Option Words → TextSegmenter → Written → Type 0
IsAskedCut request words abbreviations segmenter what =
    (kind : Kind) × (engine : Engine) × (request.action ≡ requested.Cut kind what engine)
    × ((options : LineBreakOptions) × AreOptions request options × IsAskedOf kind engine options words abbreviations segmenter)

-- an action is the one that a request asks for, with the words of scripts, abbreviations, and patterns of hyphenation, if there are some
abbrev pub IsAskedAction : Request → ScriptWords → Option Words → Option HyphenationPatterns → Action → Type 0
IsAskedAction request words abbreviations patterns (Cut segmenter style) = IsAskedCut request words abbreviations segmenter (written.Segments style)
IsAskedAction request words abbreviations patterns (Split segmenter least) = IsAskedCut request words abbreviations segmenter (written.Parts least)
IsAskedAction request words abbreviations patterns (Wrap wrapper) =
    (width : Width) × (request.action ≡ requested.Wrap width) × IsWrapperFor request words width wrapper
IsAskedAction request words abbreviations patterns (Paragraphs action) =
    (width : Width) × (setting : Setting) × (request.action ≡ requested.Paragraphs width setting)
    × IsWrapperFor request words width action.wrapper × (action.wrapper.patterns ≡ patterns)
    × (action.fit ≡ setting.fit) × (option_map bound_in action.limit ≡ option_map bound_of setting.limit)

-- a job is the one that a request asks for
abbrev pub IsAsked : Request → ScriptWords → Option Words → Option HyphenationPatterns → Job → Type 0
IsAsked request words abbreviations patterns job =
    (job.preparation ≡ request.preparation) × (job.names_files ≡ false) × IsAskedAction request words abbreviations patterns job.action
