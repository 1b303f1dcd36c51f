-- What a caller asks for by numbers.
use Rattle.std.specs.Prelude.{◌≡◌, ◌≢◌, ℕ, zero, suc, Bool, Option, Some, None, List, [], ◌∷◌, slice_get}
use Rattle.std.specs.Option.{option_map, option_and_then}
use Rattle.icu_segmenter.specs.LineBreaks.{LineRules}
use Rattle.icu_segmenter.specs.Lines.{chosen_rules}
use Rattle.icu_segmenter.specs.Options.{machine_for}
use Rattle.icu_segmenter.specs.Rules.Rules.{ByMachine}
use Rattle.icu_segmenter.specs.ScriptWords.{no_words}
use Rattle.icu_segmenter.specs.WordRules.{machine_words}
use Rattle.icu_segmenter.specs.declared.options.LineBreakStrictness.{LineBreakStrictness}
use Rattle.icu_segmenter.specs.declared.options.LineBreakStrictness.TheVariants.{Strict, Normal, Loose, Anywhere}
use Rattle.icu_segmenter.specs.declared.options.LineBreakWordOption.{LineBreakWordOption}
use Rattle.icu_segmenter.specs.declared.options.LineBreakWordOption.TheVariants as words
use Rattle.icu_segmenter_data.specs.Unicode.{cluster_table}
use Rattle.icu_segmenter_uax14.specs.Lines.{line_machine, line_tailorings}
use Rattle.icu_segmenter_uax29.specs.Clusters.{cluster_machine}
use Rattle.icu_segmenter_uax29.specs.Sentences.{sentence_machine}
use Rattle.icu_segmenter_uax29.specs.TypedWords.{typed_word_machine}
use Rattle.yengatomu_segmenter.specs.Finders.{Finder}
use Rattle.yengatomu_segmenter.specs.Finders.Finder.{Clusters, Words, Sentences, Lines}
use Rattle.yengatomu_segmenter.specs.declared.request.Kind.{Kind}
use Rattle.yengatomu_segmenter.specs.declared.request.Kind.TheVariants as kind
use Rattle.yengatomu_segmenter.specs.declared.request.Request.{Request}
use Rattle.yengatomu_segmenter.specs.declared.request.Request.TheVariants as asked

-- kinds, strictnesses and word options, each at its number
abbrev pub kinds : List Kind
kinds = kind.Clusters ∷ kind.Words ∷ kind.Sentences ∷ kind.Lines ∷ []

abbrev pub strictnesses : List LineBreakStrictness
strictnesses = Strict ∷ Normal ∷ Loose ∷ Anywhere ∷ []

abbrev pub word_options : List LineBreakWordOption
word_options = words.Normal ∷ words.BreakAll ∷ words.KeepAll ∷ []

-- the rules of lines by Unicode's data and these options
abbrev pub line_rules_for : LineBreakStrictness → LineBreakWordOption → Bool → LineRules
line_rules_for strictness word_option is_chinese_or_japanese =
    chosen_rules line_machine line_tailorings cluster_machine (machine_for word_option strictness is_chinese_or_japanese)

-- .. by the numbers of options, if there are such options
abbrev pub numbered_line_rules : ℕ → ℕ → Bool → Option LineRules
numbered_line_rules strictness word_break is_chinese_or_japanese =
    option_and_then (λ strictness. option_map (λ word_option. line_rules_for strictness word_option is_chinese_or_japanese) (slice_get word_options word_break))
    (slice_get strictnesses strictness)

-- what a segmenter of a kind finds boundaries by, over Unicode's data, without abbreviations, columns counted by character: lines by rules that may
-- not be there
abbrev pub finder_of_kind : Kind → Option LineRules → Option Finder
finder_of_kind kind.Clusters lines = Some (Clusters (ByMachine cluster_machine))
finder_of_kind kind.Words lines = Some (Words (machine_words typed_word_machine cluster_table no_words))
finder_of_kind kind.Sentences lines = Some (Sentences (ByMachine sentence_machine) None)
finder_of_kind kind.Lines lines = option_map (λ lines. Lines lines None) lines

-- .. of the kind of a number; none where there is no such kind or, for lines, no such option
abbrev pub numbered_finder : ℕ → ℕ → ℕ → Bool → Option Finder
numbered_finder kind strictness word_break is_chinese_or_japanese =
    option_and_then (λ kind. finder_of_kind kind (numbered_line_rules strictness word_break is_chinese_or_japanese)) (slice_get kinds kind)

-- what a request asks for
abbrev pub finder_asked : Request → Finder
finder_asked asked.Clusters = Clusters (ByMachine cluster_machine)
finder_asked asked.Words = Words (machine_words typed_word_machine cluster_table no_words)
finder_asked asked.Sentences = Sentences (ByMachine sentence_machine) None
finder_asked (asked.Lines style) = Lines (line_rules_for style.strictness style.word_option style.is_chinese_or_japanese) None

-- What `open` says: 0 where there is such a finder, by which the slot finds boundaries now; 1 where there is one, but no memory;
-- 2 where there is none. In both cases nothing is held.
abbrev pub IsOpened : Option Finder → Option Finder → ℕ → Type 0
IsOpened wanted held zero = (wanted ≢ None) × (held ≡ wanted)
IsOpened wanted held (suc zero) = (wanted ≢ None) × (held ≡ None)
IsOpened wanted held (suc (suc zero)) = (wanted ≡ None) × (held ≡ None)
IsOpened wanted held (suc (suc (suc _))) = ⊥
