-- A line feed resets Unicode's machines, whatever words of scripts there are: computed.
use Rattle.std.proofs.Common.{◌≡◌, ℕ, ◌==◌, Bool, true, false, not, List, [], length, refl, sym, ap, subst, eqb-true}
use Rattle.std.specs.Prelude.{Option, Some, None, IfSome}
use Rattle.std.specs.Option.{is_some, option_map_or}
use Rattle.ucd_table.proofs.TrieCheck.{all_below, all_below-at}
use Rattle.icu_segmenter.specs.Boundaries.{HasRestart}
use Rattle.icu_segmenter.specs.LineBreaks.{LinesResetAfter, lines_with_words}
use Rattle.icu_segmenter.specs.Machine.{Machine, MachineTailoring, replaced, step, symbol_and_script, symbol_count, tailoring, with_tailoring}
use Rattle.icu_segmenter.specs.Rules.{IsLastState, IsReset, ResetsAfter, Rules}
use Rattle.icu_segmenter.specs.Rules.Rules.{ByMachine}
use Rattle.icu_segmenter.specs.ScriptWords.{ScriptWords, words_in}
use Rattle.icu_segmenter.specs.Spans.{IsOutsideRuns, if_worded}
use Rattle.icu_segmenter.specs.Table.{value_of}
use Rattle.icu_segmenter.specs.WordSets.{Words as Abbreviations}
use Rattle.icu_segmenter.specs.declared.options.LineBreakStrictness.{LineBreakStrictness}
use Rattle.icu_segmenter.specs.declared.options.LineBreakStrictness.TheVariants as strictness
use Rattle.icu_segmenter.specs.declared.options.LineBreakWordOption.{LineBreakWordOption}
use Rattle.icu_segmenter.specs.declared.options.LineBreakWordOption.TheVariants as word_option
use Rattle.icu_segmenter.specs.declared.provider.ComplexScript.{ComplexScript}
use Rattle.icu_segmenter.specs.declared.provider.ComplexScript.TheVariants.{None as NoScript}
use Rattle.icu_segmenter_uax14.specs.Lines.{line_machine, line_tailorings, tailored_machine}
use Rattle.icu_segmenter_uax29.specs.Clusters.{cluster_machine}
use Rattle.icu_segmenter_uax29.specs.Sentences.{sentence_machine}
use Rattle.icu_segmenter_uax29.specs.TypedWords.{typed_word_machine}
use Rattle.yengatomu_segmenter.specs.Abbreviated.{with_abbreviations}
use Rattle.yengatomu_segmenter.specs.Columns.{counted_by}
use Rattle.yengatomu_segmenter.specs.Finders.{Finder, LineFeedsReset, find_by}
use Rattle.yengatomu_segmenter.specs.Finders.Finder.{Clusters as ByClusters, Words as ByWords, Sentences as BySentences, Lines as ByLines}
use Rattle.yengatomu_segmenter.specs.Loaded.{with_dictionary}
use Rattle.yengatomu_segmenter.specs.Options.{finder_asked, line_rules_for}
use Rattle.yengatomu_segmenter.specs.declared.request.Request.{Request}
use Rattle.yengatomu_segmenter.specs.declared.request.Request.TheVariants.{Clusters, Words, Sentences, Lines}

-- the state leads nowhere but to this one
abbrev leads_to : ℕ → Option ℕ → Bool
leads_to last next = option_map_or (λ next. next == last) next true

-- what is computed of a machine with so many states and symbols: by the symbol each state leads to the last one or to none, and
-- that one leads on by no symbol
record Resets (m : Machine) (symbol count symbols last : ℕ) : Type 0 where
  states_are : length m.states ≡ count
  symbols_are : symbol_count m ≡ symbols
  leads : all_below (λ state. leads_to last (step m state symbol)) count ≡ true
  ends : all_below (λ other. not (is_some (step m last other))) symbols ≡ true

none-is : (next : Option ℕ) → not (is_some next) ≡ true → next ≡ None
none-is None is = refl
none-is (Some n) is = absurd cc

last-state : (m : Machine) (last : ℕ) (next : Option ℕ) → leads_to last next ≡ true → IsLastState m last → IfSome next (IsLastState m)
last-state m last None leads is = tt
last-state m last (Some n) leads is = subst (IsLastState m) (sym (eqb-true n last leads)) is

resets : (m : Machine) (symbol count symbols last : ℕ) → Resets m symbol count symbols last → IsReset m symbol
resets m symbol count symbols last of state inside =
    last-state m last (step m state symbol) (all_below-at (λ state. leads_to last (step m state symbol)) count state of.leads (rw (sym of.states_are) inside))
    (λ other within. none-is (step m last other) (all_below-at (λ other. not (is_some (step m last other))) symbols other of.ends (rw (sym of.symbols_are) within)))

-- a line feed has a symbol that resets, and no script
after : (m : Machine) (symbol : ℕ) → symbol_and_script m 0x0A ≡ (symbol, NoScript) → IsReset m symbol → ResetsAfter (ByMachine m) 0x0A
after m symbol is reset = subst (λ (found : ℕ × ComplexScript). IsReset m found.0) (sym is) reset

outside : (m : Machine) (symbol : ℕ) (words : ScriptWords) → symbol_and_script m 0x0A ≡ (symbol, NoScript) → IsOutsideRuns m words 0x0A
outside m symbol words is = ap (λ (found : ℕ × ComplexScript). if_worded (words_in words found.1) found.1) is

-- a tailoring changes no transition
tailored-reset : (m : Machine) (t : MachineTailoring) (symbol : ℕ) → IsReset m symbol → IsReset (with_tailoring m (Some t)) symbol
unfolding step symbol_count
tailored-reset m t symbol reset = reset

clusters-resets : Resets cluster_machine 3 14 20 3
unfolding cluster_machine all_below step symbol_count
clusters-resets = record { states_are = refl; symbols_are = refl; leads = refl; ends = refl }

clusters-feed : symbol_and_script cluster_machine 0x0A ≡ (3, NoScript)
unfolding cluster_machine symbol_and_script value_of replaced
clusters-feed = refl

sentences-resets : Resets sentence_machine 3 12 16 3
unfolding sentence_machine all_below step symbol_count
sentences-resets = record { states_are = refl; symbols_are = refl; leads = refl; ends = refl }

sentences-feed : symbol_and_script sentence_machine 0x0A ≡ (3, NoScript)
unfolding sentence_machine symbol_and_script value_of replaced
sentences-feed = refl

words-resets : Resets typed_word_machine 3 29 23 3
unfolding typed_word_machine all_below step symbol_count
words-resets = record { states_are = refl; symbols_are = refl; leads = refl; ends = refl }

words-feed : symbol_and_script typed_word_machine 0x0A ≡ (3, NoScript)
unfolding typed_word_machine symbol_and_script value_of replaced
words-feed = refl

lines-resets : Resets line_machine 46 126 73 11
unfolding line_machine all_below step symbol_count
lines-resets = record { states_are = refl; symbols_are = refl; leads = refl; ends = refl }

lines-feed : symbol_and_script line_machine 0x0A ≡ (46, NoScript)
unfolding line_machine symbol_and_script value_of replaced
lines-feed = refl

mapped-feed : (map : List (ℕ × ComplexScript)) → symbol_and_script (tailored_machine map []) 0x0A ≡ (46, NoScript)
unfolding line_machine symbol_and_script value_of replaced
mapped-feed map = refl

break-all-feed : symbol_and_script (with_tailoring line_machine line_tailorings.breakall) 0x0A ≡ (46, NoScript)
unfolding line_machine line_tailorings symbol_and_script value_of replaced
break-all-feed = refl

keep-all-feed : symbol_and_script (with_tailoring line_machine line_tailorings.keepall) 0x0A ≡ (46, NoScript)
unfolding line_machine line_tailorings symbol_and_script value_of replaced
keep-all-feed = refl

line-reset : IsReset line_machine 46
line-reset = resets line_machine 46 126 73 11 lines-resets

plain : (words : ScriptWords) → ResetsAfter (ByMachine line_machine) 0x0A × IsOutsideRuns line_machine words 0x0A
plain words = (after line_machine 46 lines-feed line-reset, outside line_machine 46 words lines-feed)

tailored : (t : MachineTailoring) (words : ScriptWords) → symbol_and_script (with_tailoring line_machine (Some t)) 0x0A ≡ (46, NoScript)
    → ResetsAfter (ByMachine (with_tailoring line_machine (Some t))) 0x0A × IsOutsideRuns (with_tailoring line_machine (Some t)) words 0x0A
tailored t words feed =
    let m = with_tailoring line_machine (Some t) in
    (after m 46 feed (tailored-reset line_machine t 46 line-reset), outside m 46 words feed)

mapped : (map : List (ℕ × ComplexScript)) (words : ScriptWords)
    → ResetsAfter (ByMachine (tailored_machine map [])) 0x0A × IsOutsideRuns (tailored_machine map []) words 0x0A
mapped map words = tailored (tailoring map []) words (mapped-feed map)

lines : (strictness : LineBreakStrictness) (option : LineBreakWordOption) (is_ja_or_zh : Bool) (words : ScriptWords)
    → LinesResetAfter (lines_with_words (line_rules_for strictness option is_ja_or_zh) words) 0x0A
unfolding line_tailorings
lines strictness.Strict word_option.BreakAll is_ja_or_zh words = tailored _ words break-all-feed
lines strictness.Normal word_option.BreakAll is_ja_or_zh words = tailored _ words break-all-feed
lines strictness.Loose word_option.BreakAll is_ja_or_zh words = tailored _ words break-all-feed
lines strictness.Anywhere word_option.BreakAll is_ja_or_zh words = tailored _ words break-all-feed
lines strictness.Strict word_option.KeepAll is_ja_or_zh words = tailored _ words keep-all-feed
lines strictness.Normal word_option.KeepAll is_ja_or_zh words = tailored _ words keep-all-feed
lines strictness.Loose word_option.KeepAll is_ja_or_zh words = tailored _ words keep-all-feed
lines strictness.Anywhere word_option.KeepAll is_ja_or_zh words = tailored _ words keep-all-feed
lines strictness.Anywhere word_option.Normal is_ja_or_zh words = after cluster_machine 3 clusters-feed (resets cluster_machine 3 14 20 3 clusters-resets)
lines strictness.Loose word_option.Normal true words = mapped _ words
lines strictness.Loose word_option.Normal false words = mapped _ words
lines strictness.Normal word_option.Normal true words = mapped _ words
lines strictness.Normal word_option.Normal false words = mapped _ words
lines strictness.Strict word_option.Normal true words = mapped _ words
lines strictness.Strict word_option.Normal false words = plain words

pub feeds-reset : (request : Request) → LineFeedsReset (finder_asked request)
feeds-reset Clusters = after cluster_machine 3 clusters-feed (resets cluster_machine 3 14 20 3 clusters-resets)
feeds-reset Words = λ words. (after typed_word_machine 3 words-feed (resets typed_word_machine 3 29 23 3 words-resets), outside typed_word_machine 3 words words-feed)
feeds-reset Sentences = after sentence_machine 3 sentences-feed (resets sentence_machine 3 12 16 3 sentences-resets)
feeds-reset (Lines options) = lines options.strictness options.word_option options.is_chinese_or_japanese

-- words of scripts change nothing of it
pub feeds-kept : (finder : Finder) (words : ScriptWords) → LineFeedsReset finder → LineFeedsReset (with_dictionary finder words)
feeds-kept (ByClusters rules) words reset = reset
feeds-kept (ByWords rules) words reset = reset
feeds-kept (BySentences rules abbreviations) words reset = reset
feeds-kept (ByLines rules clusters) words reset = reset

-- nor do abbreviations, or how columns are counted
pub feeds-abbreviated : (finder : Finder) (abbreviations : Abbreviations) → LineFeedsReset finder → LineFeedsReset (with_abbreviations finder abbreviations)
feeds-abbreviated (ByClusters rules) abbreviations reset = reset
feeds-abbreviated (ByWords rules) abbreviations reset = reset
feeds-abbreviated (BySentences rules before) abbreviations reset = reset
feeds-abbreviated (ByLines rules clusters) abbreviations reset = reset

pub feeds-counted : (finder : Finder) (clusters : Rules) → LineFeedsReset finder → LineFeedsReset (counted_by clusters finder)
feeds-counted (ByClusters rules) clusters reset = reset
feeds-counted (ByWords rules) clusters reset = reset
feeds-counted (BySentences rules abbreviations) clusters reset = reset
feeds-counted (ByLines rules before) clusters reset = reset

pub restart-counted : (finder : Finder) (clusters : Rules) → HasRestart (find_by finder) → HasRestart (find_by (counted_by clusters finder))
restart-counted (ByClusters rules) clusters restart = restart
restart-counted (ByWords rules) clusters restart = restart
restart-counted (BySentences rules abbreviations) clusters restart = restart
restart-counted (ByLines rules before) clusters restart = restart
