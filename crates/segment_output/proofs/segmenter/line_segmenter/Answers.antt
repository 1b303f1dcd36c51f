-- The segmenter has the words of the dictionaries, and had none before.
use Rattle.std.proofs.Common.{◌≡◌, refl, ap, ◌∙◌}
use Rattle.icu_segmenter.specs.LineBreaks.{LineRules, lines_with_words}
use Rattle.icu_segmenter.specs.Lines.{without_ja}
use Rattle.icu_segmenter.specs.ScriptWords.{ScriptWords, filled, no_words, script_words}
use Rattle.icu_segmenter.specs.declared.options.LineBreakOptions.{LineBreakOptions}
use Rattle.segment_output.specs.TextSegmenter.{line_rules_of}
use Rattle.segment_output.specs.declared.segmenter.Engine.{Engine}
use Rattle.segment_output.specs.declared.segmenter.Engine.TheVariants.{Neo, Classic, Seventeen}
use Rattle.segment_output.proofs.segmenter.line_segmenter.Goals as goal

had-none : (engine : Engine) (options : LineBreakOptions) → (line_rules_of engine options).payloads.words ≡ no_words
had-none Neo options = refl
had-none Classic options = refl
had-none Seventeen options = refl

pub returns : goal.returns
returns c =
    let words = without_ja (script_words c.args.dictionaries) in
    c.load_dictionary.ensures
    ∙ ap (λ (rules : LineRules). lines_with_words rules (filled rules.payloads.words words)) c.in_ok-lines.ensures
    ∙ ap (λ (before : ScriptWords). lines_with_words (line_rules_of c.args.engine c.args.options) (filled before words)) (had-none c.args.engine c.args.options)
