-- The lines that options choose follow the rules of UAX #14, where they aren't broken between any clusters.
use Rattle.std.proofs.Common.{◌≡◌, refl, sym, subst, Bool, true, false, inl, inr}
use Rattle.std.specs.Prelude.{Result, Ok, Err, IfOk}
use Rattle.seg_data.specs.declared.provider.DataError.{DataError}
use Rattle.seg_lines.specs.LineBreaks.{LineRules}
use Rattle.seg_lines.specs.LineBreaks.LineFinder.{ByMachine}
use Rattle.seg_lines.specs.Lines.{chosen_rules, owned_line_rules}
use Rattle.seg_lines.specs.Options.{MachineTailorings, machine_choice, machine_for}
use Rattle.seg_lines.specs.declared.line.LineSegmenter.{LineSegmenter}
use Rattle.icu_segmenter.specs.declared.options.LineBreakOptions.{LineBreakOptions}
use Rattle.icu_segmenter.specs.declared.options.LineBreakStrictness.{LineBreakStrictness}
use Rattle.icu_segmenter.specs.declared.options.LineBreakStrictness.TheVariants as strictness
use Rattle.icu_segmenter.specs.declared.options.LineBreakWordOption.{LineBreakWordOption}
use Rattle.icu_segmenter.specs.declared.options.LineBreakWordOption.TheVariants as word_option
use Rattle.icu_segmenter.specs.LineRules.{style_of}
use Rattle.seg_machine.specs.Machine.{Machine}
use Rattle.icu_segmenter_uax14.specs.Lines.{line_machine, line_tailorings}
use Rattle.icu_segmenter_uax14.specs.Tailored.{AreLines, LinesFollowRules, Tailoring, machine_by}
use Rattle.icu_segmenter_uax14.specs.Tailored.Tailoring.{Untailored, BreakAll, KeepAll, JaLoose, Loose, JaNormal, Normal, Ja}

abbrev Law : Type 0
Law = (rules : LineRules) (tailoring : Tailoring) → rules.finder ≡ ByMachine (machine_by tailoring) → LinesFollowRules rules (machine_by tailoring)

by : (rules : LineRules) (tailoring : Tailoring) → Law → rules.finder ≡ ByMachine (machine_by tailoring) → AreLines rules
by rules tailoring law is = inr (tailoring, is, law rules tailoring is)

abbrev rules_for : Machine → LineBreakWordOption → LineBreakStrictness → Bool → LineRules
rules_for clusters option strictness ja = chosen_rules line_machine line_tailorings clusters (machine_for option strictness ja)

chosen : (clusters : Machine) (option : LineBreakWordOption) (strictness : LineBreakStrictness) (ja : Bool) → Law → AreLines (rules_for clusters option strictness ja)
unfolding line_tailorings
chosen clusters word_option.BreakAll strictness.Strict ja law = by (rules_for clusters word_option.BreakAll strictness.Strict ja) BreakAll law refl
chosen clusters word_option.BreakAll strictness.Normal ja law = by (rules_for clusters word_option.BreakAll strictness.Normal ja) BreakAll law refl
chosen clusters word_option.BreakAll strictness.Loose ja law = by (rules_for clusters word_option.BreakAll strictness.Loose ja) BreakAll law refl
chosen clusters word_option.BreakAll strictness.Anywhere ja law = by (rules_for clusters word_option.BreakAll strictness.Anywhere ja) BreakAll law refl
chosen clusters word_option.KeepAll strictness.Strict ja law = by (rules_for clusters word_option.KeepAll strictness.Strict ja) KeepAll law refl
chosen clusters word_option.KeepAll strictness.Normal ja law = by (rules_for clusters word_option.KeepAll strictness.Normal ja) KeepAll law refl
chosen clusters word_option.KeepAll strictness.Loose ja law = by (rules_for clusters word_option.KeepAll strictness.Loose ja) KeepAll law refl
chosen clusters word_option.KeepAll strictness.Anywhere ja law = by (rules_for clusters word_option.KeepAll strictness.Anywhere ja) KeepAll law refl
chosen clusters word_option.Normal strictness.Anywhere ja law = inl refl
chosen clusters word_option.Normal strictness.Loose true law = by (rules_for clusters word_option.Normal strictness.Loose true) JaLoose law refl
chosen clusters word_option.Normal strictness.Loose false law = by (rules_for clusters word_option.Normal strictness.Loose false) Loose law refl
chosen clusters word_option.Normal strictness.Normal true law = by (rules_for clusters word_option.Normal strictness.Normal true) JaNormal law refl
chosen clusters word_option.Normal strictness.Normal false law = by (rules_for clusters word_option.Normal strictness.Normal false) Normal law refl
chosen clusters word_option.Normal strictness.Strict true law = by (rules_for clusters word_option.Normal strictness.Strict true) Ja law refl
chosen clusters word_option.Normal strictness.Strict false law = by (rules_for clusters word_option.Normal strictness.Strict false) Untailored law refl

-- so those of a segmenter that was made by them
pub are-lines : (made : Result LineSegmenter DataError) (m clusters : Machine) (tailorings : MachineTailorings) (options : LineBreakOptions) (More : LineSegmenter → Type 0)
    → m ≡ line_machine → tailorings ≡ line_tailorings → Law
    → IfOk made (λ lines. (owned_line_rules lines ≡ chosen_rules m tailorings clusters (machine_choice options)) × More lines) → IfOk made (λ lines. AreLines (owned_line_rules lines))
are-lines (Ok lines) m clusters tailorings options More is tailored law h =
    let style = style_of options in
    subst AreLines (sym (rw (is, tailored) at h.0)) (chosen clusters style.word_option style.strictness style.is_ja_or_zh law)
are-lines (Err fault) m clusters tailorings options More is tailored law h = h
