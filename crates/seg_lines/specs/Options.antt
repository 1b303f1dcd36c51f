-- The machine that the options of lines choose.
use Rattle.std.specs.Prelude.{Bool, true, false, Some, None, Option}
use Rattle.std.specs.Option.{option_map}
use Rattle.std.specs.Borrow.{Bor}
use Rattle.seg_machine.specs.Machine.{MachineTailoring}
use Rattle.seg_line_pairs.specs.declared.options.LineBreakOptions.{LineBreakOptions}
use Rattle.seg_line_pairs.specs.declared.options.LineBreakStrictness.{LineBreakStrictness}
use Rattle.seg_line_pairs.specs.declared.options.LineBreakStrictness.TheVariants as strictness
use Rattle.seg_line_pairs.specs.declared.options.LineBreakWordOption.{LineBreakWordOption}
use Rattle.seg_line_pairs.specs.declared.options.LineBreakWordOption.TheVariants as word_option
use Rattle.seg_line_pairs.specs.LineRules.{style_of}
use Rattle.seg_lines.specs.declared.line.options.Tailoring.TheVariants as tailoring
use Rattle.seg_lines.specs.declared.line.options.MachineChoice.{MachineChoice}
use Rattle.seg_lines.specs.declared.line.options.MachineChoice.TheVariants.{Clusters, Lines}
use Rattle.seg_lines.specs.declared.line.options.Tailoring.{Tailoring}
use Rattle.seg_lines.specs.declared.provider.TailoringsOf.{TailoringsOf}

-- the machine of a word option, a strictness, and of whether the language is Japanese or Chinese: the first row that applies
abbrev pub machine_for : LineBreakWordOption → LineBreakStrictness → Bool → MachineChoice
machine_for word_option.BreakAll _ _ = Lines (Some tailoring.BreakAll)
machine_for word_option.KeepAll _ _ = Lines (Some tailoring.KeepAll)
machine_for _ strictness.Anywhere _ = Clusters
machine_for _ strictness.Loose true = Lines (Some tailoring.JaLoose)
machine_for _ strictness.Loose false = Lines (Some tailoring.Loose)
machine_for _ strictness.Normal true = Lines (Some tailoring.JaNormal)
machine_for _ strictness.Normal false = Lines (Some tailoring.Normal)
machine_for _ strictness.Strict true = Lines (Some tailoring.Ja)
machine_for _ strictness.Strict false = Lines None

-- the machine that options choose
abbrev pub machine_choice : LineBreakOptions → MachineChoice
machine_choice options = let style = style_of options in machine_for style.word_option style.strictness style.is_ja_or_zh

-- The tailorings of line machines, by their names.

-- the tailoring of this name, where it was passed in
abbrev pub tailoring_named : {T : Type 0} → TailoringsOf T → Tailoring → Option T
tailoring_named tailorings tailoring.BreakAll = tailorings.breakall
tailoring_named tailorings tailoring.KeepAll = tailorings.keepall
tailoring_named tailorings tailoring.JaLoose = tailorings.ja_loose
tailoring_named tailorings tailoring.Loose = tailorings.loose
tailoring_named tailorings tailoring.JaNormal = tailorings.ja_normal
tailoring_named tailorings tailoring.Normal = tailorings.normal
tailoring_named tailorings tailoring.Ja = tailorings.ja

-- the tailoring of the line machine by this name, if one is named: `None` where it is missing
abbrev pub tailoring_for : {T : Type 0} → TailoringsOf T → Option Tailoring → Option (Option T)
tailoring_for tailorings (Some name) = option_map Some (tailoring_named tailorings name)
tailoring_for tailorings None = Some None

-- The tailorings of machines of lines, and what is borrowed of them.

-- those that are there
abbrev pub MachineTailorings : Type 0
MachineTailorings = TailoringsOf MachineTailoring

-- the tailorings that are borrowed
abbrev pub borrowed_tailorings : {T : Type 0} → TailoringsOf (Bor T) → TailoringsOf T
borrowed_tailorings tailorings = record {
  breakall = option_map (λ tailoring. tailoring.now) tailorings.breakall;
  keepall = option_map (λ tailoring. tailoring.now) tailorings.keepall;
  ja_loose = option_map (λ tailoring. tailoring.now) tailorings.ja_loose;
  loose = option_map (λ tailoring. tailoring.now) tailorings.loose;
  ja_normal = option_map (λ tailoring. tailoring.now) tailorings.ja_normal;
  normal = option_map (λ tailoring. tailoring.now) tailorings.normal;
  ja = option_map (λ tailoring. tailoring.now) tailorings.ja;
}
