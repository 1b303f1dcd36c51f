-- The machine of lines by each tailoring, and the style that it is of.
use Rattle.std.specs.Prelude.{◌≡◌, ◌⊎◌, ℕ, List, [], ◌∷◌}
use Rattle.seg_text.specs.declared.boundary.Boundary.{Boundary}
use Rattle.seg_text.specs.Boundaries.{start}
use Rattle.seg_data.specs.declared.provider.ComplexScript.{ComplexScript}
use Rattle.seg_data.specs.ScriptWords.{no_words}
use Rattle.seg_machine.specs.Machine.{Machine, symbol_and_script, symbols_of, with_tailoring}
use Rattle.seg_machine.specs.Pick.{machine_boundaries}
use Rattle.seg_clusters.specs.Spans.{inner_cuts}
use Rattle.seg_lines.specs.LineBreaks.{LineRules, joined, line_boundaries_by}
use Rattle.seg_lines.specs.LineBreaks.LineFinder.{ByClusters, ByMachine}
use Rattle.seg_rules.specs.Plain.{plain_places}
use Rattle.icu_segmenter_uax14.specs.Characters.{Character, LineStyle, HasStyle, character, complex_script, no_script, strict, break_all, keep_all, ja_loose, loose, ja_normal, normal}
use Rattle.icu_segmenter_uax14.specs.LineRules.{line_rules}
use Rattle.icu_segmenter_uax14.specs.Lines.{line_machine, line_tailorings}

-- the tailorings by the properties line-break and word-break of CSS Text 3, and none of them
pub data Tailoring : Type 0 where
  Untailored : Tailoring
  BreakAll : Tailoring
  KeepAll : Tailoring
  JaLoose : Tailoring
  Loose : Tailoring
  JaNormal : Tailoring
  Normal : Tailoring
  Ja : Tailoring

abbrev pub style_of : Tailoring → LineStyle
style_of Untailored = strict
style_of BreakAll = break_all
style_of KeepAll = keep_all
style_of JaLoose = ja_loose
style_of Loose = loose
style_of JaNormal = ja_normal
style_of Normal = normal
style_of Ja = strict

-- the scripts of a tailoring, by which dictionaries cut: where words break anywhere, none
abbrev pub scripts_of : Tailoring → Character → ComplexScript
scripts_of BreakAll = no_script
scripts_of _ = complex_script

-- the machine of lines by a tailoring
abbrev pub machine_by : Tailoring → Machine
machine_by Untailored = line_machine
machine_by BreakAll = with_tailoring line_machine line_tailorings.breakall
machine_by KeepAll = with_tailoring line_machine line_tailorings.keepall
machine_by JaLoose = with_tailoring line_machine line_tailorings.ja_loose
machine_by Loose = with_tailoring line_machine line_tailorings.loose
machine_by JaNormal = with_tailoring line_machine line_tailorings.ja_normal
machine_by Normal = with_tailoring line_machine line_tailorings.normal
machine_by Ja = with_tailoring line_machine line_tailorings.ja

-- the places where the rules of lines break some code points, by the symbols of a machine: the start, and then each, with its status
abbrev pub line_places : Machine → List ℕ → List Boundary
line_places m cs = start ∷ plain_places line_rules 0 [] (symbols_of m cs)

-- for every list of code points the machine's boundaries are those places
abbrev pub FollowsRules : Machine → Type 0
FollowsRules m = (cs : List ℕ) → machine_boundaries m cs ≡ line_places m cs

-- lines that the machine finds are broken at those places, and within runs where words of scripts end
pub record LinesFollowRules (rules : LineRules) (m : Machine) : Type 0 where
  pub with_words : (cs : List ℕ) → line_boundaries_by rules cs ≡ joined (line_places m cs) (inner_cuts m rules.payloads cs)
  pub without_words : rules.payloads.words ≡ no_words → (cs : List ℕ) → line_boundaries_by rules cs ≡ line_places m cs

-- lines that are broken between any clusters, or follow the rules of UAX #14 by the machine or a tailoring of it
abbrev pub AreLines : LineRules → Type 0
AreLines rules = (rules.finder ≡ ByClusters)
    ⊎ ((tailoring : Tailoring) × (rules.finder ≡ ByMachine (machine_by tailoring)) × LinesFollowRules rules (machine_by tailoring))

-- the symbol of every code point means its properties by a style
abbrev pub HasSymbolsOf : LineStyle → Machine → Type 0
HasSymbolsOf style m = (c : ℕ) → HasStyle style c (symbol_and_script m c).0

-- the script of every code point is that by which a dictionary may cut it
abbrev pub HasScriptsOf : (Character → ComplexScript) → Machine → Type 0
HasScriptsOf scripts m = (c : ℕ) → (symbol_and_script m c).1 ≡ scripts (character c)
