-- Of the machine of lines by each tailoring, and without one.
use Rattle.std.specs.Prelude.{[]}
use Rattle.seg_machine.specs.MachineFaults.{IsChecked}
use Rattle.seg_rules.specs.Places.{Passes}
use Rattle.icu_segmenter_uax14.specs.Characters.{strict, break_all, keep_all, ja_loose, loose, ja_normal, normal}
use Rattle.icu_segmenter_uax14.specs.LineRules.{line_rules}
use Rattle.icu_segmenter_uax14.specs.Lines.{line_machine, line_tailorings}
use Rattle.icu_segmenter_uax14.specs.Tailored.{HasScriptsOf, HasSymbolsOf, Tailoring, Untailored, BreakAll, KeepAll, JaLoose, Loose, JaNormal, Normal, Ja, machine_by, scripts_of, style_of}
use Rattle.icu_segmenter_uax14.specs.declared.data.TheConstants as parts
use Rattle.icu_segmenter_uax14.proofs.LineLaw.{line-passes}
use Rattle.icu_segmenter_uax14.proofs.LineSymbols.{strict-given, break-all-given, keep-all-given, ja-loose-given, loose-given, ja-normal-given, normal-given, ja-given}
use Rattle.icu_segmenter_uax14.proofs.LineTables.{plan, relation, tables}
use Rattle.icu_segmenter_uax14.proofs.Machines.{line-machine-is-checked, tailored-is-checked}

pub symbols-have-properties : (tailoring : Tailoring) → HasSymbolsOf (style_of tailoring) (machine_by tailoring)
unfolding line_machine line_tailorings
symbols-have-properties Untailored = strict-given.symbols
symbols-have-properties BreakAll = break-all-given.symbols
symbols-have-properties KeepAll = keep-all-given.symbols
symbols-have-properties JaLoose = ja-loose-given.symbols
symbols-have-properties Loose = loose-given.symbols
symbols-have-properties JaNormal = ja-normal-given.symbols
symbols-have-properties Normal = normal-given.symbols
symbols-have-properties Ja = ja-given.symbols

pub symbols-have-scripts : (tailoring : Tailoring) → HasScriptsOf (scripts_of tailoring) (machine_by tailoring)
unfolding line_machine line_tailorings
symbols-have-scripts Untailored = strict-given.scripts_are
symbols-have-scripts BreakAll = break-all-given.scripts_are
symbols-have-scripts KeepAll = keep-all-given.scripts_are
symbols-have-scripts JaLoose = ja-loose-given.scripts_are
symbols-have-scripts Loose = loose-given.scripts_are
symbols-have-scripts JaNormal = ja-normal-given.scripts_are
symbols-have-scripts Normal = normal-given.scripts_are
symbols-have-scripts Ja = ja-given.scripts_are

pub are-checked : (tailoring : Tailoring) → IsChecked (machine_by tailoring)
unfolding line_tailorings
are-checked Untailored = line-machine-is-checked
are-checked BreakAll = tailored-is-checked parts.BREAK_ALL parts.BREAK_ALL_REPLACED break_all break-all-given.symbols
are-checked KeepAll = tailored-is-checked parts.KEEP_ALL parts.KEEP_ALL_REPLACED keep_all keep-all-given.symbols
are-checked JaLoose = tailored-is-checked parts.JA_LOOSE [] ja_loose ja-loose-given.symbols
are-checked Loose = tailored-is-checked parts.LOOSE [] loose loose-given.symbols
are-checked JaNormal = tailored-is-checked parts.JA_NORMAL [] ja_normal ja-normal-given.symbols
are-checked Normal = tailored-is-checked parts.NORMAL [] normal normal-given.symbols
are-checked Ja = tailored-is-checked parts.JA [] strict ja-given.symbols

pub pass : (tailoring : Tailoring) → Passes line_rules 72 tables relation plan (machine_by tailoring)
unfolding line_machine line_tailorings
pass Untailored = line-passes parts.MAP []
pass BreakAll = line-passes parts.BREAK_ALL parts.BREAK_ALL_REPLACED
pass KeepAll = line-passes parts.KEEP_ALL parts.KEEP_ALL_REPLACED
pass JaLoose = line-passes parts.JA_LOOSE []
pass Loose = line-passes parts.LOOSE []
pass JaNormal = line-passes parts.JA_NORMAL []
pass Normal = line-passes parts.NORMAL []
pass Ja = line-passes parts.JA []
