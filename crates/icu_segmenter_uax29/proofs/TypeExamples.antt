-- The types of some words, computed.
use Rattle.std.proofs.Common.{◌≡◌, [], ◌∷◌, refl}
use Rattle.ucd_table.proofs.Computing.{tables}
use Rattle.ucd_breaks.specs.LineBreak.{line_break}
use Rattle.ucd_breaks.specs.LineBreakRows.{line_break_rows}
use Rattle.ucd_breaks.specs.WordBreak.{word_break}
use Rattle.ucd_breaks.specs.WordBreakRows.{word_break_rows}
use Rattle.ucd_emoji.specs.Binary.{is_extended_pictographic}
use Rattle.ucd_emoji.specs.Ranges.{extended_pictographic_ranges}
use Rattle.ucd_script.specs.Script.{script}
use Rattle.ucd_script.specs.ScriptRows.{script_rows}
use Rattle.icu_segmenter_uax29.specs.WordTypes.{type_from, word_type}

pub record Types : Type 0 where
  pub letters : word_type (0x63 ∷ 0x61 ∷ 0x6E ∷ 0x27 ∷ 0x74 ∷ []) ≡ 2
  pub digits : word_type (0x33 ∷ 0x2E ∷ 0x31 ∷ 0x34 ∷ []) ≡ 1
  pub both : word_type (0x61 ∷ 0x31 ∷ 0x5F ∷ []) ≡ 1
  pub neither : word_type (0x5F ∷ []) ≡ 0
  pub ideograph : word_type (0x6F22 ∷ []) ≡ 2

pub types : Types
unfolding tables type_from word_break word_break_rows line_break line_break_rows script script_rows is_extended_pictographic extended_pictographic_ranges
types = record {
  letters = refl;
  digits = refl;
  both = refl;
  neither = refl;
  ideograph = refl;
}
