-- The bench machine of lines and its tailorings, hand-written ones for tests and for the program.
use Rattle.std.specs.Prelude.{ℕ, Option, Some, None, List, [], ◌∷◌}
use Rattle.seg_data.specs.declared.provider.ComplexScript.{ComplexScript}
use Rattle.seg_data.specs.declared.provider.ComplexScript.TheVariants.{None as NoScript, Myanmar, Thai}
use Rattle.seg_machine.specs.declared.provider.Acceptance.{Acceptance}
use Rattle.seg_machine.specs.declared.provider.Acceptance.TheVariants.{Continue, Accept}
use Rattle.icu_segmenter.specs.Options.{MachineTailorings}
use Rattle.icu_segmenter.specs.Table.{Table}
use Rattle.icu_segmenter.specs.Machine.{Machine, MachineTailoring, machine, tailoring}

-- 2 the space, 3 the line feed, 4 ideographs, 1 any other character; the pseudo symbols 5 Thai, 6 Myanmar, 7 Latin letters
abbrev pub line_symbols : Table
line_symbols = record {
  ranges =
      (0x0A, 0x0A, 3) ∷ (0x20, 0x20, 2) ∷ (0x41, 0x5A, 7) ∷ (0x61, 0x7A, 7) ∷ (0xC0, 0x24F, 7)
      ∷ (0xE01, 0xE3A, 5) ∷ (0xE40, 0xE4E, 5) ∷ (0x1000, 0x103F, 6) ∷ (0x1E00, 0x1EFF, 7)
      ∷ (0x4E00, 0x9FFF, 4) ∷ [];
  default = 1;
}

-- START accepts nothing; 1 after other characters, 2 after spaces, 4 after an ideograph. Status 1, for a line that must
-- be broken, is that of 3, after a line feed, and of 5, at the end of the text
abbrev pub line_states : List (Acceptance × Option ℕ)
line_states =
    (Continue, None) ∷ (Accept 0, None) ∷ (Accept 0, None) ∷ (Accept 1, None) ∷ (Accept 0, None)
    ∷ (Accept 1, None) ∷ []

-- a row for each symbol from 0 on, in it what each state leads to
abbrev pub line_transitions : List ℕ
line_transitions =
    255 ∷ 5 ∷ 5 ∷ 255 ∷ 5 ∷ 255
    ∷ 1 ∷ 1 ∷ 255 ∷ 255 ∷ 255 ∷ 255
    ∷ 2 ∷ 2 ∷ 2 ∷ 255 ∷ 2 ∷ 255
    ∷ 3 ∷ 3 ∷ 3 ∷ 255 ∷ 3 ∷ 255
    ∷ 4 ∷ 255 ∷ 255 ∷ 255 ∷ 255 ∷ 255
    ∷ []

-- Thai, Myanmar and letters are as any other character
abbrev pub line_map : List (ℕ × ComplexScript)
line_map = (1, Thai) ∷ (1, Myanmar) ∷ (1, NoScript) ∷ []

abbrev pub line_machine : Machine
line_machine = machine line_symbols line_states line_transitions 0 5 line_map

-- the tailoring by which they are as ideographs, so that a line may be broken beside each
abbrev pub breakall : MachineTailoring
breakall = tailoring ((4, NoScript) ∷ (4, NoScript) ∷ (4, NoScript) ∷ []) []

-- no other tailoring is there
abbrev pub line_tailorings : MachineTailorings
line_tailorings = record {
  breakall = Some breakall;
  keepall = None;
  ja_loose = None;
  loose = None;
  ja_normal = None;
  normal = None;
  ja = None;
}
