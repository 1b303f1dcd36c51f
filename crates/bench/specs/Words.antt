-- The bench machine of words, a hand-written one for tests and for the program.
use Rattle.std.specs.Prelude.{ℕ, Option, None, List, [], ◌∷◌}
use Rattle.seg_data.specs.declared.provider.ComplexScript.{ComplexScript}
use Rattle.seg_data.specs.declared.provider.ComplexScript.TheVariants.{ChineseOrJapanese, Myanmar, Thai}
use Rattle.seg_machine.specs.declared.provider.Acceptance.{Acceptance}
use Rattle.seg_machine.specs.declared.provider.Acceptance.TheVariants.{Continue, Accept}
use Rattle.icu_segmenter.specs.Table.{Table}
use Rattle.icu_segmenter.specs.Machine.{Machine, machine}

-- 2 Latin letters, 3 digits, 1 any other character; the pseudo symbols 5 Thai, 6 ideographs, 7 Myanmar
abbrev pub word_symbols : Table
word_symbols = record {
  ranges =
      (0x30, 0x39, 3) ∷ (0x41, 0x5A, 2) ∷ (0x61, 0x7A, 2) ∷ (0xC0, 0x24F, 2) ∷ (0xE01, 0xE3A, 5)
      ∷ (0xE40, 0xE4E, 5) ∷ (0x1000, 0x103F, 7) ∷ (0x1E00, 0x1EFF, 2) ∷ (0x4E00, 0x9FFF, 6)
      ∷ (0x20000, 0x2A6DF, 6) ∷ [];
  default = 1;
}

-- START accepts nothing; 1 after another character, 2 after a letter, 3 after a digit, 4 after complex characters.
-- Status 1 is that of a number, and 2 that of a word of letters
abbrev pub word_states : List (Acceptance × Option ℕ)
word_states =
    (Continue, None) ∷ (Accept 0, None) ∷ (Accept 2, None) ∷ (Accept 1, None) ∷ (Accept 2, None) ∷ []

-- a row for each symbol from 0 on, in it what each state leads to
abbrev pub word_transitions : List ℕ
word_transitions =
    255 ∷ 255 ∷ 255 ∷ 255 ∷ 255
    ∷ 1 ∷ 255 ∷ 255 ∷ 255 ∷ 255
    ∷ 2 ∷ 255 ∷ 2 ∷ 2 ∷ 255
    ∷ 3 ∷ 255 ∷ 3 ∷ 3 ∷ 255
    ∷ 4 ∷ 255 ∷ 255 ∷ 255 ∷ 4
    ∷ []

-- Thai, ideographs and Myanmar have symbol 4, and a script of which only a dictionary or a model can tell the words
abbrev pub word_map : List (ℕ × ComplexScript)
word_map = (4, Thai) ∷ (4, ChineseOrJapanese) ∷ (4, Myanmar) ∷ []

abbrev pub word_machine : Machine
word_machine = machine word_symbols word_states word_transitions 0 5 word_map
