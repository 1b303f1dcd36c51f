-- The bench machine of sentences, a hand-written one for tests and for the program.
use Rattle.std.specs.Prelude.{ℕ, Option, None, List, [], ◌∷◌}
use Rattle.seg_machine.specs.declared.provider.Acceptance.{Acceptance}
use Rattle.seg_machine.specs.declared.provider.Acceptance.TheVariants.{Continue, Accept}
use Rattle.icu_segmenter.specs.Table.{Table}
use Rattle.icu_segmenter.specs.Machine.{Machine, machine}

-- 2 what ends a sentence, 3 the space, 4 what ends a line, 1 any other character
abbrev pub sentence_symbols : Table
sentence_symbols = record {
  ranges =
      (0x0A, 0x0A, 4) ∷ (0x0D, 0x0D, 4) ∷ (0x20, 0x20, 3) ∷ (0x21, 0x21, 2) ∷ (0x2E, 0x2E, 2)
      ∷ (0x3F, 0x3F, 2) ∷ [];
  default = 1;
}

-- START accepts nothing; 1 within a sentence, 2 after what ends one, 3 after spaces behind it, 4 after the end of a line
abbrev pub sentence_states : List (Acceptance × Option ℕ)
sentence_states =
    (Continue, None) ∷ (Accept 0, None) ∷ (Accept 0, None) ∷ (Accept 0, None) ∷ (Accept 0, None) ∷ []

-- a row for each symbol from 0 on, in it what each state leads to
abbrev pub sentence_transitions : List ℕ
sentence_transitions =
    255 ∷ 255 ∷ 255 ∷ 255 ∷ 255
    ∷ 1 ∷ 1 ∷ 1 ∷ 255 ∷ 255
    ∷ 2 ∷ 2 ∷ 2 ∷ 255 ∷ 255
    ∷ 1 ∷ 1 ∷ 3 ∷ 3 ∷ 255
    ∷ 4 ∷ 4 ∷ 4 ∷ 4 ∷ 255
    ∷ []

abbrev pub sentence_machine : Machine
sentence_machine = machine sentence_symbols sentence_states sentence_transitions 0 5 []
