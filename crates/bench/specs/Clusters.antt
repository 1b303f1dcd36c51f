-- The bench machine of grapheme clusters, a hand-written one for tests and for the program.
use Rattle.std.specs.Prelude.{ℕ, Option, None, List, [], ◌∷◌}
use Rattle.seg_machine.specs.declared.provider.Acceptance.{Acceptance}
use Rattle.seg_machine.specs.declared.provider.Acceptance.TheVariants.{Continue, Accept}
use Rattle.icu_segmenter.specs.Table.{Table}
use Rattle.icu_segmenter.specs.Machine.{Machine, machine}

-- 2 carriage return, 3 line feed, 4 what extends a cluster, 1 any other character
abbrev pub cluster_symbols : Table
cluster_symbols = record {
  ranges =
      (0x0A, 0x0A, 3) ∷ (0x0D, 0x0D, 2) ∷ (0x300, 0x36F, 4) ∷ (0xE31, 0xE31, 4) ∷ (0xE34, 0xE3A, 4)
      ∷ (0xE47, 0xE4E, 4) ∷ (0x200D, 0x200D, 4) ∷ [];
  default = 1;
}

-- START accepts nothing; 1 a cluster that may be extended, 2 a carriage return, 3 a line feed, or one after 2
abbrev pub cluster_states : List (Acceptance × Option ℕ)
cluster_states = (Continue, None) ∷ (Accept 0, None) ∷ (Accept 0, None) ∷ (Accept 0, None) ∷ []

-- a row for each symbol from 0 on, in it what each state leads to
abbrev pub cluster_transitions : List ℕ
cluster_transitions =
    255 ∷ 255 ∷ 255 ∷ 255
    ∷ 1 ∷ 255 ∷ 255 ∷ 255
    ∷ 2 ∷ 255 ∷ 255 ∷ 255
    ∷ 3 ∷ 255 ∷ 3 ∷ 255
    ∷ 1 ∷ 1 ∷ 255 ∷ 255
    ∷ []

abbrev pub cluster_machine : Machine
cluster_machine = machine cluster_symbols cluster_states cluster_transitions 0 5 []
