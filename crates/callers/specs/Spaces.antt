-- Data that cut a text into runs of spaces and runs of other characters.
use Rattle.std.specs.Prelude.{ℕ, None, [], ◌∷◌}
use Rattle.icu_segmenter.specs.declared.provider.Acceptance.TheVariants.{Continue, Accept}
use Rattle.icu_segmenter.specs.declared.provider.BreakState.TheVariants.{Break, Keep}
use Rattle.icu_segmenter.specs.Table.{Table, table}
use Rattle.icu_segmenter.specs.Machine.{Machine, machine}
use Rattle.icu_segmenter.specs.PairTable.{PairTable, pair_table}

-- the space has one value, any other character the default
abbrev pub spaces : (space other : ℕ) → Table
spaces space other = table ((0x20, 0x20, space) ∷ []) other

-- symbols: 0 the end of the text, 1 another character, 2 the space; states: START, 1 after others, 2 after spaces
abbrev pub spaces_machine : Machine
spaces_machine =
    machine (spaces 2 1) ((Continue, None) ∷ (Accept 0, None) ∷ (Accept 1, None) ∷ [])
    (255 ∷ 255 ∷ 255 ∷ 1 ∷ 1 ∷ 255 ∷ 2 ∷ 255 ∷ 2 ∷ []) 0 3 []

-- classes: 0 another character, 1 the space, 2 the start of the text, 3 its end; class 127 would be that of complex ones
abbrev pub spaces_table : PairTable
spaces_table =
    pair_table (spaces 1 0)
    (Keep ∷ Break ∷ Break ∷ Break
    ∷ Break ∷ Keep ∷ Break ∷ Break
    ∷ Break ∷ Break ∷ Break ∷ Break
    ∷ Break ∷ Break ∷ Break ∷ Break ∷ [])
    [] 4 1 2 3 127
