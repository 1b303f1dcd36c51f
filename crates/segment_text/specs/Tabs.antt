-- Tabs as spaces.
use Rattle.std.specs.Prelude.{ℕ, ◌-◌, ◌%◌, ◌==◌, List, [], ◌∷◌, ◌++◌, replicate, if◌then◌else◌}
use Rattle.icu_segmenter.specs.Wrapping.{bytes_columns}

-- the spaces for a tab behind a field: what stands between it and the tab before it, or the start of its line. Tabs end at multiples of so
-- many columns, and so do these spaces
abbrev pub tab_spaces : ℕ → List ℕ → List ℕ
tab_spaces columns field = replicate (columns - bytes_columns field % columns) 0x20

-- some bytes, which go on a field, with such spaces for each tab; a line ends with a line feed
unfoldable pub expanded_after : ℕ → List ℕ → List ℕ → List ℕ
expanded_after columns field [] = []
expanded_after columns field (byte ∷ bytes) =
    if byte == 0x09 then tab_spaces columns field ++ expanded_after columns [] bytes else
    if byte == 0x0A then byte ∷ expanded_after columns [] bytes else
    byte ∷ expanded_after columns (field ++ byte ∷ []) bytes

-- a text in which each tab is as many spaces as there are to the next multiple of so many columns
abbrev pub expanded : ℕ → List ℕ → List ℕ
expanded columns bytes = expanded_after columns [] bytes
