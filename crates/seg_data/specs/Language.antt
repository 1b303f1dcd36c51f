-- Languages, by the subtag of an identifier (BCP 47).
use Rattle.std.specs.Prelude.{ℕ, ◌≤◌, List, length, All}
use Rattle.std.specs.Char.{IsAsciiAlphabetic}

-- a text that names a language: 2 to 8 ASCII letters
abbrev pub IsLanguage : List ℕ → Type 0
IsLanguage text = (2 ≤ length text) × (length text ≤ 8) × All IsAsciiAlphabetic text
