-- A part of a text.
use Rattle.std.specs.Prelude.{ℕ, ◌-◌, List, drop, take}

-- what stands between two offsets
abbrev pub between : ℕ → ℕ → List ℕ → List ℕ
between from to units = take (to - from) (drop from units)
