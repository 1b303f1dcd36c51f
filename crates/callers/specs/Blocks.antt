-- A text block by block: each ends with a line feed, or with the text.
use Rattle.std.specs.Prelude.{◌≡◌, ◌⊎◌, ℕ, ◌<◌, ◌≤◌, List, [], ◌∷◌, ◌++◌, length, take}

-- the first so many bytes are a block
pub record IsBlock (bytes : List ℕ) (count : ℕ) : Type 0 where
  pub some : 0 < length bytes → 0 < count
  pub within : count ≤ length bytes
  pub ends : (count ≡ length bytes) ⊎ ((before : List ℕ) × (take count bytes ≡ before ++ 0x0A ∷ []))
