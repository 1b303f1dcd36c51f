-- What each state of the machine of typed words knows: written by generate/generate.py. Do not edit.
use Rattle.std.specs.Prelude.{ℕ, Bool, false, List, [], ◌∷◌}

-- which state it is of the machine of words
unfoldable pub plain_states : List ℕ
plain_states = 0 ∷ 1 ∷ 2 ∷ 3 ∷ 5 ∷ 18 ∷ 12 ∷ 8 ∷ 6 ∷ 10 ∷ 14 ∷ 4 ∷ 1 ∷ 19 ∷ 13 ∷ 14 ∷ 9 ∷ 16 ∷ 21 ∷ 20 ∷ 7 ∷ 11 ∷ 22 ∷ 14 ∷ 15 ∷ 5 ∷ 15 ∷ 17 ∷ 15 ∷ []

-- what type of word was read
unfoldable pub types : List ℕ
types = 0 ∷ 0 ∷ 0 ∷ 0 ∷ 0 ∷ 0 ∷ 2 ∷ 2 ∷ 2 ∷ 1 ∷ 0 ∷ 0 ∷ 2 ∷ 0 ∷ 2 ∷ 2 ∷ 2 ∷ 0 ∷ 0 ∷ 0 ∷ 2 ∷ 1 ∷ 0 ∷ 1 ∷ 0 ∷ 2 ∷ 2 ∷ 0 ∷ 1 ∷ []

-- whether a scan comes there before anything was accepted
unfoldable pub waits : List Bool
waits = false ∷ false ∷ false ∷ false ∷ false ∷ false ∷ false ∷ false ∷ false ∷ false ∷ false ∷ false ∷ false ∷ false ∷ false ∷ false ∷ false ∷ false ∷ false ∷ false ∷ false ∷ false ∷ false ∷ false ∷ false ∷ false ∷ false ∷ false ∷ false ∷ []
