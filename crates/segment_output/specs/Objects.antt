-- Objects of JSON that are being written.
use Rattle.std.specs.Prelude.{◌≡◌, ℕ, Option, None, Some, List, ◌++◌, codes}
use Rattle.json.specs.Token.{Token}
use Rattle.json.specs.Written.{Written}

-- so many tokens more are written
abbrev pub Adds : Written → Written → List Token → Type 0
Adds old new tokens = (new.before ≡ old.before) × (new.tokens ≡ old.tokens ++ tokens)

-- how an object begins, up to its text: with a name in which each byte stands as it is, if there is one
abbrev pub opening : Option (List ℕ) → List ℕ
opening None = codes "{\"text\":\""
opening (Some name) = codes "{\"file\":\"" ++ (name ++ codes "\",\"text\":\"")
