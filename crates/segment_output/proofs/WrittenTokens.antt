-- Two tokens are written one after the other.
use Rattle.std.proofs.Common.{◌≡◌, Result, Ok, Err, List, [], ◌∷◌, ◌++◌, OnOk, ap, ◌∙◌, append_assoc}
use Rattle.json.specs.Token.{Token}
use Rattle.json.specs.Written.{Written, Writes}
use Rattle.segment_output.specs.Objects.{Adds}

ok-gives : {E P : Type 0} (r : Result (Unit {0}) E) (u : Unit {0}) → r ≡ Ok u → OnOk r P → P
ok-gives (Ok v) u is given = given
ok-gives (Err e) u is given = cc

pub adds-two : {E : Type 0} (old mid new : Written) (r s : Result (Unit {0}) E) (u : Unit {0}) (one two : Token) → r ≡ Ok u → Writes r old mid one → Writes s mid new two
    → OnOk s (Adds old new (one ∷ two ∷ []))
adds-two old mid new r (Err e) u one two is first second = tt
adds-two old mid new r (Ok v) u one two is first second =
    let written : mid.tokens ≡ old.tokens ++ one ∷ [] = ok-gives r u is first.ok in (
      second.room.0 ∙ first.room.0,
      second.ok ∙ ap (λ (tokens : List Token). tokens ++ two ∷ []) written ∙ append_assoc old.tokens (one ∷ []) (two ∷ []),
    )
