-- Truth values that are the same.
use Rattle.std.specs.Prelude.{◌≡◌, Bool, true, false}
use Rattle.std.specs.Bool.{beq}
use Rattle.std.proofs.Common.{refl, sym}

pub same_from_beq : (x y : Bool) → beq x y ≡ true → x ≡ y
same_from_beq true true e = refl
same_from_beq true false e = sym e
same_from_beq false true e = e
same_from_beq false false e = refl
