-- The digits that are kept, and two pairs.
use Rattle.std.proofs.Common.{ℕ, List, ◌/◌, ◌%◌, ◌++◌, ap, sym, ◌∙◌, take}
use Rattle.itoa.proofs.Decimal.{pair}
use Rattle.segment_text.proofs.KeptDigits.{near-digits, pieces}
use Rattle.segment_text.proofs.digits.Digits.put_near.Goals as goal

pub returns-clause-pieces : goal.returns-clause-pieces
returns-clause-pieces c =
    let (some, whole, short, is) = c.self.invariant in
    let rest : ℕ = c.args.rest in
    rw (← c.self.view_is) (
    pieces (take c.args.at c.args.object.now) (take c.self.inside.len c.self.inside.digits) (pair (rest / 100)) (pair (rest % 100)) _ _ _
    c.put-at.ensures.pieces c.put_pair-at.ensures.pieces c.put_pair.ensures.pieces
    ∙ ap (λ (number : List ℕ). take c.args.at c.args.object.now ++ number)
    (sym (near-digits c.self.inside.from rest c.self.inside.len c.self.inside.digits some whole c.requires.near.0 (rw c.self.view_is c.requires.near.1) is)))
