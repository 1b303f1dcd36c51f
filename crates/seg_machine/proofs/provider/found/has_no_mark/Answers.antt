use Rattle.std.proofs.Common.{◌≡◌, ℕ, ◌+◌, ◌*◌, ◌/◌, get_or, ap, ◌∙◌, arith}
use Rattle.seg_machine.proofs.Marks.{unmarked-word}
use Rattle.seg_machine.proofs.provider.found.has_no_mark.Goals as goal

pub returns : goal.returns
returns c =
    λ all state marked.
    let low = marked.state in
    let place : (c.args.kept * 256 + state) / 64 ≡ c.args.kept * 4 + state / 64 = omega arith in
    unmarked-word c.args.marks.now (state, c.args.kept)
    (ap (λ (k : ℕ). get_or c.args.marks.now k 0) place ∙ c.loop-word.invariant (state / 64) (omega arith)) marked
