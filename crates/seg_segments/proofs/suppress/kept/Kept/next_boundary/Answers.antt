use Rattle.std.proofs.Common.{sym, ◌∙◌}
use Rattle.seg_segments.proofs.Suppressing.{left-ascends, left-goes, left-none, left-stays, none-ascends}
use Rattle.seg_segments.proofs.suppress.kept.Kept.next_boundary.Goals as goal

pub invariant_of-self-then-keeps : goal.invariant_of-self-then-keeps
invariant_of-self-then-keeps g c =
    left-ascends _ _ _ _ _ _ _ _ c.in_ok-found.ensures.steps c.keeps.ensures.later _ c.breaks.invariant

pub returns-then-keeps : goal.returns-then-keeps
returns-then-keeps g c =
    rw c.keeps.ensures.words
    (left-stays _ _ _ _ _ _ _ _ c.in_ok-found.ensures.steps c.keeps.ensures.later _ c.breaks.invariant (sym c.keeps.ensures.stays ∙ c.if-keeps.true))

pub breaks-preserved : goal.breaks-preserved
breaks-preserved g c =
    rw c.keeps.ensures.words
    (left-goes _ _ _ _ _ _ _ _ c.in_ok-found.ensures.steps c.keeps.ensures.later _ c.breaks.invariant (sym c.keeps.ensures.stays ∙ c.if-keeps.false))

pub invariant_of-self : goal.invariant_of-self
invariant_of-self g c = none-ascends _ c.in_err-found.ensures.steps.1

pub returns-in_err-found : goal.returns-in_err-found
returns-in_err-found g c = rw c.from_residual.ensures (left-none _ _ _ _ _ _ c.breaks.invariant c.in_err-found.ensures.steps)
