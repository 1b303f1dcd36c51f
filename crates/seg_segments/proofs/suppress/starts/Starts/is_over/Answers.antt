use Rattle.std.proofs.Common.{ℕ, ◌<◌, subst}
use Rattle.seg_segments.proofs.Reading.{over, over-joined}
use Rattle.seg_segments.proofs.suppress.starts.Starts.is_over.Goals as goal

pub returns-then-self : goal.returns-then-self
returns-then-self g c is = over-joined _ _ _ _ (subst (λ (n : ℕ). n < c.args.place) c.place.ensures c.if-place.false) c.if-self.true

pub returns-in-Over : goal.returns-in-Over
returns-in-Over g c is =
    over _ _ _ _ (subst (λ (n : ℕ). n < c.args.place) c.place.ensures c.if-place.false) (rw c.fork.ensures at c.in-Over.ensures)
