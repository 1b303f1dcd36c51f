use Rattle.std.proofs.Common.{◌≡◌, ◌+◌, ◌<◌, ◌⊎◌, Contains, Some, inl, inr, subst, sym, arith}
use Rattle.seg_segments.proofs.Parts.{cover-start, part-below-goes, part-below-none, part-below-some}
use Rattle.seg_segments.proofs.cursor.BoundaryCursor.previous_boundary.Goals as goal
use Rattle.seg_segments.proofs.cursor.BoundaryCursor.previous_boundary.Goals.{then-found-gt0-via-then-found-gt0, then-found-gt0-via-else-found-gt0+then-start, then-found-gt0-via-else-found-gt0+else-start+then-start-eq0}

pub returns-in_err-found : goal.returns-in_err-found
returns-in_err-found g c =
    absurd (part-below-none _ _ _ c.part_at-part.ensures.starts (omega (arith, c.part_at-part.ensures.order, c.starts.invariant.order)) c.in_err-found.ensures.nearest)

pub returns-then-found-gt0 : goal.returns-then-found-gt0
returns-then-found-gt0 g c =
    let start = c.part_at-part.result.0.place in
    let order : start < c.starts.below = omega (arith, c.part_at-part.ensures.order, c.starts.invariant.order) in
    let told : (0 < c.in_ok-found.found) ⊎ Contains c.args.self.now start =
    elim c.then-found-gt0.branch [
      | then-found-gt0-via-then-found-gt0 w ↦ inl w.if-found-gt0.true
      | then-found-gt0-via-else-found-gt0+then-start w ↦ inr (rw (← c.self.view_is) (c.part_at-part.ensures.boundary w.if-start.true))
      | then-found-gt0-via-else-found-gt0+else-start+then-start-eq0 w ↦ inr (rw (← c.self.view_is) (subst (Contains _) (sym w.if-start-eq0.true) (cover-start _ _ c.self.invariant.0)))
    ] in
    c.starts.invariant.nearest (Some (start + c.in_ok-found.found))
    (part-below-some c.args.self.now _ start _ _ c.part_at-part.ensures.starts (rw (← c.self.view_is) c.part_at-part.ensures.part) order c.in_ok-found.ensures.nearest told)

pub starts-preserved : goal.starts-preserved
starts-preserved g c =
    let start = c.part_at-part.result.0.place in
    let order : start < c.starts.below = omega (arith, c.part_at-part.ensures.order, c.starts.invariant.order) in
    let none : c.in_ok-found.found ≡ 0 = omega (arith, c.if-found-gt0.false) in
    record {
      order = omega (arith, c.saturating_sub-from.ensures);
      within = omega (arith, order, c.starts.invariant.within);
      nearest = λ nearest is. c.starts.invariant.nearest nearest
          (part-below-goes c.args.self.now _ start _ _ nearest (rw (← c.self.view_is) c.part_at-part.ensures.part) order c.in_ok-found.ensures.nearest none is);
    }
