use Rattle.std.proofs.Common.{rules, ◌≡◌, ℕ, List, [], ◌∷◌, ◌++◌, sym, subst}
use Rattle.seg_notation.specs.Sets.{has, join_of}
use Rattle.seg_notation.proofs.Merging.{Merged, join-none, merged-start, merged-done, differ, agree, step-same, step-turn}
use Rattle.seg_notation.proofs.points.CodePoints.joined.Goals as goal

pub loop-change-init : goal.loop-change-init
loop-change-init c = (
  0,
  merged-start (join_of c.args.join) _ _ _ _ _ (join-none c.args.join) c.args.self.now.rising c.args.other.now.rising
      c.as_slice.ensures.value c.as_slice-2.ensures.value c.new-changes.ensures.items,
)

pub loop-change-preserved-then-is_now-is_in : goal.loop-change-preserved-then-is_now-is_in
loop-change-preserved-then-is_now-is_in c =
    let grown : c.push.new.self.items ≡ c.loop-change.changes.items ++ c.in-Some.change ∷ [] = c.in_ok-push.ensures.items in (
      c.in-Some.change,
      subst (λ (v : List ℕ). Merged (join_of c.args.join) (has c.args.self.now.changes.items) (has c.args.other.now.changes.items)
          c.next.new.self.one.now c.next.new.self.other.now c.next.new.self.in_one c.next.new.self.in_other v c.is_in-is_now.result c.in-Some.change)
          (sym grown)
          (step-turn c.in-Some.change c.loop-change.changes.items c.loop-change.is_in c.is_in-is_now.result c.loop-change.invariant.0
          (join_of c.args.join) (has c.args.self.now.changes.items) (has c.args.other.now.changes.items) _ _ _ _ _ _ _ _
          c.loop-change.invariant.1 c.in-Some.ensures.some c.is_in-is_now.ensures (differ _ _ c.if-is_now-is_in.true)),
    )

pub loop-change-preserved : goal.loop-change-preserved
loop-change-preserved c = (
  c.in-Some.change,
  step-same c.in-Some.change c.loop-change.changes.items c.loop-change.is_in c.is_in-is_now.result c.loop-change.invariant.0
      (join_of c.args.join) (has c.args.self.now.changes.items) (has c.args.other.now.changes.items) _ _ _ _ _ _ _ _
      c.loop-change.invariant.1 c.in-Some.ensures.some c.is_in-is_now.ensures (agree _ _ c.if-is_now-is_in.false),
)

pub returns : goal.returns
returns c =
    let both : (c.loop-change.merge.one.now ≡ []) × (c.loop-change.merge.other.now ≡ []) = search rules in
    merged-done (join_of c.args.join) (has c.args.self.now.changes.items) (has c.args.other.now.changes.items) _ _ _ _ _ _
    c.loop-change.invariant.0 c.loop-change.invariant.1 both.0 both.1
