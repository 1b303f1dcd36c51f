use Rattle.std.proofs.Common.{◌≡◌, ◌≤◌, ℕ, true, nat_lt, subst}
use Rattle.std.specs.Prelude.{◌||◌}
use Rattle.seg_wrap.proofs.Walks.{either-first, either-second, turn, turn-end, turn-fewer, turn-stop, turn-within}
use Rattle.seg_wrap.proofs.wrap.wrapping.next_line.Goals.{then-line-via-then-line, then-line-via-else-line+then-columns-extent}
use Rattle.seg_wrap.proofs.wrap.wrapping.next_line.Goals as goal

pub joined-extent-requires-clause-within : goal.joined-extent-requires-clause-within
joined-extent-requires-clause-within g c = turn-within _ _ _ _ _ _ _ _ _ _ c.line.invariant c.in-Some.is

pub line-smaller : goal.line-smaller
line-smaller g c = turn-fewer _ _ _ _ _ _ _ _ _ _ _ _ c.line.invariant c.in-Some.is c.next_piece-held-in-Some.ensures.segments

pub line-preserved : goal.line-preserved
line-preserved g c =
    turn _ _ _ _ _ _ _ _ _ _ _ _ _ _ c.line.invariant c.in-Some.is c.joined-extent.ensures c.if-line.false
    (subst (λ (columns : ℕ). c.joined-extent.result.columns ≤ columns) c.columns-columns.ensures c.if-columns-extent.false)
    c.next_piece-held-in-Some.ensures.segments c.next_piece-held-in-Some.ensures.held c.next_piece-held-in-Some.ensures.after

pub returns-then-line-clause-lines : goal.returns-then-line-clause-lines
returns-then-line-clause-lines g c =
    let stops : (c.line.line.is_mandatory || nat_lt c.columns-columns.result c.joined-extent.result.columns) ≡ true = elim c.then-line.branch [
      | then-line-via-then-line w ↦ either-first _ _ w.if-line.true
      | then-line-via-else-line+then-columns-extent w ↦ either-second _ _ _ w.if-columns-extent.true
    ] in
    turn-stop _ _ _ _ _ _ _ _ _ _ _ c.line.invariant c.in-Some.is c.joined-extent.ensures
    (subst (λ (columns : ℕ). (c.line.line.is_mandatory || nat_lt columns c.joined-extent.result.columns) ≡ true) c.columns-columns.ensures stops)

pub returns-in_default-clause-lines : goal.returns-in_default-clause-lines
returns-in_default-clause-lines g c = turn-end _ _ _ _ _ _ _ _ _ c.line.invariant c.in_default.is
