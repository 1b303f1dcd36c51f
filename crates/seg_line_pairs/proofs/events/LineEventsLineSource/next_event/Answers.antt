use Rattle.std.proofs.Common.{refl}
use Rattle.seg_line_pairs.specs.LineBoundaries.{rules_by}
use Rattle.seg_line_pairs.specs.ReadAhead.{lines_of}
use Rattle.seg_line_pairs.proofs.LineEvents.{break-goes, break-leads, break-of, not-empty, run-goes, run-leads, run-of}
use Rattle.seg_line_pairs.proofs.LinesLeft.{nothing-unread}
use Rattle.seg_line_pairs.proofs.events.LineEventsLineSource.next_event.Goals as goal

pub returns-in_default-clause-leads : goal.returns-in_default-clause-leads
returns-in_default-clause-leads g c =
    let none = c.in_default.ensures in
    rw (← c.self.view_is) (none, (refl, λ cuts. nothing-unread cuts (lines_of c.self.inside.ahead) none))

pub returns-in_default-clause-goes : goal.returns-in_default-clause-goes
returns-in_default-clause-goes g c = rw (← c.self.view_is) (record { end = refl; fewer = λ some. absurd (some c.in_default.ensures) })

pub go_to-requires : goal.go_to-requires
go_to-requires g c =
    let b = break-of c.self.inside.ahead (rules_by c.pairs.result) c.pairs.ensures c.in-Some.left c.in-Some.units c.next_break.new.rest c.in-Some.ensures
    c.in-Break._class c.in-Break.next _ c.in-Break.ensures.ends c.in-Break.ensures.end c.place_before-place.ensures in
    (b.taken, b.here)

pub returns-in-Break-clause-leads : goal.returns-in-Break-clause-leads
returns-in-Break-clause-leads g c =
    let b = break-of c.self.inside.ahead (rules_by c.pairs.result) c.pairs.ensures c.in-Some.left c.in-Some.units c.next_break.new.rest c.in-Some.ensures
    c.in-Break._class c.in-Break.next _ c.in-Break.ensures.ends c.in-Break.ensures.end c.place_before-place.ensures in
    rw (← c.self.view_is) (break-leads c.self.inside.ahead _ c.pairs.ensures c.go_to.new.self _ b (c.go_to.ensures b.taken b.here))

pub returns-in-Break-clause-goes : goal.returns-in-Break-clause-goes
returns-in-Break-clause-goes g c =
    let b = break-of c.self.inside.ahead (rules_by c.pairs.result) c.pairs.ensures c.in-Some.left c.in-Some.units c.next_break.new.rest c.in-Some.ensures
    c.in-Break._class c.in-Break.next _ c.in-Break.ensures.ends c.in-Break.ensures.end c.place_before-place.ensures in
    rw (← c.self.view_is) (break-goes c.self.inside.ahead _ c.pairs.ensures c.go_to.new.self _ b (c.go_to.ensures b.taken b.here))

pub run_at-run-requires : goal.run_at-run-requires
run_at-run-requires g c =
    let r = run-of c.self.inside.ahead (rules_by c.pairs.result) c.pairs.ensures c.in-Some.left c.in-Some.units c.next_break.new.rest c.in-Some.ensures
    c.in-Run.first c.in-Run._second c.in-Run.ensures.ends in
    (r.gone, r.here)

pub returns-clause-leads : goal.returns-clause-leads
returns-clause-leads g c =
    let r = run-of c.self.inside.ahead (rules_by c.pairs.result) c.pairs.ensures c.in-Some.left c.in-Some.units c.next_break.new.rest c.in-Some.ensures
    c.in-Run.first c.in-Run._second c.in-Run.ensures.ends in
    rw (← c.self.view_is) (
      not-empty _ _ r.fewer,
      c.run_at-run.ensures.end,
      run-leads c.self.inside.ahead _ c.pairs.ensures c.run_at-run.new.self _ r _ (c.run_at-run.ensures.takes r.gone r.here),
    )

pub returns-clause-goes : goal.returns-clause-goes
returns-clause-goes g c =
    let r = run-of c.self.inside.ahead (rules_by c.pairs.result) c.pairs.ensures c.in-Some.left c.in-Some.units c.next_break.new.rest c.in-Some.ensures
    c.in-Run.first c.in-Run._second c.in-Run.ensures.ends in
    rw (← c.self.view_is) (run-goes c.self.inside.ahead _ c.pairs.ensures c.run_at-run.new.self _ r _ (c.run_at-run.ensures.takes r.gone r.here))
