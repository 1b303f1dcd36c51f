use Rattle.std.proofs.Common.{refl}
use Rattle.seg_line_pairs.specs.LineBoundaries.{rules_by}
use Rattle.seg_line_pairs.proofs.LineEvents.{not-empty}
use Rattle.seg_line_turns.specs.TurnEvents.{turns_of}
use Rattle.seg_line_turns.proofs.TurnEvents.{break-goes, break-leads, break-of, go-goes, go-leads, go-of, run-goes, run-leads-to, run-of}
use Rattle.seg_line_turns.proofs.TurnsLeft.{nothing-unread}
use Rattle.seg_line_turns.proofs.turn_events.TurnEventsLineSource.next_event.Goals as goal

pub go_to-requires : goal.go_to-requires
go_to-requires g c =
    let s = c.self.inside in
    let b = break-of s.ahead (rules_by c.pairs-pairs.result) s.starts s.opened c.in-Some.next (g.I.Cursor.text c.in-Some.rest) c.in-Some.ensures.0 c.first_unit-first.result c.turn.result
    c.first_unit-first.ensures.unit c.first_unit-first.ensures.place c.turn.ensures c.in-Break.place c.in-Break.resume c.in-Break.is in
    (b.taken, b.resume_is)

pub returns-in-Break-clause-leads : goal.returns-in-Break-clause-leads
returns-in-Break-clause-leads g c =
    let s = c.self.inside in
    let b = break-of s.ahead (rules_by c.pairs-pairs.result) s.starts s.opened c.in-Some.next (g.I.Cursor.text c.in-Some.rest) c.in-Some.ensures.0 c.first_unit-first.result c.turn.result
    c.first_unit-first.ensures.unit c.first_unit-first.ensures.place c.turn.ensures c.in-Break.place c.in-Break.resume c.in-Break.is in
    rw (← c.self.view_is) (break-leads s.ahead _ c.pairs-pairs.ensures s.starts s.opened c.go_to.new.self _ _ b (c.go_to.ensures b.taken b.resume_is))

pub returns-in-Break-clause-goes : goal.returns-in-Break-clause-goes
returns-in-Break-clause-goes g c =
    let s = c.self.inside in
    let b = break-of s.ahead (rules_by c.pairs-pairs.result) s.starts s.opened c.in-Some.next (g.I.Cursor.text c.in-Some.rest) c.in-Some.ensures.0 c.first_unit-first.result c.turn.result
    c.first_unit-first.ensures.unit c.first_unit-first.ensures.place c.turn.ensures c.in-Break.place c.in-Break.resume c.in-Break.is in
    rw (← c.self.view_is) (break-goes s.ahead _ c.pairs-pairs.ensures s.starts s.opened c.go_to.new.self _ _ b (c.go_to.ensures b.taken b.resume_is))

pub go_to-requires-in-Go : goal.go_to-requires-in-Go
go_to-requires-in-Go g c =
    let s = c.self.inside in
    let b = go-of s.ahead (rules_by c.pairs-pairs.result) s.starts s.opened c.in-Some.next (g.I.Cursor.text c.in-Some.rest) c.in-Some.ensures.0 c.first_unit-first.result c.turn.result
    c.first_unit-first.ensures.unit c.first_unit-first.ensures.place c.turn.ensures c.in-Go.place c.in-Go.opened c.in-Go.is in
    (b.taken, b.place_is)

pub returns-in-Go-clause-leads : goal.returns-in-Go-clause-leads
returns-in-Go-clause-leads g c =
    let s = c.self.inside in
    let b = go-of s.ahead (rules_by c.pairs-pairs.result) s.starts s.opened c.in-Some.next (g.I.Cursor.text c.in-Some.rest) c.in-Some.ensures.0 c.first_unit-first.result c.turn.result
    c.first_unit-first.ensures.unit c.first_unit-first.ensures.place c.turn.ensures c.in-Go.place c.in-Go.opened c.in-Go.is in
    rw (← c.self.view_is) (not-empty _ _ b.fewer, go-leads s.ahead _ c.pairs-pairs.ensures s.starts s.opened c.go_to-in-Go.new.self _ _ b (c.go_to-in-Go.ensures b.taken b.place_is))

pub returns-in-Go-clause-goes : goal.returns-in-Go-clause-goes
returns-in-Go-clause-goes g c =
    let s = c.self.inside in
    let b = go-of s.ahead (rules_by c.pairs-pairs.result) s.starts s.opened c.in-Some.next (g.I.Cursor.text c.in-Some.rest) c.in-Some.ensures.0 c.first_unit-first.result c.turn.result
    c.first_unit-first.ensures.unit c.first_unit-first.ensures.place c.turn.ensures c.in-Go.place c.in-Go.opened c.in-Go.is in
    rw (← c.self.view_is) (go-goes s.ahead _ c.pairs-pairs.ensures s.starts s.opened c.go_to-in-Go.new.self _ _ b (c.go_to-in-Go.ensures b.taken b.place_is))

pub run_at-run-requires : goal.run_at-run-requires
run_at-run-requires g c =
    let s = c.self.inside in
    let b = run-of s.ahead (rules_by c.pairs-pairs.result) s.starts s.opened c.in-Some.next (g.I.Cursor.text c.in-Some.rest) c.in-Some.ensures.0 c.first_unit-first.result c.turn.result
    c.first_unit-first.ensures.unit c.first_unit-first.ensures.place c.turn.ensures c.in-Run.place c.in-Run.opened c.in-Run.is in
    (b.first, b.place_is)

pub returns-in-Run-clause-leads : goal.returns-in-Run-clause-leads
returns-in-Run-clause-leads g c =
    let s = c.self.inside in
    let b = run-of s.ahead (rules_by c.pairs-pairs.result) s.starts s.opened c.in-Some.next (g.I.Cursor.text c.in-Some.rest) c.in-Some.ensures.0 c.first_unit-first.result c.turn.result
    c.first_unit-first.ensures.unit c.first_unit-first.ensures.place c.turn.ensures c.in-Run.place c.in-Run.opened c.in-Run.is in
    rw (← c.self.view_is) (
      not-empty _ _ b.fewer,
      c.run_at-run.ensures.end,
      run-leads-to s.ahead _ c.pairs-pairs.ensures s.starts s.opened c.run_at-run.new.self _ _ b _ (c.run_at-run.ensures.takes b.first b.place_is),
    )

pub returns-in-Run-clause-goes : goal.returns-in-Run-clause-goes
returns-in-Run-clause-goes g c =
    let s = c.self.inside in
    let b = run-of s.ahead (rules_by c.pairs-pairs.result) s.starts s.opened c.in-Some.next (g.I.Cursor.text c.in-Some.rest) c.in-Some.ensures.0 c.first_unit-first.result c.turn.result
    c.first_unit-first.ensures.unit c.first_unit-first.ensures.place c.turn.ensures c.in-Run.place c.in-Run.opened c.in-Run.is in
    rw (← c.self.view_is) (run-goes s.ahead _ c.pairs-pairs.ensures s.starts s.opened c.run_at-run.new.self _ _ b _ (c.run_at-run.ensures.takes b.first b.place_is))

pub returns-in_default-clause-leads : goal.returns-in_default-clause-leads
returns-in_default-clause-leads g c =
    let s = c.self.inside in
    let none = c.in_default.ensures in
    rw (← c.self.view_is) (none, (refl, λ cuts. nothing-unread cuts (turns_of s.starts s.opened s.ahead) none))

pub returns-in_default-clause-goes : goal.returns-in_default-clause-goes
returns-in_default-clause-goes g c =
    rw (← c.self.view_is) (record { end = refl; fewer = λ some. absurd (some c.in_default.ensures) })
