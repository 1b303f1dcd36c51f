use Rattle.seg_line_turns.proofs.PlainPairs.{turns-break, turns-pass}
use Rattle.seg_line_turns.proofs.turn_events.TurnEventsLineSource.plain_break.Goals as goal

pub returns-in_default : goal.returns-in_default
returns-in_default g c =
    let s = c.self.inside in
    rw (← c.self.view_is, c.if-self.false) (record { leads = turns-pass s.opened s.ahead c.plain_break.new.self c.plain_break.ensures.rules c.in_default.ensures.leads c.in_default.ensures.most })

pub returns : goal.returns
returns g c =
    let s = c.self.inside in
    rw (← c.self.view_is, c.if-self.false) (record { leads = turns-break s.opened s.ahead c.plain_break.new.self c.plain_break.ensures.rules _ c.in-Some.ensures.leads })
