use Rattle.seg_line_pairs.proofs.PlainPairs.{lines-lead}
use Rattle.seg_line_pairs.proofs.events.LineEventsLineSource.plain_break.Goals as goal

pub returns : goal.returns
returns g c = rw (← c.self.view_is) (record {
  leads = lines-lead c.self.inside.ahead c.plain_break.new.self c.plain_break.ensures.rules c.plain_break.ensures.most _ c.plain_break.ensures.leads;
})
