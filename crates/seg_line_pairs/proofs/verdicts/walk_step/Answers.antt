use Rattle.std.proofs.Common.{◌&&◌, ◌||◌, ◌∙◌, ap}
use Rattle.seg_line_pairs.proofs.UnitLandings.{unit-go, unit-break, unit-back, unit-end-back, unit-end, unless-below}
use Rattle.seg_line_pairs.proofs.verdicts.walk_step.Goals as goal

pub returns-in-Keep-clause-lands : goal.returns-in-Keep-clause-lands
returns-in-Keep-clause-lands g c = unit-go g.E.Elements.left _ _ _ _ _ _ _ c.walk-stop.ensures.stop _ c.in-Some.is c.in-Keep.is

pub returns-in-Break-clause-lands : goal.returns-in-Break-clause-lands
returns-in-Break-clause-lands g c =
    rw c.unless.ensures (unit-break g.E.Elements.left _ _ _ _ _ _ _ c.walk-stop.ensures.stop _ c.in-Some.is c.in-Break.is)

pub returns-in_default : goal.returns-in_default
returns-in_default g c =
    let stop = c.walk-stop.result in
    record {
      lands = rw (c.go_back.ensures.step, c.go_back.ensures.rest)
          (unit-back g.E.Elements.left _ _ _ _ _ _ _ c.walk-stop.ensures.stop _ _ c.in-Some.is c.in_default.not-Keep c.in_default.not-Break
          (ap (λ b. stop.saved_before.detail.is_joined || (stop.before.detail.is_joined && b)) c.is_class-from_class.ensures));
      class = rw c.go_back.ensures.step (unless-below _ _ _ c.walk-stop.ensures.saved);
      end = ap g.E.Elements.end c.go_back.ensures.rest ∙ c.walk-stop.ensures.saved_end;
      table = ap g.E.Elements.table c.go_back.ensures.rest ∙ c.walk-stop.ensures.saved_table;
    }

pub returns-in-NoMatch-clause-lands : goal.returns-in-NoMatch-clause-lands
returns-in-NoMatch-clause-lands g c =
    rw (c.go_back-in-NoMatch.ensures.step, c.go_back-in-NoMatch.ensures.rest)
    (unit-end-back g.E.Elements.left _ _ _ _ _ _ _ c.walk-stop.ensures.stop c.in-None.is c.in-NoMatch.is)

pub returns-in_default-entry : goal.returns-in_default-entry
returns-in_default-entry g c = record {
  lands = unit-end g.E.Elements.left _ _ _ _ _ _ _ c.walk-stop.ensures.stop c.in-None.is c.in_default-entry.not-NoMatch;
  class = tt;
  end = c.walk-stop.ensures.end;
  table = c.walk-stop.ensures.table;
}
