use Rattle.seg_pairs.proofs.Landings.{lands-go, lands-break, lands-back, lands-end-back, lands-end, later-stop, later-saved}
use Rattle.seg_pairs.proofs.verdicts.walk_apart.Goals as goal

pub returns-in-Keep-clause-lands : goal.returns-in-Keep-clause-lands
returns-in-Keep-clause-lands g c = lands-go g.E.Elements.left _ _ _ _ _ _ _ c.walk-state.ensures.stop _ c.in-Some.is c.in-Keep.is

pub returns-in-Keep-clause-later : goal.returns-in-Keep-clause-later
returns-in-Keep-clause-later g c = later-stop g.E.Elements.left _ _ _ _ _ _ _ c.walk-state.ensures.stop

pub returns-in-Break-clause-lands : goal.returns-in-Break-clause-lands
returns-in-Break-clause-lands g c = lands-break g.E.Elements.left _ _ _ _ _ _ _ c.walk-state.ensures.stop _ c.in-Some.is c.in-Break.is

pub returns-in-Break-clause-later : goal.returns-in-Break-clause-later
returns-in-Break-clause-later g c = later-stop g.E.Elements.left _ _ _ _ _ _ _ c.walk-state.ensures.stop

pub returns-in_default : goal.returns-in_default
returns-in_default g c = record {
  lands = lands-back g.E.Elements.left _ _ _ _ _ _ _ c.walk-state.ensures.stop _ c.in-Some.is c.in_default.not-Keep c.in_default.not-Break;
  class = c.walk-state.ensures.saved;
  later = later-saved g.E.Elements.left _ _ _ _ _ _ _ c.walk-state.ensures.stop;
  end = c.walk-state.ensures.saved_end;
  table = c.walk-state.ensures.saved_table;
}

pub returns-in-NoMatch-clause-lands : goal.returns-in-NoMatch-clause-lands
returns-in-NoMatch-clause-lands g c = lands-end-back g.E.Elements.left _ _ _ _ _ _ _ c.walk-state.ensures.stop c.in-None.is c.in-NoMatch.is

pub returns-in-NoMatch-clause-later : goal.returns-in-NoMatch-clause-later
returns-in-NoMatch-clause-later g c = later-saved g.E.Elements.left _ _ _ _ _ _ _ c.walk-state.ensures.stop

pub returns-in_default-entry : goal.returns-in_default-entry
returns-in_default-entry g c = record {
  lands = lands-end g.E.Elements.left _ _ _ _ _ _ _ c.walk-state.ensures.stop c.in-None.is c.in_default-entry.not-NoMatch;
  class = tt;
  later = later-stop g.E.Elements.left _ _ _ _ _ _ _ c.walk-state.ensures.stop;
  end = c.walk-state.ensures.end;
  table = c.walk-state.ensures.table;
}
