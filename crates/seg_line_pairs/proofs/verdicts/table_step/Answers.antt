use Rattle.std.proofs.Common.{◌∙◌, refl, sym}
use Rattle.seg_line_pairs.proofs.UnitLandings.{first-lands, first-named, first-between}
use Rattle.seg_line_pairs.proofs.verdicts.table_step.Goals as goal

pub returns-in-Keep-clause-lands : goal.returns-in-Keep-clause-lands
returns-in-Keep-clause-lands c after = first-lands _ _ _ after _ _ _ c.in-Keep.ensures.value refl

pub returns-in-Some : goal.returns-in-Some
returns-in-Some c = record {
  lands = λ after. (first-named _ c.args.left c.args.right after _ _ c.entry_between-entry.ensures.value (sym c.state_named.ensures ∙ c.in-Some.is), refl);
  class = (c.requires.right, c.entry_between-entry.ensures.state _ (sym c.state_named.ensures ∙ c.in-Some.is));
}

pub returns-in-None-clause-lands : goal.returns-in-None-clause-lands
returns-in-None-clause-lands c after =
    rw c.unless.ensures (first-between _ _ c.args.left c.args.right after _ c.entry_between-entry.ensures.value (sym c.state_named.ensures ∙ c.in-None.is) c.in_default.not-Keep)
