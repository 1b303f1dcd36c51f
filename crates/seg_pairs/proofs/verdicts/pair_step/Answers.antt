use Rattle.std.proofs.Common.{refl, sym, ◌∙◌}
use Rattle.seg_pairs.proofs.Landings.{lands-first, walk-named, lands-between}
use Rattle.seg_pairs.proofs.verdicts.pair_step.Goals as goal

pub returns-in-Keep-clause-lands : goal.returns-in-Keep-clause-lands
returns-in-Keep-clause-lands g c after = lands-first _ _ _ after _ _ _ c.in-Keep.ensures.value refl

pub returns-in-Some : goal.returns-in-Some
returns-in-Some g c = record {
  lands = λ after. (walk-named _ c.args.left c.args.right after _ _ c.entry-entry.ensures.value (sym c.named.ensures ∙ c.in-Some.is), refl);
  class = (c.requires.right, c.entry-entry.ensures.state _ (sym c.named.ensures ∙ c.in-Some.is));
}

pub returns-in-None-clause-lands : goal.returns-in-None-clause-lands
returns-in-None-clause-lands g c after =
    lands-between _ _ _ after _ c.entry-entry.ensures.value (sym c.named.ensures ∙ c.in-None.is) c.in_default.not-Keep
