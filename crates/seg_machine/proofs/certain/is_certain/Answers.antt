use Rattle.std.proofs.Common.{sym, ◌∙◌}
use Rattle.seg_data.proofs.Options.{if-some}
use Rattle.seg_machine.proofs.Passes.{mask-says}
use Rattle.seg_machine.proofs.certain.is_certain.Goals as goal

pub returns-in-Some-mask : goal.returns-in-Some-mask
returns-in-Some-mask c =
    let rows = if-some c.rows.result _ c.in-Some.rows c.rows.ensures c.in-Some.is in
    mask-says _ c.passes.result.now (rw c.passes.ensures rows.passes) _ _ _ _ (sym c.mask.ensures ∙ c.in-Some-mask.is) c.requires.before c.requires.one c.requires.other
