use Rattle.std.proofs.Common.{ap, ◌∙◌}
use Rattle.std.proofs.lemmas.List.{take_rest}
use Rattle.std.specs.Option.{option_map_or}
use Rattle.seg_hyphens.specs.Texts.{number_of}
use Rattle.seg_hyphens.specs.declared.fault.Fault.TheVariants.{NotNumber}
use Rattle.seg_hyphens.specs.declared.lines.LineKind.TheVariants.{Left, Faulty}
use Rattle.seg_hyphens.proofs.lines.left_kind.Goals as goal

pub returns-in-Some : goal.returns-in-Some
returns-in-Some c = ap (λ o. option_map_or Left o (Faulty NotNumber)) (c.in-Some.ensures ∙ ap number_of (take_rest c.args.line.now 13))

pub returns-in-None : goal.returns-in-None
returns-in-None c = ap (λ o. option_map_or Left o (Faulty NotNumber)) (c.in-None.ensures ∙ ap number_of (take_rest c.args.line.now 13))
