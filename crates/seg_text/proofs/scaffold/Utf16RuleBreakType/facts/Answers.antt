use Rattle.seg_text.specs.Lemmas.Rising.{utf16_items-rises}
use Rattle.seg_text.proofs.scaffold.Utf16RuleBreakType.facts.Goals as goal

pub returns : goal.returns
returns c = record { rises = utf16_items-rises c.args._iter.now.place c.args._iter.now.units; narrow = λ can. cc }
