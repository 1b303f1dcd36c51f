use Rattle.seg_text.specs.Lemmas.Rising.{latin1_items-rises}
use Rattle.seg_text.proofs.Latin1.{latin1_items-code_points}
use Rattle.seg_text.proofs.scaffold.Latin1RuleBreakType.facts.Goals as goal

pub returns : goal.returns
returns c = record {
  rises = latin1_items-rises c.args.iter.now.place c.args.iter.now.units;
  narrow = λ _.
      rw (latin1_items-code_points c.args.iter.now.place c.args.iter.now.units, ← c.as_slice.ensures) c.check_bytes.ensures;
}
