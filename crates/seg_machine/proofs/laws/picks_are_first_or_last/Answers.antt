use Rattle.seg_machine.proofs.Law.{pick-words, scan-more}
use Rattle.seg_machine.proofs.laws.picks_are_first_or_last.Goals as goal

pub returns : goal.returns
returns c = record {
  pick = pick-words _;
  end = scan-more _ c.facts.ensures;
}
