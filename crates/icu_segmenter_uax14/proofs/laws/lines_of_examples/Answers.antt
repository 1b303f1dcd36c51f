use Rattle.icu_segmenter_uax14.specs.Tailored.{Untailored}
use Rattle.icu_segmenter_uax14.proofs.LineExamples.{greeting, price, sum}
use Rattle.icu_segmenter_uax14.proofs.laws.lines_of_examples.Goals as goal

pub returns-clause-price : goal.returns-clause-price
returns-clause-price c = price (c.lines_follow_rules.ensures Untailored)

pub returns-clause-sum : goal.returns-clause-sum
returns-clause-sum c = sum (c.lines_follow_rules.ensures Untailored)

pub returns-clause-greeting : goal.returns-clause-greeting
returns-clause-greeting c = greeting (c.lines_follow_rules.ensures Untailored)
