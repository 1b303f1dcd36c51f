use Rattle.std.proofs.Common.{ap}
use Rattle.seg_clusters.specs.Rules.{rules_of}
use Rattle.seg_words.specs.Words.{word_rules}
use Rattle.seg_words.proofs.CertainWords.{words-begin, words-break, words-part}
use Rattle.seg_words.proofs.laws.certain_places.Goals as goal

pub returns-in-Neo-clause-breaks : goal.returns-in-Neo-clause-breaks
returns-in-Neo-clause-breaks c =
    words-break (word_rules c.args.segmenter) _ (ap rules_of c.in-Neo.is) c.facts-in-Neo.ensures c.facts.ensures.pieces _ _ _

pub returns-in-Neo-clause-parts : goal.returns-in-Neo-clause-parts
returns-in-Neo-clause-parts c =
    words-part (word_rules c.args.segmenter) _ (ap rules_of c.in-Neo.is) c.facts-in-Neo.ensures c.facts.ensures.pieces _ _ _

pub returns-in-Neo-clause-begins : goal.returns-in-Neo-clause-begins
returns-in-Neo-clause-begins c =
    words-begin (word_rules c.args.segmenter) _ (ap rules_of c.in-Neo.is) c.facts-in-Neo.ensures c.facts.ensures.pieces _ _ _
