use Rattle.seg_data.specs.ScriptWords.{borrowed_words, words_in}
use Rattle.seg_clusters.proofs.complex.ComplexPayloadsBorrowed.facts.Goals as goal

pub returns-clause-pieces : goal.returns-clause-pieces
returns-clause-pieces c = c.dictionary_cuts_cover.ensures.pieces (words_in (borrowed_words c.args.self.dictionaries))

pub returns-clause-runs : goal.returns-clause-runs
returns-clause-runs c = c.dictionary_cuts_cover.ensures.runs (words_in (borrowed_words c.args.self.dictionaries))
