use Rattle.seg_words.proofs.Memos.{new-words}
use Rattle.std.proofs.Common.{ap}
use Rattle.seg_words.specs.Words.{word_finder}
use Rattle.seg_words.proofs.word.WordBreakIterator.with_memo.Goals as goal

pub returns-clause-made : goal.returns-clause-made
returns-clause-made g c =
    new-words (word_finder c.args.self.now) _ _ (ap g.I.Cursor.text c.fork-text.ensures) c.memoised.result c.memoised.ensures.words c.memoised.ensures.made
