-- Without dictionaries the machine alone tells.
use Rattle.seg_words.proofs.CertainWords.{certain-undivided}
use Rattle.seg_words.proofs.word.WordSegmenterBorrowed.always_breaks.Goals as goal

pub returns-in-Neo : goal.returns-in-Neo
returns-in-Neo c =
    let same = certain-undivided _ _ (c.is_empty.ensures.0 c.if-is_empty.true) c.args.before c.args.one c.args.other in
    let told = rw c.in-Neo.is at c.always_breaks.ensures in
    rw c.in-Neo.is (λ breaks. same.0 (told.0 breaks), λ certain. told.1 (same.1 certain))
