use Rattle.seg_segments.proofs.Reading.{word-false}
use Rattle.seg_segments.proofs.suppress.starts.ends_word.Goals as goal

pub returns-in_default : goal.returns-in_default
returns-in_default g c = word-false _ _ _ _ c.read_word.result (rw (c.fork.ensures, c.fork-2.ensures) at c.read_word.ensures) c.in_default.not-Word
