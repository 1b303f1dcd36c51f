-- The key, and then what it has.
use Rattle.segment_output.proofs.WrittenTokens.{adds-two}
use Rattle.segment_output.proofs.objects.push_mark.Goals as goal

pub returns-in_ok-key-in-Line : goal.returns-in_ok-key-in-Line
returns-in_ok-key-in-Line c = rw c.in-Line.is (adds-two _ _ _ _ _ _ _ _ c.in_ok-key-in-Line.was c.key-in-Line.ensures c.boolean.ensures)
