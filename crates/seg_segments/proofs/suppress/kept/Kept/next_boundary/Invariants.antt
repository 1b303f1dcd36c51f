use Rattle.std.proofs.Common.{length}
use Rattle.seg_data.specs.ScriptWords.{words_after}
use Rattle.seg_segments.proofs.Suppressing.{IsLeft}
use Rattle.seg_segments.proofs.suppress.kept.Kept.next_boundary.Given as goal

abbrev pub invariant-breaks : goal.invariant-breaks
invariant-breaks g l =
    IsLeft (words_after l.self-inside.starts.words) l.self-inside.starts.joined (g.I.Cursor.text l.self-inside.starts.rest) l.self-inside.breaks l.fn.self

abbrev pub decreases-breaks : goal.decreases-breaks
decreases-breaks g l = length l.self-inside.breaks
