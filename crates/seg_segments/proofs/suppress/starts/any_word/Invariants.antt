use Rattle.std.proofs.Common.{◌≡◌, length}
use Rattle.seg_segments.specs.Suppression.{is_abbreviated_after}
use Rattle.seg_segments.specs.Kept.{codes_before}
use Rattle.seg_segments.proofs.suppress.starts.any_word.Given as goal

abbrev pub invariant-loop-words : goal.invariant-loop-words
invariant-loop-words g l =
    is_abbreviated_after l.fn.joined (g.D.WordCursor.tails l.fn.words) (codes_before l.place (g.I.Cursor.text l.fn.text).items)
    ≡ is_abbreviated_after l.joined (g.D.WordCursor.tails l.words) (codes_before l.place (g.I.Cursor.text l.rest).items)

abbrev pub decreases-loop-words : goal.decreases-loop-words
decreases-loop-words g l = length (g.I.Cursor.text l.rest).items
