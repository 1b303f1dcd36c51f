use Rattle.std.proofs.Common.{◌≡◌, length}
use Rattle.seg_data.specs.ScriptWords.{words_after}
use Rattle.seg_segments.specs.Kept.{IsLater}
use Rattle.seg_segments.proofs.suppress.starts.Starts.leave_over.Given as goal

abbrev pub invariant-loop-self : goal.invariant-loop-self
invariant-loop-self g l = record {
  words : l.self.words ≡ l.fn.self.words;
  later : IsLater (words_after l.fn.self.words) l.place l.fn.self.joined (g.I.Cursor.text l.fn.self.rest) l.self.joined (g.I.Cursor.text l.self.rest);
}

abbrev pub decreases-loop-self : goal.decreases-loop-self
decreases-loop-self g l = length (g.I.Cursor.text l.self.rest).items
