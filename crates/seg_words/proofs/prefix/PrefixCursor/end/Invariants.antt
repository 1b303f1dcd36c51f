use Rattle.std.proofs.Common.{◌≡◌, length}
use Rattle.seg_words.proofs.Prefixes.{cut}
use Rattle.seg_words.proofs.prefix.PrefixCursor.end.Given as goal

abbrev pub invariant-loop : goal.invariant-loop
invariant-loop g l =
    (cut (g.T.CodePointTest.passes l.after.test) (g.I.Cursor.text l.after.rest)).end ≡ (cut (g.T.CodePointTest.passes l.self.test) (g.I.Cursor.text l.self.rest)).end

abbrev pub decreases-loop : goal.decreases-loop
decreases-loop g l = length (cut (g.T.CodePointTest.passes l.after.test) (g.I.Cursor.text l.after.rest)).items
