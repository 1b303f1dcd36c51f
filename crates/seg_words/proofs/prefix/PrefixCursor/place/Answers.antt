use Rattle.std.proofs.Common.{sym, ◌∙◌}
use Rattle.seg_words.proofs.Prefixes.{start-cut}
use Rattle.seg_words.proofs.prefix.PrefixCursor.place.Goals as goal

pub returns : goal.returns
returns g c = c.place.ensures ∙ sym (start-cut (g.T.CodePointTest.passes c.args.self.now.test) (g.I.Cursor.text c.args.self.now.rest))
