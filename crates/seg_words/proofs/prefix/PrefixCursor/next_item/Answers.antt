use Rattle.std.proofs.Common.{sym, ◌∙◌}
use Rattle.seg_words.proofs.Prefixes.{read-next}
use Rattle.seg_words.proofs.prefix.PrefixCursor.next_item.Goals as goal

pub returns-clause-gives : goal.returns-clause-gives
returns-clause-gives g c =
    (read-next (g.T.CodePointTest.passes c.args.self.now.test) (g.I.Cursor.text c.args.self.now.rest) (g.I.Cursor.text c.next_item.new.self) (c.in-Some.place, c.in-Some.code_point)
    (rw c.fork-after.ensures at c.in-Some.ensures.gives) (rw c.fork-after.ensures at c.in-Some.ensures.end) (sym c.accepts.ensures ∙ c.if-not-accepts.false)).0

pub returns-clause-end : goal.returns-clause-end
returns-clause-end g c =
    (read-next (g.T.CodePointTest.passes c.args.self.now.test) (g.I.Cursor.text c.args.self.now.rest) (g.I.Cursor.text c.next_item.new.self) (c.in-Some.place, c.in-Some.code_point)
    (rw c.fork-after.ensures at c.in-Some.ensures.gives) (rw c.fork-after.ensures at c.in-Some.ensures.end) (sym c.accepts.ensures ∙ c.if-not-accepts.false)).1
