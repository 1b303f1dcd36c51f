use Rattle.std.proofs.Common.{refl, sym, ◌∙◌}
use Rattle.seg_words.proofs.Prefixes.{read-next, wide-cut}
use Rattle.seg_words.proofs.prefix.PrefixCursor.next_ascii.Goals as goal

pub returns-clause-read : goal.returns-clause-read
returns-clause-read g c = (
  c.in-Some.ensures.read.0,
  (read-next (g.T.CodePointTest.passes c.args.self.now.test) (g.I.Cursor.text c.args.self.now.rest) (g.I.Cursor.text c.next_ascii.new.self) (c.in-Some.place, c.in-Some.character)
      (rw c.fork-after.ensures at c.in-Some.ensures.read.1) (rw c.fork-after.ensures at c.in-Some.ensures.end) (sym c.accepts.ensures ∙ c.if-not-accepts.false)).0,
)

pub returns-clause-end : goal.returns-clause-end
returns-clause-end g c =
    (read-next (g.T.CodePointTest.passes c.args.self.now.test) (g.I.Cursor.text c.args.self.now.rest) (g.I.Cursor.text c.next_ascii.new.self) (c.in-Some.place, c.in-Some.character)
    (rw c.fork-after.ensures at c.in-Some.ensures.read.1) (rw c.fork-after.ensures at c.in-Some.ensures.end) (sym c.accepts.ensures ∙ c.if-not-accepts.false)).1

pub returns-in_default-clause-read : goal.returns-in_default-clause-read
returns-in_default-clause-read g c =
    (refl, wide-cut (g.T.CodePointTest.passes c.args.self.now.test) (g.I.Cursor.text c.args.self.now.rest) (rw c.fork-after.ensures at c.in_default.ensures.read.1))
