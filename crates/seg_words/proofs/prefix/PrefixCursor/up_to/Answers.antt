use Rattle.std.proofs.Common.{◌∙◌}
use Rattle.seg_text.specs.Items.{prefix_length}
use Rattle.seg_words.proofs.Prefixes.{before-cut, clip, start-clip}
use Rattle.seg_words.proofs.prefix.PrefixCursor.up_to.Goals as goal

pub up_to-requires : goal.up_to-requires
up_to-requires g c =
    let passes = g.T.CodePointTest.passes c.args.self.now.test in
    let text = g.I.Cursor.text c.args.self.now.rest in
    (clip passes c.requires.0 (prefix_length passes text), c.requires.1 ∙ start-clip passes text c.requires.0)

pub returns : goal.returns
returns g c k here =
    let passes = g.T.CodePointTest.passes c.args.self.now.test in
    let text = g.I.Cursor.text c.args.self.now.rest in
    rw (c.up_to.ensures (clip passes k (prefix_length passes text)) (here ∙ start-clip passes text k)) (before-cut passes text k)
