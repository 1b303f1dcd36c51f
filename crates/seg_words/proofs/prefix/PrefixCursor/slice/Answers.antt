use Rattle.std.proofs.Common.{◌-◌, ◌∙◌}
use Rattle.seg_text.specs.Items.{prefix_length}
use Rattle.seg_words.proofs.Prefixes.{clip, slice-cut, start-clip, start-part}
use Rattle.seg_words.proofs.prefix.PrefixCursor.slice.Goals as goal

pub slice-requires : goal.slice-requires
slice-requires g c =
    let passes = g.T.CodePointTest.passes c.args.self.now.test in
    let text = g.I.Cursor.text c.args.self.now.rest in
    let n = prefix_length passes text in
    (clip passes c.requires.0 n, clip passes c.requires.1 (n - c.requires.0), c.requires.2 ∙ start-clip passes text c.requires.0, c.requires.3 ∙ start-part passes text c.requires.0 c.requires.1)

pub returns : goal.returns
returns g c j k begins ends =
    let passes = g.T.CodePointTest.passes c.args.self.now.test in
    let text = g.I.Cursor.text c.args.self.now.rest in
    let n = prefix_length passes text in
    rw (c.slice.ensures (clip passes j n) (clip passes k (n - j)) (begins ∙ start-clip passes text j) (ends ∙ start-part passes text j k)) (slice-cut passes text j k)
