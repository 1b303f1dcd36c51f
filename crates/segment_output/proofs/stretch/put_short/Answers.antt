-- Of the bytes that were copied those of the segment are left.
use Rattle.std.proofs.Common.{rules}
use Rattle.segment_output.proofs.Stretches.{short-more}
use Rattle.segment_output.proofs.stretch.put_short.Goals as goal

pub returns : goal.returns
returns c =
    short-more c.args.lines.now.items c.args.text.now _ _ _ c.push_reserved.new.self.items c.len-before.result c.args.start c.args.len c.args.last
    (search rules) c.requires.short c.copy_from_slice.ensures.after c.in-Ok.ensures.items c.truncate.ensures.items c.push_reserved.ensures.items
