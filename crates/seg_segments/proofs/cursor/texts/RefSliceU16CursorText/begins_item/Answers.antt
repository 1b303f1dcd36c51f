use Rattle.std.proofs.lemmas.Bool.{not-true}
use Rattle.seg_segments.proofs.ItemStarts.{begins-utf16}
use Rattle.seg_segments.proofs.cursor.texts.RefSliceU16CursorText.begins_item.Goals as goal

pub returns : goal.returns
returns c is = begins-utf16 c.args.self.now c.args.index c.requires (not-true _ is)
