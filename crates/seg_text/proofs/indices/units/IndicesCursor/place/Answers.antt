use Rattle.std.proofs.Common.{◌∙◌}
use Rattle.seg_text.proofs.Encodings.{start-at}
use Rattle.seg_text.proofs.indices.units.IndicesCursor.place.Goals as goal

pub returns : goal.returns
returns g c = c.offset.ensures ∙ start-at g.met.E.ReadsUnits.is_encoding _ _
