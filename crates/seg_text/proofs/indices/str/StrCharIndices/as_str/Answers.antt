use Rattle.std.proofs.lemmas.Str.{IsCharBoundary-from_drop}
use Rattle.seg_text.proofs.indices.str.StrCharIndices.as_str.Goals as goal

pub range_from-requires : goal.range_from-requires
range_from-requires c some = IsCharBoundary-from_drop _ _ c.self.invariant.0 c.self.invariant.1
