use Rattle.std.proofs.Common.{length}
use Rattle.seg_hyphens.proofs.PointPlaces.{IsFinding}
use Rattle.seg_hyphens.proofs.words.push_points.Given as goal

abbrev pub invariant-items : goal.invariant-items
invariant-items g l = record { finding : IsFinding l.points (g.I.Cursor.text l.word) (g.I.Cursor.text l.rest) l.fn.places.items l.places.items l.offset }

abbrev pub decreases-items : goal.decreases-items
decreases-items g l = length (g.I.Cursor.text l.rest).items
