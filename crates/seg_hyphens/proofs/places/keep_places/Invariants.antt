use Rattle.seg_hyphens.proofs.Choosing.{IsKeeping}
use Rattle.seg_hyphens.proofs.places.keep_places.Given as goal

abbrev pub invariant-places : goal.invariant-places
invariant-places l = IsKeeping l.minima.left l.minima.right l.initial.values.items l.word l.values.items l.before l.count l.place
