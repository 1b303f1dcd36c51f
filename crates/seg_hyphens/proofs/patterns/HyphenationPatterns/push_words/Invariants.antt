use Rattle.std.proofs.Common.{length}
use Rattle.seg_hyphens.proofs.WordPlaces.{IsWalking}
use Rattle.seg_hyphens.proofs.patterns.HyphenationPatterns.push_words.Given as goal

abbrev pub invariant-words : goal.invariant-words
invariant-words g l = record { walking : IsWalking l.self (g.I.Cursor.text l.text) (g.I.Cursor.text l.rest) l.places.items }

abbrev pub decreases-words : goal.decreases-words
decreases-words g l = length (g.I.Cursor.text l.rest).items
