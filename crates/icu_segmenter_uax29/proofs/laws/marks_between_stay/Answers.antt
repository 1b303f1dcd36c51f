use Rattle.std.proofs.Common.{[], ◌∷◌, refl}
use Rattle.ucd_breaks.specs.declared.WordBreak.TheVariants.{ALetter, HebrewLetter, MidLetter, MidNum, MidNumLet, Numeric, SingleQuote}
use Rattle.ucd_table.proofs.TrieCheck.{all_below}
use Rattle.icu_segmenter_uax29.proofs.WordSequences.{hold-together}
use Rattle.icu_segmenter_uax29.proofs.laws.marks_between_stay.Goals as goal

pub returns-clause-letters : goal.returns-clause-letters
unfolding all_below
returns-clause-letters c = hold-together (ALetter ∷ HebrewLetter ∷ []) (MidLetter ∷ MidNumLet ∷ SingleQuote ∷ []) refl

pub returns-clause-digits : goal.returns-clause-digits
unfolding all_below
returns-clause-digits c = hold-together (Numeric ∷ []) (MidNum ∷ MidNumLet ∷ SingleQuote ∷ []) refl
