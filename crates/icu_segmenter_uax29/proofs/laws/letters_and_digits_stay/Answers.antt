use Rattle.std.proofs.Common.{[], ◌∷◌, refl}
use Rattle.ucd_breaks.specs.declared.WordBreak.TheVariants.{ALetter, ExtendNumLet, HebrewLetter, Numeric}
use Rattle.ucd_table.proofs.TrieCheck.{all_below}
use Rattle.icu_segmenter_uax29.proofs.WordSequences.{join-together}
use Rattle.icu_segmenter_uax29.proofs.laws.letters_and_digits_stay.Goals as goal

pub returns : goal.returns
unfolding all_below
returns c = join-together (ALetter ∷ HebrewLetter ∷ Numeric ∷ ExtendNumLet ∷ []) (ALetter ∷ HebrewLetter ∷ Numeric ∷ ExtendNumLet ∷ []) refl
