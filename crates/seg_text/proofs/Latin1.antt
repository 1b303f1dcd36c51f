-- Latin-1's reader.
use Rattle.std.proofs.Common.{◌≡◌, ℕ, ◌+◌, List, [], ◌∷◌, refl, ap}
use Rattle.seg_text.specs.Decoding.{ReadsLatin1, read_latin1, latin1_items}
use Rattle.seg_text.specs.Items.{items_by, code_points}
use Rattle.seg_text.specs.Lemmas.Readers.{items_by-nil, items_by-cons}
use Rattle.seg_text.specs.Lemmas.Rising.{read_latin1-reader}
use Rattle.seg_text.proofs.Items.{IsReaderOf}

pub read_latin1-of : IsReaderOf ReadsLatin1 read_latin1
read_latin1-of = record {
  reader = read_latin1-reader;
  reads = λ unit units. (refl, refl);
  only = λ unit units taken code_point some within reads. let is = reads.1 in let one = reads.0 in cc;
}

latin1-more : (place : ℕ) (bytes : List ℕ) → code_points (items_by read_latin1 place bytes) ≡ bytes
latin1-more place [] = rw (items_by-nil read_latin1 place) refl
latin1-more place (byte ∷ bytes) =
    rw (items_by-cons read_latin1 read_latin1-reader place byte bytes) (ap (λ rest. byte ∷ rest) (latin1-more (place + 1) bytes))

-- the code points are the bytes
pub latin1_items-code_points : (place : ℕ) (bytes : List ℕ) → code_points (latin1_items place bytes) ≡ bytes
unfolding latin1_items
latin1_items-code_points place bytes = latin1-more place bytes
