-- What stands from an item of a text on is what the units from there on are alone, so much later.
use Rattle.std.proofs.Common.{◌≡◌, ℕ, ◌+◌, List, drop, length, refl, sym, ap, ap₂, ◌∙◌, subst, arith}
use Rattle.seg_text.specs.Items.{Item, Reader, Text, rest_after, start_of, text_by}
use Rattle.seg_text.specs.Lemmas.Encodings.{IsEncoding}
use Rattle.seg_text.specs.Lemmas.Readers.{IsReader}
use Rattle.seg_text.proofs.Cursors.{seek-text}
use Rattle.seg_text.proofs.LaterItems.{items-later}
use Rattle.seg_segments.specs.TextSegments.{later_text}

by-reader : (read : Reader ℕ) → IsReader read → (units : List ℕ) (count : ℕ) → let from = start_of (rest_after count (text_by read 0 units)) in
    rest_after count (text_by read 0 units) ≡ later_text from (text_by read 0 (drop from units))
by-reader read reader units count =
    let from = start_of (rest_after count (text_by read 0 units)) in
    let left = drop from units in
    let there : text_by read from left ≡ rest_after count (text_by read 0 units) = seek-text read reader count from 0 units (omega arith) refl in
    let end : from + length left ≡ from + (0 + length left) = omega arith in
    sym there ∙ ap₂ (λ (items : List Item) (end : ℕ). record { items = items; end = end }) (items-later read reader from left) end

-- by any encoding
pub rests : (read : Reader ℕ) (items : ℕ → List ℕ → List Item) (text : ℕ → List ℕ → Text) → IsEncoding read (λ c. c) items text
    → (units : List ℕ) (count : ℕ) → let from = start_of (rest_after count (text 0 units)) in rest_after count (text 0 units) ≡ later_text from (text 0 (drop from units))
rests read items text encoding units count =
    let from = start_of (rest_after count (text 0 units)) in
    let same : start_of (rest_after count (text_by read 0 units)) ≡ from = sym (ap (λ (text : Text). start_of (rest_after count text)) (encoding.is 0 units)) in
    ap (rest_after count) (encoding.is 0 units)
    ∙ subst (λ (n : ℕ). rest_after count (text_by read 0 units) ≡ later_text n (text_by read 0 (drop n units))) same (by-reader read encoding.stable.reader units count)
    ∙ ap (later_text from) (sym (encoding.is 0 (drop from units)))
