-- Texts of each encoding may be split where lists of code points may.
use Rattle.std.proofs.Common.{ℕ, List, ◌∷◌, [], length}
use Rattle.std.specs.Char.{IsScalar, encode_utf8}
use Rattle.std.specs.Char.Escape.{encode_utf16}
use Rattle.seg_text.specs.declared.boundary.Boundary.{Boundary}
use Rattle.seg_text.specs.Boundaries.{IsCover, boundaries_in}
use Rattle.seg_text.specs.Decoding.{read_latin1, latin1, latin1_items, read_utf8, utf8, utf8_items, read_utf16, utf16, utf16_items}
use Rattle.seg_text.specs.Lemmas.Latin1Stable.{read_latin1-stable}
use Rattle.seg_text.specs.Lemmas.Utf8Stable.{read_utf8-stable}
use Rattle.seg_text.specs.Lemmas.Utf16Stable.{read_utf16-stable}
use Rattle.seg_machine.specs.Machine.{Machine}
use Rattle.seg_machine.specs.MachineFaults.{IsChecked}
use Rattle.seg_clusters.specs.Rules.{PartsBehind, PartsTexts, ResetsAfter, boundaries_by}
use Rattle.seg_clusters.specs.Rules.Rules.{ByMachine}
use Rattle.seg_clusters.proofs.ByRules.{machine-covers}
use Rattle.seg_clusters.proofs.Encoded.{latin1-apart, utf8-apart, utf16-apart}
use Rattle.seg_clusters.proofs.SplitItems.{parts-texts}
use Rattle.seg_clusters.proofs.ResetScans.{parts-lists}

module _ (find : List ℕ → List Boundary) (cover : (cs : List ℕ) → IsCover 0 (length cs) (find cs)) (c : ℕ) (lists : PartsBehind find (c ∷ [])) where
  in-utf8 : IsScalar c → PartsBehind (λ bytes. boundaries_in find (utf8 bytes)) (encode_utf8 c)
  unfolding utf8_items
  in-utf8 scalar = parts-texts read_utf8 read_utf8-stable (encode_utf8 c) c (utf8-apart c scalar) find cover lists

  in-latin1 : PartsBehind (λ bytes. boundaries_in find (latin1 bytes)) (c ∷ [])
  unfolding latin1_items
  in-latin1 = parts-texts read_latin1 read_latin1-stable (c ∷ []) c (latin1-apart c) find cover lists

  in-utf16 : IsScalar c → PartsBehind (λ units. boundaries_in find (utf16 units)) (encode_utf16 c)
  unfolding utf16_items
  in-utf16 scalar = parts-texts read_utf16 read_utf16-stable (encode_utf16 c) c (utf16-apart c scalar) find cover lists

  pub texts-split : IsScalar c → PartsTexts find c
  texts-split scalar = record { lists = lists; in_utf8 = in-utf8 scalar; in_latin1 = λ small. in-latin1; in_utf16 = in-utf16 scalar }

-- .. by rules

pub machine-split : (m : Machine) → IsChecked m → (c : ℕ) → IsScalar c → ResetsAfter (ByMachine m) c → PartsTexts (boundaries_by (ByMachine m)) c
machine-split m checked c scalar resets =
    texts-split (boundaries_by (ByMachine m)) (machine-covers m checked) c (parts-lists m checked c resets) scalar
