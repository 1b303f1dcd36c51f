-- A block's whole lines and whole paragraphs.
use Rattle.std.proofs.Common.{◌≡◌, ℕ, ◌+◌, ◌-◌, ◌<◌, ◌==◌, true, List, [], ◌∷◌, ◌++◌, length, take, drop, ap, ◌∙◌, arith, append_assoc, eqb-true}
use Rattle.std.specs.Prelude.{slice_index}
use Rattle.std.proofs.Math.Seq.{take-add}
use Rattle.std.proofs.lemmas.List.{get_or-take, length-take, take_more}
use Rattle.std.specs.List.{list_all}
use Rattle.icu_segmenter.specs.NearBoundaries.{line_feed}
use Rattle.segment_text.specs.Blocks.{AreLines, AreParagraphs, is_blank}

pub last-line : (block : List ℕ) (last : ℕ) → last < length block → (slice_index block last == 0x0A) ≡ true → AreLines (take (last + 1) block)
last-line block last within is = (take last block, take_more block last 0 within ∙ ap (λ (byte : ℕ). take last block ++ byte ∷ []) (eqb-true _ _ is))

-- a byte of a beginning
pub first-bytes : (block : List ℕ) (end last : ℕ) → last < end → slice_index (take end block) last ≡ slice_index block last
first-bytes block end last within = get_or-take end block last 0 within

pub within-take : (block : List ℕ) (end last : ℕ) → last < length (take end block) → last < end
within-take block end last within = omega (arith, within, length-take end block)

-- a blank line behind a line feed ends paragraphs
pub blank-end : (block : List ℕ) (last end : ℕ) → last < end → end < length block → (slice_index block last == 0x0A) ≡ true → (slice_index block end == 0x0A) ≡ true
    → list_all is_blank (take (end - (last + 1)) (drop (last + 1) block)) ≡ true → AreParagraphs (take (end + 1) block)
blank-end block last end order within before here blank =
    let blanks : List ℕ = take (end - (last + 1)) (drop (last + 1) block) in
    let whole : end ≡ (last + 1) + (end - (last + 1)) = omega (arith, order) in
    let front : take (last + 1) block ≡ take last block ++ line_feed = take_more block last 0 (omega (arith, order, within)) ∙ ap (λ (byte : ℕ). take last block ++ byte ∷ []) (eqb-true _ _ before) in (
      take last block,
      blanks,
      take_more block end 0 within ∙ ap (λ (byte : ℕ). take end block ++ byte ∷ []) (eqb-true _ _ here)
          ∙ ap (λ (bytes : List ℕ). bytes ++ line_feed) (ap (λ (n : ℕ). take n block) whole ∙ take-add (last + 1) (end - (last + 1)) block ∙ ap (λ (bytes : List ℕ). bytes ++ blanks) front)
          ∙ append_assoc (take last block ++ line_feed) blanks line_feed,
      blank,
    )
