-- What the cursor over units owes, over any encoding in them.
use Rattle.std.proofs.Common.{◌≡◌, ℕ, ◌+◌, ◌-◌, ◌<◌, ◌≤◌, List, [], ◌∷◌, length, take, drop, refl, ap, sym, nat_eq, arith}
use Rattle.std.proofs.lemmas.List.{length-drop, drop-drop, drop_all}
use Rattle.seg_text.specs.Items.{Text, start_of, rest_after, slice_of, text_before}
use Rattle.seg_text.specs.Lemmas.Encodings.{IsEncoding, coded}
use Rattle.seg_text.specs.Lemmas.Readers.{place_of-items_by}
use Rattle.seg_text.proofs.Cursors as over
use Rattle.seg_text.proofs.Slice as over_slice

module _ {U C : Type 0} {read : List U → ℕ × C} {code : C → ℕ} {characters : ℕ → List U → List (ℕ × C)} {text : ℕ → List U → Text}
    (encoding : IsEncoding read code characters text) where
  pub at-end : (start : ℕ) (units : List U) → start ≤ length units
      → nat_eq start (length units) ≡ nat_eq (length (text start (drop start units)).items) 0
  at-end start units inside = rw (encoding.is start (drop start units)) (over.at-end (coded read code) encoding.stable.reader start units inside)

  pub start-at : (start : ℕ) (units : List U) → start ≡ start_of (text start units)
  start-at start units = rw (encoding.is start units) (sym (place_of-items_by (coded read code) encoding.stable.reader start units))

  pub seek-within : (k place start : ℕ) (units : List U) → start ≤ length units
      → place ≡ start_of (rest_after k (text start (drop start units))) → place ≤ length units
  seek-within k place start units inside here =
      over.seek-within (coded read code) encoding.stable.reader k place start units inside (rw (encoding.is start (drop start units)) at here)

  pub seek-text : (k place start : ℕ) (units : List U) → start ≤ length units
      → place ≡ start_of (rest_after k (text start (drop start units)))
      → text place (drop place units) ≡ rest_after k (text start (drop start units))
  seek-text k place start units inside here =
      rw (encoding.is place (drop place units), encoding.is start (drop start units))
      (over.seek-text (coded read code) encoding.stable.reader k place start units inside (rw (encoding.is start (drop start units)) at here))

  pub slice-order : (j k from to start : ℕ) (units : List U) → start ≤ length units
      → from ≡ start_of (rest_after j (text start (drop start units)))
      → to ≡ start_of (rest_after (j + k) (text start (drop start units)))
      → from ≤ to
  slice-order j k from to start units inside begins ends =
      over_slice.slice-order (coded read code) encoding.stable j k from to start units inside
      (rw (encoding.is start (drop start units)) at begins) (rw (encoding.is start (drop start units)) at ends)

  pub slice-text : (j k from to start : ℕ) (units : List U) → start ≤ length units
      → from ≡ start_of (rest_after j (text start (drop start units)))
      → to ≡ start_of (rest_after (j + k) (text start (drop start units)))
      → text 0 (take (to - from) (drop from units)) ≡ slice_of j k (text start (drop start units))
  slice-text j k from to start units inside begins ends =
      rw (encoding.is 0 (take (to - from) (drop from units)), encoding.is start (drop start units))
      (over_slice.slice-text (coded read code) encoding.stable j k from to start units inside
      (rw (encoding.is start (drop start units)) at begins) (rw (encoding.is start (drop start units)) at ends))

  -- the units before the place of the k-th item, from the cursor on
  pub up_to-found : (k to start : ℕ) (units : List U) → start ≤ length units
      → to ≡ start_of (rest_after k (text start (drop start units)))
      → (to ≤ length units) × (start ≤ length (take to units))
      × (text start (drop start (take to units)) ≡ text_before k (text start (drop start units)))
  up_to-found k to start units inside ends =
      let found = over_slice.up_to-found (coded read code) encoding.stable k to start units inside (rw (encoding.is start (drop start units)) at ends) in (
        found.within,
        omega (arith, found.long, found.after),
        rw (encoding.is start (drop start (take to units)), encoding.is start (drop start units)) found.before,
      )

  pub taken-within : (start : ℕ) (units : List U) (found : ℕ × C) → start < length units
      → found ≡ read (drop start units) → start + found.0 ≤ length units
  taken-within start units found inside reads =
      over.taken-within (coded read code) encoding.stable.reader start units (found.0, code found.1) inside (ap (λ r. (r.0, code r.1)) reads)

  -- what one call of `next` reads
  pub next-character : (start : ℕ) (units : List U) (found : ℕ × C) → start < length units → found ≡ read (drop start units)
      → characters start (drop start units) ≡ (start, found.1) ∷ characters (start + found.0) (drop (start + found.0) units)
  next-character start units found inside reads = on (drop start units) refl reads
    where
      on : (rest : List U) → drop start units ≡ rest → found ≡ read rest
          → characters start rest ≡ (start, found.1) ∷ characters (start + found.0) (drop (start + found.0) units)
      on [] is reads = absurd (omega (arith, length-drop start units, ap length is))
      on (unit ∷ rest) is reads = rw (encoding.some start unit rest, ← reads, ← drop-drop found.0 start units, is) refl

  pub nothing-left : (start : ℕ) (units : List U) → length units ≤ start → characters start (drop start units) ≡ []
  nothing-left start units past = rw (drop_all start units past) (encoding.none start)
