-- Bytes that well-formed sequences tile are those of a str.
use Rattle.std.proofs.Common.{◌≡◌, ℕ, zero, suc, ◌+◌, ◌-◌, ◌*◌, ◌<◌, ◌≤◌, ◌⊎◌, inl, inr, List, [], ◌∷◌, ◌++◌, length, take, drop, refl, ap₂, ◌∙◌, arith}
use Rattle.std.proofs.Math.Utf8.{low_scalar}
use Rattle.std.proofs.lemmas.Bool.{cases_lt, lt-ltb, le-ltb, le-leb}
use Rattle.std.proofs.lemmas.List.{take-append-drop}
use Rattle.std.proofs.lemmas.Str.{IsUtf8-nil, IsUtf8-encode, IsUtf8-append}
use Rattle.std.proofs.str.Laws.{one, two, three, four}
use Rattle.std.specs.Prelude.{slice_index_or}
use Rattle.std.specs.Char.{IsScalar, encode_utf8}
use Rattle.std.specs.Str.{IsUtf8}
use Rattle.seg_text.specs.Items.{IsTiling, Item}
use Rattle.seg_text.specs.Decoding.{rows, trail, Fits, IsWellFormed, ReadsWellFormed, Ranges, Range}

-- what is below the surrogates, or above them, is a scalar value
scalar-in : (c : ℕ) → (c < 0xD800) ⊎ ((0xE000 ≤ c) × (c < 0x11_0000)) → IsScalar c
scalar-in c (inl low) = low_scalar c low
scalar-in c (inr (low, high)) =
    let over : 0xD800 ≤ c = omega arith in
    rw (le-ltb c 0xD800 over, le-leb 0xE000 c low, lt-ltb c 0x11_0000 high) refl

-- the bytes of a character are a text
spelt : (c : ℕ) (bytes : List ℕ) → (c < 0xD800) ⊎ ((0xE000 ≤ c) × (c < 0x11_0000)) → encode_utf8 c ≡ bytes → IsUtf8 bytes
spelt c bytes is same = rw (← same) (IsUtf8-encode c (scalar-in c is))

spelt-two : (a b : ℕ) → 0xC2 ≤ a → a ≤ 0xDF → 0x80 ≤ b → b ≤ 0xBF → IsUtf8 (a ∷ b ∷ [])
spelt-two a b low_a high_a low_b high_b =
    let c : ℕ = (a - 0xC0) * 0x40 + (b - 0x80) in
    spelt c (a ∷ b ∷ []) (inl (omega arith))
    (two c (omega arith) (omega arith) ∙ ap₂ (λ (x y : ℕ). x ∷ y ∷ []) (omega arith) (omega arith))

spelt-three : (a b d : ℕ) → 0xE0 ≤ a → a ≤ 0xEF → 0x80 ≤ b → b ≤ 0xBF → 0x80 ≤ d → d ≤ 0xBF → (0xE1 ≤ a) ⊎ (0xA0 ≤ b)
    → (a ≤ 0xEC) ⊎ ((0xEE ≤ a) ⊎ (b ≤ 0x9F)) → IsUtf8 (a ∷ b ∷ d ∷ [])
spelt-three a b d low_a high_a low_b high_b low_d high_d above side =
    spelt code (a ∷ b ∷ d ∷ []) (in-range side)
    (three code (least above) (omega arith)
    ∙ ap₂ (λ (x : ℕ) (rest : List ℕ). x ∷ rest) (omega arith) (ap₂ (λ (x y : ℕ). x ∷ y ∷ []) (omega arith) (omega arith)))
  where
    code : ℕ
    code = (a - 0xE0) * 0x1000 + (b - 0x80) * 0x40 + (d - 0x80)

    least : (0xE1 ≤ a) ⊎ (0xA0 ≤ b) → 0x800 ≤ code
    least (inl first) = omega arith
    least (inr second) = omega arith

    in-range : (a ≤ 0xEC) ⊎ ((0xEE ≤ a) ⊎ (b ≤ 0x9F)) → (code < 0xD800) ⊎ ((0xE000 ≤ code) × (code < 0x11_0000))
    in-range (inl under) = inl (omega arith)
    in-range (inr (inl over)) = inr (omega arith, omega arith)
    in-range (inr (inr second)) = on (cases_lt a 0xEE)
      where
        on : (a < 0xEE) ⊎ (0xEE ≤ a) → (code < 0xD800) ⊎ ((0xE000 ≤ code) × (code < 0x11_0000))
        on (inl under) = inl (omega arith)
        on (inr over) = inr (omega arith, omega arith)

spelt-four : (a b d e : ℕ) → 0xF0 ≤ a → a ≤ 0xF4 → 0x80 ≤ b → b ≤ 0xBF → 0x80 ≤ d → d ≤ 0xBF → 0x80 ≤ e → e ≤ 0xBF
    → (0xF1 ≤ a) ⊎ (0x90 ≤ b) → (a ≤ 0xF3) ⊎ (b ≤ 0x8F) → IsUtf8 (a ∷ b ∷ d ∷ e ∷ [])
spelt-four a b d e low_a high_a low_b high_b low_d high_d low_e high_e above below =
    spelt code (a ∷ b ∷ d ∷ e ∷ []) (inr (omega (arith, least above), most below))
    (four code (least above)
    ∙ ap₂ (λ (front back : List ℕ). front ++ back) (ap₂ (λ (x y : ℕ). x ∷ y ∷ []) (omega arith) (omega arith))
    (ap₂ (λ (x y : ℕ). x ∷ y ∷ []) (omega arith) (omega arith)))
  where
    code : ℕ
    code = (a - 0xF0) * 0x4_0000 + (b - 0x80) * 0x1000 + (d - 0x80) * 0x40 + (e - 0x80)

    least : (0xF1 ≤ a) ⊎ (0x90 ≤ b) → 0x1_0000 ≤ code
    least (inl first) = omega arith
    least (inr second) = omega arith

    most : (a ≤ 0xF3) ⊎ (b ≤ 0x8F) → code < 0x11_0000
    most (inl first) = omega arith
    most (inr second) = omega arith

-- ---- by the rows

row-one : (bytes : List ℕ) → Fits ((0x00, 0x7F) ∷ []) bytes → length bytes ≡ 1 → IsUtf8 bytes
row-one [] fits long = absurd (omega arith)
row-one (a ∷ []) (low, high, _) long = spelt a (a ∷ []) (inl (omega arith)) (one a (omega arith))
row-one (a ∷ b ∷ bytes) fits long = absurd (omega arith)

row-two : (bytes : List ℕ) → Fits ((0xC2, 0xDF) ∷ trail ∷ []) bytes → length bytes ≡ 2 → IsUtf8 bytes
row-two [] fits long = absurd (omega arith)
row-two (a ∷ []) fits long = absurd (omega arith)
row-two (a ∷ b ∷ []) (low_a, high_a, (low_b, high_b, _)) long = spelt-two a b low_a high_a low_b high_b
row-two (a ∷ b ∷ d ∷ bytes) fits long = absurd (omega arith)

row-three : (first second : Range) (bytes : List ℕ) → 0xE0 ≤ first.0 → first.1 ≤ 0xEF → 0x80 ≤ second.0 → second.1 ≤ 0xBF
    → (0xE1 ≤ first.0) ⊎ (0xA0 ≤ second.0) → (first.1 ≤ 0xEC) ⊎ ((0xEE ≤ first.0) ⊎ (second.1 ≤ 0x9F))
    → Fits (first ∷ second ∷ trail ∷ []) bytes → length bytes ≡ 3 → IsUtf8 bytes
row-three first second [] low high start end not_below no_surrogate fits long = absurd (omega arith)
row-three first second (a ∷ []) low high start end not_below no_surrogate fits long = absurd (omega arith)
row-three first second (a ∷ b ∷ []) low high start end not_below no_surrogate fits long = absurd (omega arith)
row-three first second (a ∷ b ∷ d ∷ []) low high start end not_below no_surrogate (low_a, high_a, (low_b, high_b, (low_d, high_d, _))) long =
    spelt-three a b d (omega arith) (omega arith) (omega arith) (omega arith) low_d high_d (above not_below) (side no_surrogate)
  where
    above : (0xE1 ≤ first.0) ⊎ (0xA0 ≤ second.0) → (0xE1 ≤ a) ⊎ (0xA0 ≤ b)
    above (inl least) = inl (omega arith)
    above (inr least) = inr (omega arith)

    side : (first.1 ≤ 0xEC) ⊎ ((0xEE ≤ first.0) ⊎ (second.1 ≤ 0x9F)) → (a ≤ 0xEC) ⊎ ((0xEE ≤ a) ⊎ (b ≤ 0x9F))
    side (inl most) = inl (omega arith)
    side (inr (inl least)) = inr (inl (omega arith))
    side (inr (inr most)) = inr (inr (omega arith))
row-three first second (a ∷ b ∷ d ∷ e ∷ bytes) low high start end not_below no_surrogate fits long = absurd (omega arith)

row-four : (first second : Range) (bytes : List ℕ) → 0xF0 ≤ first.0 → first.1 ≤ 0xF4 → 0x80 ≤ second.0 → second.1 ≤ 0xBF
    → (0xF1 ≤ first.0) ⊎ (0x90 ≤ second.0) → (first.1 ≤ 0xF3) ⊎ (second.1 ≤ 0x8F)
    → Fits (first ∷ second ∷ trail ∷ trail ∷ []) bytes → length bytes ≡ 4 → IsUtf8 bytes
row-four first second [] low high start end not_below not_above fits long = absurd (omega arith)
row-four first second (a ∷ []) low high start end not_below not_above fits long = absurd (omega arith)
row-four first second (a ∷ b ∷ []) low high start end not_below not_above fits long = absurd (omega arith)
row-four first second (a ∷ b ∷ d ∷ []) low high start end not_below not_above fits long = absurd (omega arith)
row-four first second (a ∷ b ∷ d ∷ e ∷ []) low high start end not_below not_above (low_a, high_a, (low_b, high_b, (low_d, high_d, (low_e, high_e, _)))) long =
    spelt-four a b d e (omega arith) (omega arith) (omega arith) (omega arith) low_d high_d low_e high_e (above not_below) (below not_above)
  where
    above : (0xF1 ≤ first.0) ⊎ (0x90 ≤ second.0) → (0xF1 ≤ a) ⊎ (0x90 ≤ b)
    above (inl least) = inl (omega arith)
    above (inr least) = inr (omega arith)

    below : (first.1 ≤ 0xF3) ⊎ (second.1 ≤ 0x8F) → (a ≤ 0xF3) ⊎ (b ≤ 0x8F)
    below (inl most) = inl (omega arith)
    below (inr most) = inr (omega arith)
row-four first second (a ∷ b ∷ d ∷ e ∷ f ∷ bytes) low high start end not_below not_above fits long = absurd (omega arith)

-- each row of a table gives a text, where it is full
abbrev AreTexts : List ℕ → List Ranges → Type 0
AreTexts bytes [] = Unit {0}
AreTexts bytes (row ∷ table) = (Fits row bytes → length bytes ≡ length row → IsUtf8 bytes) × AreTexts bytes table

text-at : (bytes : List ℕ) (table : List Ranges) (k : ℕ) (row : Ranges) → AreTexts bytes table
    → k < length table → slice_index_or table k row ≡ row → Fits row bytes → length bytes ≡ length row → IsUtf8 bytes
text-at bytes [] k row all here is fits long = absurd (omega arith)
text-at bytes (first ∷ table) zero row all here is fits long = (rw is at all.0) fits long
text-at bytes (first ∷ table) (suc k) row all here is fits long = text-at bytes table k row all.1 (omega arith) is fits long

rows-texts : (bytes : List ℕ) → AreTexts bytes rows
rows-texts bytes = (
  row-one bytes,
  (
    row-two bytes,
    (
      row-three (0xE0, 0xE0) (0xA0, 0xBF) bytes (omega arith) (omega arith) (omega arith) (omega arith) (inr (omega arith))
          (inl (omega arith)),
      (
        row-three (0xE1, 0xEC) trail bytes (omega arith) (omega arith) (omega arith) (omega arith) (inl (omega arith))
            (inl (omega arith)),
        (
          row-three (0xED, 0xED) (0x80, 0x9F) bytes (omega arith) (omega arith) (omega arith) (omega arith) (inl (omega arith))
              (inr (inr (omega arith))),
          (
            row-three (0xEE, 0xEF) trail bytes (omega arith) (omega arith) (omega arith) (omega arith) (inl (omega arith))
                (inr (inl (omega arith))),
            (
              row-four (0xF0, 0xF0) (0x90, 0xBF) bytes (omega arith) (omega arith) (omega arith) (omega arith) (inr (omega arith))
                  (inl (omega arith)),
              (
                row-four (0xF1, 0xF3) trail bytes (omega arith) (omega arith) (omega arith) (omega arith) (inl (omega arith))
                    (inl (omega arith)),
                (
                  row-four (0xF4, 0xF4) (0x80, 0x8F) bytes (omega arith) (omega arith) (omega arith) (omega arith) (inl (omega arith))
                      (inr (omega arith)),
                  tt,
                ),
              ),
            ),
          ),
        ),
      ),
    ),
  ),
)

-- a well-formed sequence is a text
well_formed-utf8 : (bytes : List ℕ) → IsWellFormed bytes → IsUtf8 bytes
well_formed-utf8 bytes (row, (k, here, is), fits, long) = text-at bytes rows k row (rows-texts bytes) here is fits long

-- and so are those that tile the bytes, one after the other
pub tiling-utf8 : (items : List Item) (place : ℕ) (bytes : List ℕ) → IsTiling ReadsWellFormed items place bytes → IsUtf8 bytes
tiling-utf8 [] place bytes none = rw none IsUtf8-nil
tiling-utf8 (item ∷ items) place bytes (_, (taken, _, _, reads, tiles)) =
    rw (← take-append-drop taken bytes)
    (IsUtf8-append (take taken bytes) (drop taken bytes) (well_formed-utf8 (take taken bytes) reads.well_formed)
    (tiling-utf8 items (place + taken) (drop taken bytes) tiles))
