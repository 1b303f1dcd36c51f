-- What the code that decodes UTF-8 reads, by the bytes that stand at each index.
use Rattle.std.proofs.Common.{◌≡◌, ℕ, zero, suc, ◌+◌, ◌-◌, ◌*◌, ◌<◌, ◌≤◌, ◌⊎◌, inl, inr, List, [], ◌∷◌, length, get_or, take, drop, refl, ap, sym, ◌∙◌, arith}
use Rattle.std.proofs.lemmas.List.{drop_more}
use Rattle.std.proofs.lemmas.Bool.{cases_lt}
use Rattle.std.specs.Prelude.{slice_index_or}
use Rattle.seg_text.specs.Items.{Reading}
use Rattle.seg_text.specs.Decoding.{rows, fitting, read_row, read_utf8, scalar_of, StandsAt, Ranges, Range}
use Rattle.seg_text.proofs.Utf8Rows.{head, fitting-step, fitting-stop, fitting-head}
use Rattle.seg_text.proofs.Utf8.{read_row-part, read_row-whole, read_utf8-row, Row, has_row, has_none, row-of}

-- a row whose bytes don't all stand there
part : (row : Ranges) (bytes : List ℕ) (n : ℕ) → fitting row bytes ≡ n → n < length row → (n, 0xFFFD) ≡ read_row row bytes
part row bytes n is few = rw (read_row-part row bytes (λ whole. omega arith), is) refl

pub part-one : (first second : Range) (row : Ranges) (bytes : List ℕ) → StandsAt bytes 0 first → (StandsAt bytes 1 second → ⊥)
    → (1, 0xFFFD) ≡ read_row (first ∷ second ∷ row) bytes
part-one first second row bytes one absent =
    part (first ∷ second ∷ row) bytes 1
    (fitting-step first (second ∷ row) bytes 0 one ∙ ap suc (fitting-stop second row bytes 1 absent)) (omega arith)

pub part-two : (first second third : Range) (row : Ranges) (bytes : List ℕ) → StandsAt bytes 0 first → StandsAt bytes 1 second
    → (StandsAt bytes 2 third → ⊥) → (2, 0xFFFD) ≡ read_row (first ∷ second ∷ third ∷ row) bytes
part-two first second third row bytes one two absent =
    part (first ∷ second ∷ third ∷ row) bytes 2
    (fitting-step first (second ∷ third ∷ row) bytes 0 one ∙ ap suc (fitting-step second (third ∷ row) bytes 1 two
    ∙ ap suc (fitting-stop third row bytes 2 absent))) (omega arith)

pub part-three : (first second third fourth : Range) (row : Ranges) (bytes : List ℕ) → StandsAt bytes 0 first
    → StandsAt bytes 1 second → StandsAt bytes 2 third → (StandsAt bytes 3 fourth → ⊥)
    → (3, 0xFFFD) ≡ read_row (first ∷ second ∷ third ∷ fourth ∷ row) bytes
part-three first second third fourth row bytes one two three absent =
    part (first ∷ second ∷ third ∷ fourth ∷ row) bytes 3
    (fitting-step first (second ∷ third ∷ fourth ∷ row) bytes 0 one ∙ ap suc (fitting-step second (third ∷ fourth ∷ row) bytes 1 two
    ∙ ap suc (fitting-step third (fourth ∷ row) bytes 2 three ∙ ap suc (fitting-stop fourth row bytes 3 absent)))) (omega arith)

-- a row whose bytes all stand there
pub whole-two : (first second : Range) (bytes : List ℕ) (code : ℕ) → StandsAt bytes 0 first → StandsAt bytes 1 second
    → code ≡ (get_or bytes 0 0 - 0xC0) * 0x40 + (get_or bytes 1 0 - 0x80)
    → (2, code) ≡ read_row (first ∷ second ∷ []) bytes
unfolding fitting scalar_of
whole-two first second bytes code one two is =
    let whole : fitting (first ∷ second ∷ []) bytes ≡ 2 =
    fitting-step first (second ∷ []) bytes 0 one ∙ ap suc (fitting-step second [] bytes 1 two) in
    rw (read_row-whole (first ∷ second ∷ []) bytes whole, is) (ap (λ (code : ℕ). (2, code)) (scalar bytes two.0))
  where
    scalar : (bytes : List ℕ) → 1 < length bytes
        → (get_or bytes 0 0 - 0xC0) * 0x40 + (get_or bytes 1 0 - 0x80) ≡ scalar_of (take 2 bytes)
    scalar [] long = absurd (omega arith)
    scalar (a ∷ []) long = absurd (omega arith)
    scalar (a ∷ b ∷ bytes) long = refl

pub whole-three : (first second third : Range) (bytes : List ℕ) (code : ℕ) → StandsAt bytes 0 first → StandsAt bytes 1 second
    → StandsAt bytes 2 third
    → code ≡ (get_or bytes 0 0 - 0xE0) * 0x1000 + (get_or bytes 1 0 - 0x80) * 0x40 + (get_or bytes 2 0 - 0x80)
    → (3, code) ≡ read_row (first ∷ second ∷ third ∷ []) bytes
unfolding fitting scalar_of
whole-three first second third bytes code one two three is =
    let whole : fitting (first ∷ second ∷ third ∷ []) bytes ≡ 3 =
    fitting-step first (second ∷ third ∷ []) bytes 0 one ∙ ap suc (fitting-step second (third ∷ []) bytes 1 two
    ∙ ap suc (fitting-step third [] bytes 2 three)) in
    rw (read_row-whole (first ∷ second ∷ third ∷ []) bytes whole, is) (ap (λ (code : ℕ). (3, code)) (scalar bytes three.0))
  where
    scalar : (bytes : List ℕ) → 2 < length bytes
        → (get_or bytes 0 0 - 0xE0) * 0x1000 + (get_or bytes 1 0 - 0x80) * 0x40 + (get_or bytes 2 0 - 0x80) ≡ scalar_of (take 3 bytes)
    scalar [] long = absurd (omega arith)
    scalar (a ∷ []) long = absurd (omega arith)
    scalar (a ∷ b ∷ []) long = absurd (omega arith)
    scalar (a ∷ b ∷ c ∷ bytes) long = refl

pub whole-four : (first second third fourth : Range) (bytes : List ℕ) (code : ℕ) → StandsAt bytes 0 first → StandsAt bytes 1 second
    → StandsAt bytes 2 third → StandsAt bytes 3 fourth
    → code ≡ (get_or bytes 0 0 - 0xF0) * 0x40000 + (get_or bytes 1 0 - 0x80) * 0x1000 + (get_or bytes 2 0 - 0x80) * 0x40
    + (get_or bytes 3 0 - 0x80)
    → (4, code) ≡ read_row (first ∷ second ∷ third ∷ fourth ∷ []) bytes
unfolding fitting scalar_of
whole-four first second third fourth bytes code one two three four is =
    let whole : fitting (first ∷ second ∷ third ∷ fourth ∷ []) bytes ≡ 4 =
    fitting-step first (second ∷ third ∷ fourth ∷ []) bytes 0 one ∙ ap suc (fitting-step second (third ∷ fourth ∷ []) bytes 1 two
    ∙ ap suc (fitting-step third (fourth ∷ []) bytes 2 three ∙ ap suc (fitting-step fourth [] bytes 3 four))) in
    rw (read_row-whole (first ∷ second ∷ third ∷ fourth ∷ []) bytes whole, is) (ap (λ (code : ℕ). (4, code)) (scalar bytes four.0))
  where
    scalar : (bytes : List ℕ) → 3 < length bytes
        → (get_or bytes 0 0 - 0xF0) * 0x40000 + (get_or bytes 1 0 - 0x80) * 0x1000 + (get_or bytes 2 0 - 0x80) * 0x40
        + (get_or bytes 3 0 - 0x80) ≡ scalar_of (take 4 bytes)
    scalar [] long = absurd (omega arith)
    scalar (a ∷ []) long = absurd (omega arith)
    scalar (a ∷ b ∷ []) long = absurd (omega arith)
    scalar (a ∷ b ∷ c ∷ []) long = absurd (omega arith)
    scalar (a ∷ b ∷ c ∷ d ∷ bytes) long = refl

first-byte : (bytes : List ℕ) → 0x80 ≤ get_or bytes 0 0 → 0 < length bytes
first-byte [] some = absurd (omega arith)
first-byte (byte ∷ bytes) some = omega arith

-- a row of the table whose first range holds the first byte
pub row-at : (k : ℕ) (range : Range) (row : Ranges) (bytes : List ℕ) (found : Reading) → k < 9
    → slice_index_or rows k (range ∷ row) ≡ range ∷ row
    → 0x80 ≤ get_or bytes 0 0 → range.0 ≤ get_or bytes 0 0 → get_or bytes 0 0 ≤ range.1
    → (StandsAt bytes 0 range → found ≡ read_row (range ∷ row) bytes) → found ≡ read_utf8 bytes
row-at k range row bytes found here is wide low high reads =
    let one : StandsAt bytes 0 range = (first-byte bytes wide, low, high) in
    reads one ∙ sym (read_utf8-row (range ∷ row) bytes (k, here, is) (omega (arith, fitting-step range row bytes 0 one)))

abbrev Outside : List ℕ → List Ranges → Type 0
Outside bytes [] = Unit {0}
Outside bytes (row ∷ table) = (StandsAt bytes 0 (head row) → ⊥) × Outside bytes table

outside-at : (bytes : List ℕ) (table : List Ranges) (k : ℕ) (row : Ranges) → Outside bytes table
    → k < length table → slice_index_or table k row ≡ row → StandsAt bytes 0 (head row) → ⊥
outside-at bytes [] k row all here is = absurd (omega arith)
outside-at bytes (first ∷ table) zero row all here is = rw is at all.0
outside-at bytes (first ∷ table) (suc k) row all here is = outside-at bytes table k row all.1 (omega arith) is

-- no row's first range holds the first byte
pub no-row : (bytes : List ℕ) → 0x80 ≤ get_or bytes 0 0 → (0xC2 ≤ get_or bytes 0 0 → get_or bytes 0 0 ≤ 0xF4 → ⊥)
    → (1, 0xFFFD) ≡ read_utf8 bytes
no-row bytes wide out = on (row-of bytes) (cases_lt (get_or bytes 0 0) 0xC2)
  where
    not-below : (get_or bytes 0 0 ≤ 0xF4 → ⊥) → 0xF4 < get_or bytes 0 0
    not-below never = omega (arith, never)

    on : Row bytes → (get_or bytes 0 0 < 0xC2) ⊎ (0xC2 ≤ get_or bytes 0 0) → (1, 0xFFFD) ≡ read_utf8 bytes
    on (has_none absent is) side = sym is
    on (has_row row among some is) (inl under) =
        let outside : Outside bytes rows = (
          λ at. omega (arith, at.2),
          (
            λ at. omega (arith, at.1),
            (
              λ at. omega (arith, at.1),
              (
                λ at. omega (arith, at.1),
                (
                  λ at. omega (arith, at.1),
                  (
                    λ at. omega (arith, at.1),
                    (
                      λ at. omega (arith, at.1),
                      (
                        λ at. omega (arith, at.1),
                        (λ at. omega (arith, at.1), tt),
                      ),
                    ),
                  ),
                ),
              ),
            ),
          ),
        ) in
        absurd (outside-at bytes rows among.0 row outside among.1 among.2 (fitting-head row bytes some))
    on (has_row row among some is) (inr above) =
        let over : 0xF4 < get_or bytes 0 0 = not-below (out above) in
        let outside : Outside bytes rows = (
          λ at. omega (arith, at.2),
          (
            λ at. omega (arith, at.2),
            (
              λ at. omega (arith, at.2),
              (
                λ at. omega (arith, at.2),
                (
                  λ at. omega (arith, at.2),
                  (
                    λ at. omega (arith, at.2),
                    (
                      λ at. omega (arith, at.2),
                      (
                        λ at. omega (arith, at.2),
                        (λ at. omega (arith, at.2), tt),
                      ),
                    ),
                  ),
                ),
              ),
            ),
          ),
        ) in
        absurd (outside-at bytes rows among.0 row outside among.1 among.2 (fitting-head row bytes some))

-- an ASCII byte
pub ascii-at : (start : ℕ) (text : List ℕ) → start < length text → get_or text start 0 < 0x80
    → (1, get_or text start 0) ≡ read_utf8 (drop start text)
unfolding fitting scalar_of
ascii-at start text inside ascii =
    rw (drop_more text start 0 inside) (on (get_or text start 0) (drop (start + 1) text) ascii)
  where
    on : (byte : ℕ) (bytes : List ℕ) → byte < 0x80 → (1, byte) ≡ read_utf8 (byte ∷ bytes)
    on byte bytes ascii =
        let row : Ranges = (0, 0x7F) ∷ [] in
        let one : fitting row (byte ∷ bytes) ≡ 1 = fitting-step (0, 0x7F) [] (byte ∷ bytes) 0 (omega arith, omega arith, omega arith) in
        sym (read_utf8-row row (byte ∷ bytes) (0, omega arith, refl) (omega arith) ∙ read_row-whole row (byte ∷ bytes) one)
