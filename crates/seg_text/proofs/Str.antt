-- The bytes of a str are well-formed UTF-8, and so each of its items is one of its characters.
use Rattle.std.proofs.Common.{◌≡◌, ℕ, zero, suc, ◌+◌, ◌-◌, ◌/◌, ◌%◌, ◌<◌, ◌≤◌, ◌⊎◌, inl, inr, true, List, [], ◌∷◌, ◌++◌, length, get_or, take, drop, length-append, length-drop, refl, ap, sym, ◌∙◌, arith}
use Rattle.std.proofs.lemmas.Bool.{cases_lt, and_parts}
use Rattle.std.proofs.lemmas.List.{take_at, drop_at, drop_all, drop_more, drop-drop}
use Rattle.std.proofs.lemmas.Str.{IsUtf8-take, IsCharBoundary-from_drop, length-encode, len_utf8_bounds, chars-encodes, cons_from_encodes}
use Rattle.std.specs.Prelude.{slice_index_or}
use Rattle.std.specs.Char.{IsScalar, encode_utf8}
use Rattle.std.specs.Str.{IsUtf8, IsCharBoundary, all_scalars, chars, encode_utf8_all}
use Rattle.std.proofs.str.Laws.{one, two, three, four}
use Rattle.std.proofs.Math.Utf8.{scalar, scalar_cases}
use Rattle.seg_text.specs.Items.{IsTiling, place_of, items_by, code_points, Reading}
use Rattle.seg_text.specs.Lemmas.Readers.{items_by-nil, items_by-cons, place_of-items_by}
use Rattle.seg_text.specs.Lemmas.Rising.{read_utf8-reader}
use Rattle.seg_text.specs.Decoding.{rows, trail, IsWellFormed, ReadsWellFormed, scalar_of, read_utf8, utf8_items, Range}
use Rattle.seg_text.specs.Lemmas.Utf8Stable.{read_utf8-stable}
use Rattle.seg_text.proofs.Cursors.{seek-within, taken-within}
use Rattle.seg_text.proofs.Slice.{up_to-found}
use Rattle.seg_text.proofs.Utf8.{read_utf8-of}
use Rattle.seg_text.proofs.Utf8Reads.{ascii-at}
use Rattle.seg_text.proofs.Wide.{utf8-wide}

-- ---- the bytes of a character

-- the bytes are a well-formed sequence, and this is its code point
record Spells (c : ℕ) (bytes : List ℕ) : Type 0 where
  pub well_formed : IsWellFormed bytes
  pub scalar : c ≡ scalar_of bytes

-- three bytes of the k-th row
in-three : (k : ℕ) (first second : Range) (a b c : ℕ) → k < 9
    → slice_index_or rows k (first ∷ second ∷ trail ∷ []) ≡ first ∷ second ∷ trail ∷ []
    → first.0 ≤ a → a ≤ first.1 → second.0 ≤ b → b ≤ second.1 → 0x80 ≤ c → c ≤ 0xBF → IsWellFormed (a ∷ b ∷ c ∷ [])
in-three k first second a b c here is low_a high_a low_b high_b low_c high_c =
    (first ∷ second ∷ trail ∷ [], (k, here, is), (low_a, high_a, (low_b, high_b, (low_c, high_c, tt))), refl)

-- and four
in-four : (k : ℕ) (first second : Range) (a b c d : ℕ) → k < 9
    → slice_index_or rows k (first ∷ second ∷ trail ∷ trail ∷ []) ≡ first ∷ second ∷ trail ∷ trail ∷ []
    → first.0 ≤ a → a ≤ first.1 → second.0 ≤ b → b ≤ second.1 → 0x80 ≤ c → c ≤ 0xBF → 0x80 ≤ d → d ≤ 0xBF
    → IsWellFormed (a ∷ b ∷ c ∷ d ∷ [])
in-four k first second a b c d here is low_a high_a low_b high_b low_c high_c low_d high_d =
    (first ∷ second ∷ trail ∷ trail ∷ [], (k, here, is), (low_a, high_a, (low_b, high_b, (low_c, high_c, (low_d, high_d, tt)))), refl)

spells-one : (c : ℕ) → c < 0x80 → Spells c (encode_utf8 c)
unfolding scalar_of
spells-one c high =
    rw (one c high) (record {
      well_formed = ((0x00, 0x7F) ∷ [], (0, omega arith, refl), (omega arith, omega arith, tt), refl);
      scalar = refl;
    })

spells-two : (c : ℕ) → 0x80 ≤ c → c < 0x800 → Spells c (encode_utf8 c)
unfolding scalar_of
spells-two c low high =
    rw (two c low high) (record {
      well_formed = ((0xC2, 0xDF) ∷ trail ∷ [], (1, omega arith, refl), (omega arith, omega arith, (omega arith, omega arith, tt)), refl);
      scalar = omega arith;
    })

spells-three : (c : ℕ) → 0x800 ≤ c → c < 0x1_0000 → (c < 0xD800) ⊎ (0xE000 ≤ c) → Spells c (encode_utf8 c)
unfolding scalar_of
spells-three c low high side =
    rw (three c low high) (record { well_formed = row (cases_lt c 0x1000) (cases_lt c 0xD000) side; scalar = omega arith })
  where
    row : (c < 0x1000) ⊎ (0x1000 ≤ c) → (c < 0xD000) ⊎ (0xD000 ≤ c) → (c < 0xD800) ⊎ (0xE000 ≤ c)
        → IsWellFormed ((0xE0 + c / 0x1000) ∷ (0x80 + c / 0x40 % 0x40) ∷ (0x80 + c % 0x40) ∷ [])
    row (inl under) _ _ =
        in-three 2 (0xE0, 0xE0) (0xA0, 0xBF) _ _ _ (omega arith) refl (omega arith) (omega arith) (omega arith) (omega arith) (omega arith) (omega arith)
    row (inr over) (inl under) _ =
        in-three 3 (0xE1, 0xEC) trail _ _ _ (omega arith) refl (omega arith) (omega arith) (omega arith) (omega arith) (omega arith) (omega arith)
    row (inr _) (inr over) (inl under) =
        in-three 4 (0xED, 0xED) (0x80, 0x9F) _ _ _ (omega arith) refl (omega arith) (omega arith) (omega arith) (omega arith) (omega arith) (omega arith)
    row (inr _) (inr _) (inr over) =
        in-three 5 (0xEE, 0xEF) trail _ _ _ (omega arith) refl (omega arith) (omega arith) (omega arith) (omega arith) (omega arith) (omega arith)

spells-four : (c : ℕ) → 0x1_0000 ≤ c → c < 0x11_0000 → Spells c (encode_utf8 c)
unfolding scalar_of
spells-four c low high =
    rw (four c low) (record { well_formed = row (cases_lt c 0x4_0000) (cases_lt c 0x10_0000); scalar = omega arith })
  where
    row : (c < 0x4_0000) ⊎ (0x4_0000 ≤ c) → (c < 0x10_0000) ⊎ (0x10_0000 ≤ c)
        → IsWellFormed ((0xF0 + c / 0x4_0000) ∷ (0x80 + c / 0x1000 % 0x40) ∷ (0x80 + c / 0x40 % 0x40) ∷ (0x80 + c % 0x40) ∷ [])
    row (inl under) _ =
        in-four 6 (0xF0, 0xF0) (0x90, 0xBF) _ _ _ _ (omega arith) refl (omega arith) (omega arith) (omega arith) (omega arith) (omega arith) (omega arith)
        (omega arith) (omega arith)
    row (inr over) (inl under) =
        in-four 7 (0xF1, 0xF3) trail _ _ _ _ (omega arith) refl (omega arith) (omega arith) (omega arith) (omega arith) (omega arith) (omega arith)
        (omega arith) (omega arith)
    row (inr _) (inr over) =
        in-four 8 (0xF4, 0xF4) (0x80, 0x8F) _ _ _ _ (omega arith) refl (omega arith) (omega arith) (omega arith) (omega arith) (omega arith) (omega arith)
        (omega arith) (omega arith)

-- the bytes of a character are a well-formed sequence, and it is their code point
spells : (c : ℕ) → IsScalar c → Spells c (encode_utf8 c)
spells c is = by (cases_lt c 0x80) (cases_lt c 0x800) (cases_lt c 0x1_0000) (scalar_cases c is)
  where
    by : (c < 0x80) ⊎ (0x80 ≤ c) → (c < 0x800) ⊎ (0x800 ≤ c) → (c < 0x1_0000) ⊎ (0x1_0000 ≤ c)
        → (c < 0xD800) ⊎ ((0xE000 ≤ c) × (c < 0x11_0000)) → Spells c (encode_utf8 c)
    by (inl high) _ _ _ = spells-one c high
    by (inr low) (inl high) _ _ = spells-two c low high
    by (inr _) (inr low) (inl high) (inl under) = spells-three c low high (inl under)
    by (inr _) (inr low) (inl high) (inr over) = spells-three c low high (inr over.0)
    by (inr _) (inr _) (inr low) (inl under) = absurd (omega arith)
    by (inr _) (inr _) (inr low) (inr over) = spells-four c low over.1

-- ---- the first character of a text

-- it is what UTF-8's reader reads
pub reads-encode : (c : ℕ) (rest : List ℕ) → IsScalar c → ReadsWellFormed (encode_utf8 c ++ rest) (length (encode_utf8 c)) c
reads-encode c rest is =
    let spelt = spells c is in
    let front : take (length (encode_utf8 c)) (encode_utf8 c ++ rest) ≡ encode_utf8 c = take_at (encode_utf8 c) rest _ refl in
    record { well_formed = rw front spelt.well_formed; scalar = rw front spelt.scalar }

encode-some : (c : ℕ) → 0 < length (encode_utf8 c)
encode-some c = omega (arith, length-encode c, len_utf8_bounds c)

pub read_utf8-encode : (c : ℕ) (rest : List ℕ) → IsScalar c
    → read_utf8 (encode_utf8 c ++ rest) ≡ (length (encode_utf8 c), c)
read_utf8-encode c rest is = on (encode_utf8 c) (encode-some c) (reads-encode c rest is)
  where
    on : (bytes : List ℕ) → 0 < length bytes → ReadsWellFormed (bytes ++ rest) (length bytes) c
        → read_utf8 (bytes ++ rest) ≡ (length bytes, c)
    on [] some reads = absurd (omega arith)
    on (byte ∷ bytes) some reads =
        sym (read_utf8-of.only byte (bytes ++ rest) (suc (length bytes)) c (omega arith) (omega (arith, length-append bytes rest)) (inl reads))

-- what follows it is a text again
pub rest-utf8 : (bytes : List ℕ) → IsUtf8 bytes → 0 < length bytes → IsUtf8 (drop (read_utf8 bytes).0 bytes)
rest-utf8 bytes ([], (are, is)) some = absurd (omega (arith, ap length is))
rest-utf8 bytes (c ∷ cs, (are, is)) some =
    let parts = and_parts (scalar c) (all_scalars cs) are in
    rw (← is, read_utf8-encode c (encode_utf8_all cs) parts.0, drop_at (encode_utf8 c) (encode_utf8_all cs) _ refl)
    (cs, (parts.1, refl))

-- ---- the items of a text

-- the first item, and those after it
items_by-some : (place : ℕ) (bytes : List ℕ) → 0 < length bytes
    → items_by read_utf8 place bytes
    ≡ (place, (read_utf8 bytes).1) ∷ items_by read_utf8 (place + (read_utf8 bytes).0) (drop (read_utf8 bytes).0 bytes)
items_by-some place [] some = absurd (omega arith)
items_by-some place (byte ∷ bytes) some = items_by-cons read_utf8 read_utf8-reader place byte bytes

-- by the characters that the bytes spell
encodes-tile : (cs : List ℕ) (place : ℕ) → all_scalars cs ≡ true
    → IsTiling ReadsWellFormed (items_by read_utf8 place (encode_utf8_all cs)) place (encode_utf8_all cs)
encodes-tile [] place are = rw (items_by-nil read_utf8 place) refl
encodes-tile (c ∷ cs) place are =
    let parts = and_parts (scalar c) (all_scalars cs) are in
    let bytes : List ℕ = encode_utf8 c ++ encode_utf8_all cs in
    let some : 0 < length (encode_utf8 c) = encode-some c in
    let within : length (encode_utf8 c) ≤ length bytes = omega (arith, length-append (encode_utf8 c) (encode_utf8_all cs)) in
    let rest : drop (length (encode_utf8 c)) bytes ≡ encode_utf8_all cs = drop_at (encode_utf8 c) (encode_utf8_all cs) _ refl in
    rw (items_by-some place bytes (omega arith), read_utf8-encode c (encode_utf8_all cs) parts.0) (
      refl,
      (length (encode_utf8 c), some, within, reads-encode c (encode_utf8_all cs) parts.0, rw rest (encodes-tile cs (place + length (encode_utf8 c)) parts.1)),
    )

encodes-characters : (cs : List ℕ) (place : ℕ) → all_scalars cs ≡ true
    → code_points (items_by read_utf8 place (encode_utf8_all cs)) ≡ cs
encodes-characters [] place are = rw (items_by-nil read_utf8 place) refl
encodes-characters (c ∷ cs) place are =
    let parts = and_parts (scalar c) (all_scalars cs) are in
    let some : 0 < length (encode_utf8 c ++ encode_utf8_all cs) =
    omega (arith, length-append (encode_utf8 c) (encode_utf8_all cs), encode-some c) in
    rw (
      items_by-some place (encode_utf8 c ++ encode_utf8_all cs) some,
      read_utf8-encode c (encode_utf8_all cs) parts.0,
      drop_at (encode_utf8 c) (encode_utf8_all cs) _ refl,
    )
    (ap (λ characters. c ∷ characters) (encodes-characters cs (place + length (encode_utf8 c)) parts.1))

-- the items of a text are its characters
pub utf8_items-characters : (place : ℕ) (bytes : List ℕ) → IsUtf8 bytes → code_points (utf8_items place bytes) ≡ chars bytes
unfolding utf8_items
utf8_items-characters place bytes (cs, (are, is)) = rw (← is) (encodes-characters cs place are ∙ sym (chars-encodes cs are))

-- no item of a text is ill-formed
pub utf8_items-well_formed : (place : ℕ) (bytes : List ℕ) → IsUtf8 bytes → IsTiling ReadsWellFormed (utf8_items place bytes) place bytes
unfolding utf8_items
utf8_items-well_formed place bytes (cs, (are, is)) = rw (← is) (encodes-tile cs place are)

-- ---- the places of items

-- what is left of a text after its next item is a text again
pub next-utf8 : (start : ℕ) (text : List ℕ) (found : Reading) → start < length text → IsUtf8 (drop start text)
    → found ≡ read_utf8 (drop start text) → IsUtf8 (drop (start + found.0) text)
next-utf8 start text found inside is reads =
    rw (← drop-drop found.0 start text, reads) (rest-utf8 (drop start text) is (omega (arith, length-drop start text)))

-- and so is what is left from the place of any item that isn't read yet, or from the end
pub seek-utf8 : (k place start : ℕ) (text : List ℕ) → start ≤ length text → IsUtf8 (drop start text)
    → place ≡ place_of (drop k (items_by read_utf8 start (drop start text))) (start + length (drop start text))
    → IsUtf8 (drop place text)
seek-utf8 zero place start text inside is here =
    rw (here ∙ place_of-items_by read_utf8 read_utf8-reader start (drop start text)) is
seek-utf8 (suc k) place start text inside is here = on (cases_lt start (length text)) (seek-utf8 k place)
  where
    on : (start < length text) ⊎ (length text ≤ start)
        → ((next : ℕ) (text : List ℕ) → next ≤ length text → IsUtf8 (drop next text)
        → place ≡ place_of (drop k (items_by read_utf8 next (drop next text))) (next + length (drop next text)) → IsUtf8 (drop place text))
        → IsUtf8 (drop place text)
    on (inr past) more =
        let end : place ≡ start = rw (drop_all start text past, items_by-nil read_utf8 start) at here ∙ omega arith in
        rw end is
    on (inl before) more =
        let taken : ℕ = (read_utf8 (drop start text)).0 in
        let within : start + taken ≤ length text = taken-within read_utf8 read_utf8-reader start text _ before refl in
        let end : start + length (drop start text) ≡ (start + taken) + length (drop (start + taken) text) =
        omega (arith, length-drop start text, length-drop (start + taken) text) in
        let some : 0 < length (drop start text) = omega (arith, length-drop start text) in
        more (start + taken) text within (next-utf8 start text _ before is refl)
        (rw (items_by-some start (drop start text) some, drop-drop taken start text, end) at here)

-- and a text may be cut there
pub seek-boundary : (k place start : ℕ) (text : List ℕ) → start ≤ length text → IsUtf8 (drop start text)
    → place ≡ place_of (drop k (items_by read_utf8 start (drop start text))) (start + length (drop start text))
    → IsCharBoundary text place
seek-boundary k place start text inside is here =
    IsCharBoundary-from_drop text place (seek-within read_utf8 read_utf8-reader k place start text inside here)
    (seek-utf8 k place start text inside is here)

-- the units before the place of an item, from the cursor on
pub up_to-utf8 : (k to start : ℕ) (text : List ℕ) → start ≤ length text → IsUtf8 (drop start text)
    → to ≡ place_of (drop k (items_by read_utf8 start (drop start text))) (start + length (drop start text))
    → (start ≤ length (take to text)) × IsUtf8 (drop start (take to text))
up_to-utf8 k to start text inside is here =
    let found = up_to-found read_utf8 read_utf8-stable k to start text inside here in
    let parts : start + (to - start) ≡ to = omega (arith, found.after) in
    let rest : IsUtf8 (drop (to - start) (drop start text)) =
    rw (drop-drop (to - start) start text, parts) (seek-utf8 k to start text inside is here) in (
      omega (arith, found.long, found.after),
      rw found.units
          (IsUtf8-take (drop start text) (to - start) is
          (IsCharBoundary-from_drop (drop start text) (to - start) (omega (arith, length-drop start text, found.within)) rest)),
    )

-- ---- what the code reads

-- an ASCII byte
pub ascii-read : (start : ℕ) (bytes text : List ℕ) → bytes ≡ text → start < length text → get_or bytes start 0 < 0x80
    → (1, get_or bytes start 0) ≡ read_utf8 (drop start text)
ascii-read start bytes text same inside ascii = rw same (ascii-at start text inside (rw same at ascii))

-- a byte that isn't ASCII
pub wide-read : (start : ℕ) (bytes text : List ℕ) → bytes ≡ text → start < length text → 0x80 ≤ get_or bytes start 0
    → 0x80 ≤ (read_utf8 (drop start text)).1
wide-read start bytes text same inside wide =
    utf8-wide (drop start text) (rw (drop_more text start 0 inside) (rw same at wide))

-- the first character, where `before` is the text, as an iterator holds it, and `after` what it holds then
pub first-read : (c : ℕ) (text before after rest : List ℕ) → IsUtf8 text → before ≡ text → before ≡ encode_utf8 c ++ after → rest ≡ after
    → (length text - length rest, c) ≡ read_utf8 text
first-read c text before after rest (cs, (are, is)) same split left =
    let whole : text ≡ encode_utf8 c ++ rest = rw (left, ← same) split in
    let (others, first, _) = cons_from_encodes cs rest c (is ∙ whole) in
    let parts = and_parts (scalar c) (all_scalars others) (rw first at are) in
    let long : length text - length rest ≡ length (encode_utf8 c) = omega (arith, length-append (encode_utf8 c) rest, ap length whole) in
    rw (long, whole) (sym (read_utf8-encode c rest parts.0))
