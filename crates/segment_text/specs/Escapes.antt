-- Characters that are written as escapes, in texts in UTF-8: control characters, separators of lines and paragraphs, and backslashes.
use Rattle.std.specs.Prelude.{◌≡◌, ℕ, ◌<◌, ◌≤◌, ◌+◌, ◌/◌, ◌%◌, ◌==◌, ◌&&◌, ◌||◌, not, nat_le, nat_lt, Bool, true, slice_index_or, Option, None, Some, List, [], ◌∷◌, ◌++◌, codes, if◌then◌else◌}

-- the digit of a number below 16
abbrev pub hex_digit : ℕ → ℕ
hex_digit n = if nat_lt n 10 then 0x30 + n else 0x57 + n

-- a code in two digits, or in four where it has more
abbrev pub hex_digits : ℕ → List ℕ
hex_digits code =
    if nat_lt code 0x100 then hex_digit (code / 16) ∷ hex_digit (code % 16) ∷ []
    else hex_digit (code / 4096) ∷ hex_digit (code / 256 % 16) ∷ hex_digit (code / 16 % 16) ∷ hex_digit (code % 16) ∷ []

-- what is written for a character: \t, \n, \r, \\, or its code, as \u{1b} or \u{2028}
abbrev pub escape_of : ℕ → List ℕ
escape_of code =
    if code == 0x09 then codes "\\t" else
    if code == 0x0A then codes "\\n" else
    if code == 0x0D then codes "\\r" else
    if code == 0x5C then codes "\\\\" else
    codes "\\u{" ++ hex_digits code ++ codes "}"

-- a byte that is escaped: U+0000 to U+001F, the backslash, or U+007F
abbrev pub is_escaped : ℕ → Bool
is_escaped byte = nat_lt byte 0x20 || byte == 0x5C || byte == 0x7F

-- a byte that neither is escaped nor begins more bytes that are
abbrev pub is_plain : ℕ → Bool
is_plain byte = not (is_escaped byte) && not (byte == 0xC2) && not (byte == 0xE2)

-- two bytes that are a control character: U+0080 to U+009F. C2 stands nowhere but at the head of a character
abbrev pub are_control : ℕ → ℕ → Bool
are_control first second = first == 0xC2 && nat_le 0x80 second && nat_le second 0x9F

-- three bytes that are a separator: U+2028 or U+2029. E2 stands nowhere but at the head of a character
abbrev pub are_separator : ℕ → ℕ → ℕ → Bool
are_separator first second third = first == 0xE2 && second == 0x80 && (third == 0xA8 || third == 0xA9)

-- the code of the control character that two bytes at the head are, and of the separator that three are
abbrev pub control_of : List ℕ → Option ℕ
control_of (first ∷ second ∷ bytes) = if are_control first second then Some second else None
control_of bytes = None

abbrev pub separator_of : List ℕ → Option ℕ
separator_of (first ∷ second ∷ third ∷ bytes) = if are_separator first second third then Some (0x1F80 + third) else None
separator_of bytes = None

-- bytes in which these characters are written as escapes, and all else as it is
unfoldable pub escaped : List ℕ → List ℕ
escaped [] = []
escaped (byte ∷ []) = if is_escaped byte then escape_of byte else byte ∷ []
escaped (first ∷ second ∷ []) =
    if is_escaped first then escape_of first ++ escaped (second ∷ []) else
    if are_control first second then escape_of second else
    first ∷ escaped (second ∷ [])
escaped (first ∷ second ∷ third ∷ bytes) =
    if is_escaped first then escape_of first ++ escaped (second ∷ third ∷ bytes) else
    if are_control first second then escape_of second ++ escaped (third ∷ bytes) else
    if are_separator first second third then escape_of (0x1F80 + third) ++ escaped bytes else
    first ∷ escaped (second ∷ third ∷ bytes)

-- no byte of a text between two places is escaped or begins more bytes that may be
abbrev pub ArePlain : List ℕ → ℕ → ℕ → Type 0
ArePlain text from to = (place : ℕ) → from ≤ place → place < to → is_plain (slice_index_or text place 0) ≡ true
