-- A text whose lines are joined, word by word.
use Rattle.std.proofs.Common.{◌≡◌, ℕ, suc, ◌+◌, ◌-◌, ◌≤◌, ◌==◌, not, Bool, true, false, List, [], ◌∷◌, ◌++◌, take, drop, refl, sym, ap, ◌∙◌, append-nil, append_assoc, arith, eqb-true, length}
use Rattle.std.proofs.Math.Seq.{take-length}
use Rattle.std.proofs.lemmas.List.{drop-append-le, length-drop, length-take-le, take-append-drop}
use Rattle.std.specs.List.{prefix_len, suffix_len}
use Rattle.segment_text.specs.Joined.{behind_space, is_white_space, joined, joined_after, joined_space, line_behind, space_of}
use Rattle.segment_text.specs.Size.{line_feeds}

abbrev pub is_other : ℕ → Bool
is_other byte = not (is_white_space byte)

one-more : (n : ℕ) → 1 + n ≡ suc n
one-more n = omega arith

-- ---- how far a word goes

abbrev word_of : List ℕ → List ℕ
word_of bytes = take (prefix_len is_other bytes) bytes

abbrev behind_word : List ℕ → List ℕ
behind_word bytes = drop (prefix_len is_other bytes) bytes

-- ---- a word stays

abbrev WordStays : List ℕ → List ℕ → Type 0
WordStays line bytes = joined_after line [] bytes ≡ word_of bytes ++ joined_after line [] (behind_word bytes)

word-by : (line : List ℕ) (byte : ℕ) (bytes : List ℕ) (is : Bool) → is_white_space byte ≡ is → WordStays line bytes → WordStays line (byte ∷ bytes)
unfolding joined_after
word-by line byte bytes true is later = rw (is, is) refl
word-by line byte bytes false is later = rw (is, one-more (prefix_len is_other bytes)) (ap (λ (others : List ℕ). byte ∷ others) later)

word-stays : (line bytes : List ℕ) → WordStays line bytes
word-stays line [] = refl
word-stays line (byte ∷ bytes) = word-by line byte bytes (is_white_space byte) refl (word-stays line bytes)

-- ---- white space goes on as far as it is

-- what is written behind a word for all the white space there, and what follows
abbrev pub shown_of : List ℕ → List ℕ → List ℕ → List ℕ
shown_of line space bytes = joined_space line space bytes ++ joined_after (line_behind line space bytes) [] bytes

abbrev pub IsSpaced : List ℕ → List ℕ → List ℕ → Type 0
IsSpaced line space bytes = joined_after line space bytes ≡ shown_of line (space ++ space_of bytes) (behind_space bytes)

spaced-by : (line space : List ℕ) (byte : ℕ) (bytes : List ℕ) (is : Bool) → is_white_space byte ≡ is → IsSpaced line (space ++ byte ∷ []) bytes → IsSpaced line space (byte ∷ bytes)
unfolding joined_after
spaced-by line space byte bytes true is later =
    rw (is, one-more (prefix_len is_white_space bytes))
    (later ∙ ap (λ (whole : List ℕ). shown_of line whole (behind_space bytes)) (append_assoc space (byte ∷ []) (space_of bytes)))
spaced-by line space byte bytes false is later = rw (is, append-nil space, is) refl

pub spaced : (line space bytes : List ℕ) → IsSpaced line space bytes
unfolding joined_after
spaced line space [] = rw (append-nil space, append-nil space) refl
spaced line space (byte ∷ bytes) = spaced-by line space byte bytes (is_white_space byte) refl (spaced line (space ++ byte ∷ []) bytes)

-- ---- another line

last_bytes : (gap k : ℕ) (after : List ℕ) → gap ≤ length after → drop (gap - k) (take gap after) ++ drop gap after ≡ drop (gap - k) after
last_bytes gap k after within =
    sym (drop-append-le (gap - k) (take gap after) (drop gap after) (omega (arith, length-take-le gap after within)))
    ∙ ap (λ (whole : List ℕ). drop (gap - k) whole) (take-append-drop gap after)

all_behind : (n : ℕ) (text : List ℕ) → take (length text - n) (drop n text) ≡ drop n text
all_behind n text = rw (← length-drop n text) (take-length (drop n text))

-- where white space has a line feed, another line begins behind the last
pub begins : (line after : List ℕ) (gap indented : ℕ) → gap ≤ length after → (line_feeds (take gap after) == 0) ≡ false
    → indented ≡ suffix_len (λ byte. not (byte == 0x0A)) (take gap after)
    → take (length after - (gap - indented)) (drop (gap - indented) after) ≡ line_behind line (take gap after) (drop gap after)
begins line after gap indented within some indented-is =
    rw (some, length-take-le gap after within, ← indented-is) (all_behind (gap - indented) after ∙ sym (last_bytes gap indented after within))

-- ---- what is written

pub starts : (none text start rest written line : List ℕ) (width : ℕ) → none ≡ [] → width ≡ prefix_len is_white_space text → start ≡ take width text → rest ≡ drop width text
    → line ≡ line_behind text (take width text) (drop width text) → written ≡ none ++ start → written ++ joined_after line [] rest ≡ joined text
unfolding joined
starts none text start rest written line width none-is width-is start-is rest-is line-is written-is =
    rw (written-is, none-is, line-is, start-is, rest-is, width-is) refl

-- one word more, and the white space after it
pub step : (all done line rest word after space next following shown more written : List ℕ) (width gap : ℕ) → done ++ joined_after line [] rest ≡ all
    → width ≡ prefix_len is_other rest → word ≡ take width rest → after ≡ drop width rest
    → gap ≡ prefix_len is_white_space after → space ≡ take gap after → next ≡ drop gap after
    → following ≡ line_behind line (take gap after) (drop gap after) → shown ≡ joined_space line space next → more ≡ done ++ word → written ≡ more ++ shown
    → written ++ joined_after following [] next ≡ all
step all done line rest word after space next following shown more written width gap so_far width-is word-is after-is gap-is space-is next-is following-is shown-is more-is written-is =
    let behind : joined_after line [] after ≡ shown ++ joined_after following [] next = rw (shown-is, following-is, next-is, space-is, gap-is) (spaced line [] after) in
    let front : joined_after line [] rest ≡ word ++ joined_after line [] after = rw (after-is, word-is, width-is) (word-stays line rest) in
    rw (written-is, more-is, append_assoc (done ++ word) shown (joined_after following [] next), append_assoc done word (shown ++ joined_after following [] next), ← behind, ← front) so_far

pub ends : (all done line rest : List ℕ) → done ++ joined_after line [] rest ≡ all → (length rest == 0) ≡ true → done ≡ all
unfolding joined_after
ends all done line [] so_far none = sym (append-nil done) ∙ so_far
ends all done line (byte ∷ bytes) so_far none = absurd (omega (arith, eqb-true _ _ none))
