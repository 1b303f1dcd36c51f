-- What the bytes at the head of a text are written as, and then those further on.
use Rattle.std.proofs.Common.{◌≡◌, ℕ, ◌+◌, ◌-◌, ◌<◌, ◌≤◌, ◌==◌, Bool, true, false, None, Some, List, [], ◌∷◌, ◌++◌, length, take, drop, refl, sym, ap, ◌∙◌, append-nil, append_assoc, arith, slice_index_or, if◌then◌else◌}
use Rattle.std.proofs.Math.Seq.{take-add, drop-drop}
use Rattle.std.proofs.lemmas.List.{take_all, drop_all, length-drop}
use Rattle.std.proofs.lemmas.Bool.{and_parts, not-true}
use Rattle.std.proofs.lemmas.Option.{none-some, same_Some}
use Rattle.segment_text.specs.Escapes.{are_control, are_separator, control_of, escape_of, escaped, is_escaped, is_plain, separator_of}

-- what is chosen by a test that passes
chosen : (test : Bool) (code found : ℕ) → (if test then Some code else None) ≡ Some found → (test ≡ true) × (code ≡ found)
chosen true code found is = (refl, same_Some _ _ is)
chosen false code found is = absurd (none-some found is)

-- and by one that doesn't
unchosen : (test : Bool) (code : ℕ) → (if test then Some code else None) ≡ None → test ≡ false
unchosen true code is = absurd (none-some code (sym is))
unchosen false code is = refl

-- a plain byte, before any others
pub plain-none : (bytes : List ℕ) → is_plain (slice_index_or bytes 0 0) ≡ true
    → (is_escaped (slice_index_or bytes 0 0) ≡ false) × (control_of bytes ≡ None) × (separator_of bytes ≡ None)
plain-none [] plain = cc
plain-none (first ∷ []) plain = (not-true _ (and_parts _ _ (and_parts _ _ plain).0).0, refl, refl)
plain-none (first ∷ second ∷ []) plain =
    let parts = and_parts _ _ (and_parts _ _ plain).0 in
    let other : (first == 0xC2) ≡ false = not-true _ parts.1 in (not-true _ parts.0, rw other refl, refl)
plain-none (first ∷ second ∷ third ∷ bytes) plain =
    let parts = and_parts _ _ (and_parts _ _ plain).0 in
    let other : (first == 0xC2) ≡ false = not-true _ parts.1 in
    let neither : (first == 0xE2) ≡ false = not-true _ (and_parts _ _ plain).1 in (not-true _ parts.0, rw other refl, rw neither refl)

-- a byte that is escaped
pub escaped-one : (bytes : List ℕ) → 0 < length bytes → is_escaped (slice_index_or bytes 0 0) ≡ true
    → escaped bytes ≡ escape_of (slice_index_or bytes 0 0) ++ escaped (drop 1 bytes)
unfolding escaped
escaped-one [] some is = absurd (omega (arith, some))
escaped-one (byte ∷ []) some is = rw is (sym (append-nil (escape_of byte)))
escaped-one (first ∷ second ∷ []) some is = rw is refl
escaped-one (first ∷ second ∷ third ∷ bytes) some is = rw is refl

-- two bytes that are a control character
pub escaped-two : (bytes : List ℕ) (code : ℕ) → is_escaped (slice_index_or bytes 0 0) ≡ false → control_of bytes ≡ Some code
    → (2 ≤ length bytes) × (escaped bytes ≡ escape_of code ++ escaped (drop 2 bytes))
unfolding escaped
escaped-two [] code not is = absurd (none-some code is)
escaped-two (byte ∷ []) code not is = absurd (none-some code is)
escaped-two (first ∷ second ∷ []) code not is =
    let (are, same) = chosen (are_control first second) second code is in
    (omega arith, rw (not, are) (ap escape_of same ∙ sym (append-nil (escape_of code))))
escaped-two (first ∷ second ∷ third ∷ bytes) code not is =
    let (are, same) = chosen (are_control first second) second code is in
    (omega arith, rw (not, are) (ap (λ (n : ℕ). escape_of n ++ escaped (third ∷ bytes)) same))

-- three bytes that are a separator
pub escaped-three : (bytes : List ℕ) (code : ℕ) → is_escaped (slice_index_or bytes 0 0) ≡ false → control_of bytes ≡ None → separator_of bytes ≡ Some code
    → (3 ≤ length bytes) × (escaped bytes ≡ escape_of code ++ escaped (drop 3 bytes))
unfolding escaped
escaped-three [] code not nor is = absurd (none-some code is)
escaped-three (byte ∷ []) code not nor is = absurd (none-some code is)
escaped-three (first ∷ second ∷ []) code not nor is = absurd (none-some code is)
escaped-three (first ∷ second ∷ third ∷ bytes) code not nor is =
    let (are, same) = chosen (are_separator first second third) (0x1F80 + third) code is in
    (omega arith, rw (not, unchosen (are_control first second) second nor, are) (ap (λ (n : ℕ). escape_of n ++ escaped bytes) same))

-- a byte that is none of these, alone or before others with which it is none
pub escaped-none : (bytes : List ℕ) → 0 < length bytes → is_escaped (slice_index_or bytes 0 0) ≡ false → control_of bytes ≡ None → separator_of bytes ≡ None
    → escaped bytes ≡ take 1 bytes ++ escaped (drop 1 bytes)
unfolding escaped
escaped-none [] some not nor neither = absurd (omega (arith, some))
escaped-none (byte ∷ []) some not nor neither = rw not refl
escaped-none (first ∷ second ∷ []) some not nor neither = rw (not, unchosen (are_control first second) second nor) refl
escaped-none (first ∷ second ∷ third ∷ bytes) some not nor neither =
    rw (not, unchosen (are_control first second) second nor, unchosen (are_separator first second third) (0x1F80 + third) neither) refl

pub rest-is : (bytes : List ℕ) (start : ℕ) → take (length bytes - start) (drop start bytes) ≡ drop start bytes
rest-is bytes start = take_all _ _ (omega (arith, length-drop start bytes))

pub escaped-nothing : escaped [] ≡ []
unfolding escaped
escaped-nothing = refl

-- bytes that no such character begins, as far as to a place, and what comes then
module _ (bytes : List ℕ) (start : ℕ) (plain : escaped bytes ≡ take start bytes ++ escaped (drop start bytes)) where
  -- one byte more
  escaped-further : escaped (drop start bytes) ≡ take 1 (drop start bytes) ++ escaped (drop 1 (drop start bytes))
      → escaped bytes ≡ take (start + 1) bytes ++ escaped (drop (start + 1) bytes)
  escaped-further next =
      plain ∙ ap (λ rest. take start bytes ++ rest) next
      ∙ sym (append_assoc (take start bytes) (take 1 (drop start bytes)) (escaped (drop 1 (drop start bytes))))
      ∙ ap (λ rest. rest ++ escaped (drop 1 (drop start bytes))) (sym (take-add start 1 bytes))
      ∙ ap (λ rest. take (start + 1) bytes ++ escaped rest) (drop-drop 1 start bytes)

  pub escaped-past : (rest : List ℕ) → rest ≡ drop start bytes → escaped rest ≡ take 1 rest ++ escaped (drop 1 rest)
      → escaped bytes ≡ take (start + 1) bytes ++ escaped (drop (start + 1) bytes)
  escaped-past rest is next = escaped-further (rw is at next)

  -- the end
  pub escaped-end : length bytes ≤ start → escaped bytes ≡ bytes
  escaped-end past = plain ∙ rw (take_all start bytes past, drop_all start bytes past, escaped-nothing) (append-nil bytes)

-- one such character more is added, after what stands before it
pub escaped-turn : (rest lines front more all : List ℕ) (code start end : ℕ) → lines ++ escaped rest ≡ all
    → escaped rest ≡ take start rest ++ escape_of code ++ escaped (drop end rest)
    → front ≡ lines ++ take start rest → more ≡ front ++ escape_of code
    → more ++ escaped (take (length rest - end) (drop end rest)) ≡ all
escaped-turn rest lines front more all code start end whole found front-is more-is =
    let plain = take start rest in
    let left = escaped (drop end rest) in
    ap (λ bytes. more ++ escaped bytes) (rest-is rest end)
    ∙ ap (λ bytes. bytes ++ left) (more-is ∙ ap (λ bytes. bytes ++ escape_of code) front-is)
    ∙ append_assoc (lines ++ plain) (escape_of code) left
    ∙ append_assoc lines plain (escape_of code ++ left)
    ∙ ap (λ bytes. lines ++ bytes) (sym (append_assoc plain (escape_of code) left) ∙ sym found)
    ∙ whole
