-- What is written of a segment whose bytes are all plain.
use Rattle.std.proofs.Common.{◌≡◌, ℕ, suc, ◌+◌, ◌-◌, ◌<◌, ◌≤◌, true, List, [], ◌∷◌, ◌++◌, length, take, drop, sym, ap, ap₂, ◌∙◌, arith, slice_index_or}
use Rattle.std.specs.List.{slice_range}
use Rattle.std.proofs.Math.Seq.{take-add}
use Rattle.std.proofs.lemmas.List.{drop_at, get_or-take, get_or-drop, length-take, take_at, take-take}
use Rattle.segment_text.specs.Escapes.{ArePlain, escaped, is_plain}
use Rattle.segment_text.proofs.Escaping.{escaped-none, escaped-nothing, plain-none}

all-plain : (bytes : List ℕ) → ((place : ℕ) → place < length bytes → is_plain (slice_index_or bytes place 0) ≡ true) → escaped bytes ≡ bytes
all-plain [] plain = escaped-nothing
all-plain (byte ∷ bytes) plain =
    let none = plain-none (byte ∷ bytes) (plain 0 (omega arith)) in
    escaped-none (byte ∷ bytes) (omega arith) none.0 none.1 none.2
    ∙ ap (λ (rest : List ℕ). byte ∷ rest) (all-plain bytes (λ place below. plain (suc place) (omega (arith, below))))

pub plain-escaped : (text : List ℕ) (from to : ℕ) → ArePlain text from to → escaped (slice_range text from to) ≡ slice_range text from to
plain-escaped text from to plain =
    all-plain (slice_range text from to) (λ place below.
    let long = length-take (to - from) (drop from text) in
    let inside : place < to - from = omega (arith, below, long) in
    ap (λ (byte : ℕ). is_plain byte) (get_or-take (to - from) (drop from text) place 0 inside ∙ get_or-drop from text place 0)
    ∙ plain (from + place) (omega arith) (omega (arith, inside)))

-- a copy of 16 bytes, cut to a segment
pub short-more : (lines text short extended cut added : List ℕ) (before start len last : ℕ) → before ≡ length lines → len ≤ 16
    → short ≡ slice_range text start (start + 16) → extended ≡ lines ++ short → cut ≡ take (before + len) extended → added ≡ cut ++ last ∷ []
    → added ≡ lines ++ slice_range text start (start + len) ++ last ∷ []
short-more lines text short extended cut added before start len last before-is fits short-is extended-is cut-is added-is =
    let at : (start + 16) - start ≡ 16 = omega arith in
    let to : len ≡ (start + len) - start = omega arith in
    let beginning : take len short ≡ slice_range text start (start + len) =
    ap (λ (bytes : List ℕ). take len bytes) (short-is ∙ ap (λ (n : ℕ). take n (drop start text)) at)
    ∙ take-take len 16 (drop start text) fits
    ∙ ap (λ (n : ℕ). take n (drop start text)) to in
    let kept : take (before + len) (lines ++ short) ≡ lines ++ take len short =
    take-add before len (lines ++ short)
    ∙ ap₂ (λ (front back : List ℕ). front ++ back) (take_at lines short before (sym before-is)) (ap (λ (bytes : List ℕ). take len bytes) (drop_at lines short before (sym before-is))) in
    added-is
    ∙ ap (λ (bytes : List ℕ). bytes ++ last ∷ []) (cut-is ∙ ap (λ (bytes : List ℕ). take (before + len) bytes) extended-is ∙ kept ∙ ap (λ (bytes : List ℕ). lines ++ bytes) beginning)
