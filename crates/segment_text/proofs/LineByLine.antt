-- The lines that a text begins with, one after another.
use Rattle.std.proofs.Common.{◌≡◌, ℕ, suc, ◌+◌, ◌-◌, ◌<◌, Bool, true, false, List, [], ◌∷◌, ◌++◌, length, take, drop, get_or, refl, sym, ap, ◌∙◌, arith, append_assoc, append-nil, eqb-true}
use Rattle.std.proofs.Math.Seq.{take-append_seam}
use Rattle.std.proofs.lemmas.List.{drop_more, get_or-drop, length-append, length-drop, take-append-drop, take_more}
use Rattle.std.proofs.lemmas.List.Concat.{flat_map-append}
use Rattle.std.proofs.lemmas.List.Splits.{length-slice_split, slice_split_first}
use Rattle.std.proofs.lemmas.List.Sums.{length-filter, passes_at_first}
use Rattle.std.specs.List.{after_first, before_first, onto_first, position_or_len}
use Rattle.segment_text.specs.Lines.{ended_lines, is_line_feed, lines_in}
use Rattle.segment_text.specs.Size.{line_feeds}

-- ---- where the first line ends

first-by : (byte : ℕ) (bytes : List ℕ) (is : Bool) → is_line_feed byte ≡ is → (0 < line_feeds bytes → position_or_len is_line_feed bytes < length bytes)
    → 0 < line_feeds (byte ∷ bytes) → position_or_len is_line_feed (byte ∷ bytes) < length (byte ∷ bytes)
first-by byte bytes true is later some = rw is (omega arith)
first-by byte bytes false is later some = rw is (omega (arith, later (rw is at some)))

first-ends : (bytes : List ℕ) → 0 < line_feeds bytes → position_or_len is_line_feed bytes < length bytes
first-ends [] some = absurd (omega (arith, some))
first-ends (byte ∷ bytes) some = first-by byte bytes (is_line_feed byte) refl (first-ends bytes) some

count-lines : (bytes : List ℕ) → length (lines_in bytes) ≡ line_feeds bytes + 1
count-lines bytes = length-slice_split is_line_feed bytes ∙ ap (λ (n : ℕ). n + 1) (sym (length-filter is_line_feed bytes))

-- a text that ends its first line is that, a line feed, and what follows
first-joined : (bytes : List ℕ) → position_or_len is_line_feed bytes < length bytes
    → bytes ≡ (before_first is_line_feed bytes ++ 0x0A ∷ []) ++ after_first is_line_feed bytes
first-joined bytes within =
    let place : ℕ = position_or_len is_line_feed bytes in
    sym (take-append-drop place bytes)
    ∙ ap (λ (rest : List ℕ). take place bytes ++ rest)
    (drop_more bytes place 0 within ∙ ap (λ (byte : ℕ). byte ∷ drop (place + 1) bytes) (eqb-true _ _ (passes_at_first is_line_feed bytes 0 within)))
    ∙ sym (append_assoc (take place bytes) (0x0A ∷ []) (drop (place + 1) bytes))

onto-first : (byte : ℕ) (lines : List (List ℕ)) → get_or (onto_first byte lines) 0 [] ≡ byte ∷ get_or lines 0 []
onto-first byte [] = refl
onto-first byte (line ∷ lines) = refl

one-more : (n : ℕ) → 1 + n ≡ suc n
one-more n = omega arith

line-by : (byte : ℕ) (bytes : List ℕ) (is : Bool) → is_line_feed byte ≡ is → get_or (lines_in bytes) 0 [] ≡ before_first is_line_feed bytes
    → get_or (lines_in (byte ∷ bytes)) 0 [] ≡ before_first is_line_feed (byte ∷ bytes)
line-by byte bytes true is later = rw is refl
line-by byte bytes false is later =
    rw (is, one-more (position_or_len is_line_feed bytes)) (onto-first byte (lines_in bytes) ∙ ap (λ (line : List ℕ). byte ∷ line) later)

-- the first line, where a line feed ends it or not
first-line : (bytes : List ℕ) → get_or (lines_in bytes) 0 [] ≡ before_first is_line_feed bytes
first-line [] = refl
first-line (byte ∷ bytes) = line-by byte bytes (is_line_feed byte) refl (first-line bytes)

-- ---- line after line

-- a text was read up to what is left of it, behind so many lines
pub record IsBehind (text rest : List ℕ) (count : ℕ) : Type 0 where
  pub behind : lines_in rest ≡ drop count (lines_in text)
  pub before : text ≡ ended_lines (take count (lines_in text)) ++ rest

pub behind-none : (text : List ℕ) → IsBehind text text 0
behind-none text = record { behind = refl; before = refl }

module _ (text rest : List ℕ) (count : ℕ) (is : IsBehind text rest count) where
  pub behind-ends : count < line_feeds text → position_or_len is_line_feed rest < length rest
  behind-ends some =
      first-ends rest (omega (arith, count-lines rest, ap length is.behind, length-drop count (lines_in text), count-lines text))

  pub behind-more : count < line_feeds text → IsBehind text (after_first is_line_feed rest) (count + 1)
  behind-more some =
      let within = behind-ends some in
      let inside : count < length (lines_in text) = omega (arith, count-lines text) in
      let line : List ℕ = before_first is_line_feed rest in
      let next : List ℕ = get_or (lines_in text) count [] in
      let both : line ∷ lines_in (after_first is_line_feed rest) ≡ next ∷ drop (count + 1) (lines_in text) =
      sym (slice_split_first is_line_feed rest 0 within) ∙ is.behind ∙ drop_more (lines_in text) count [] inside in
      record {
        behind = ap (λ (lines : List (List ℕ)). drop 1 lines) both;
        before = is.before
            ∙ ap (λ (bytes : List ℕ). ended_lines (take count (lines_in text)) ++ bytes)
            (first-joined rest within ∙ ap (λ (lines : List (List ℕ)). (get_or lines 0 [] ++ 0x0A ∷ []) ++ after_first is_line_feed rest) both)
            ∙ sym (append_assoc (ended_lines (take count (lines_in text))) (next ++ 0x0A ∷ []) (after_first is_line_feed rest))
            ∙ ap (λ (bytes : List ℕ). bytes ++ after_first is_line_feed rest)
            (ap (λ (bytes : List ℕ). ended_lines (take count (lines_in text)) ++ bytes) (sym (append-nil (next ++ 0x0A ∷ [])))
            ∙ sym (flat_map-append (λ line. line ++ 0x0A ∷ []) (take count (lines_in text)) (next ∷ []))
            ∙ ap ended_lines (sym (take_more (lines_in text) count [] inside)));
      }

  pub behind-lines : take (length text - length rest) text ≡ ended_lines (take count (lines_in text))
  behind-lines =
      let lines : List ℕ = ended_lines (take count (lines_in text)) in
      let long : length text - length rest ≡ length lines = omega (arith, ap length is.before, length-append lines rest) in
      ap (λ (bytes : List ℕ). take (length text - length rest) bytes) is.before
      ∙ ap (λ (n : ℕ). take n (lines ++ rest)) long
      ∙ take-append_seam lines rest

  pub behind-next : before_first is_line_feed rest ≡ get_or (lines_in text) count []
  behind-next =
      sym (first-line rest)
      ∙ ap (λ (lines : List (List ℕ)). get_or lines 0 []) is.behind
      ∙ get_or-drop count (lines_in text) 0 []
      ∙ ap (λ (n : ℕ). get_or (lines_in text) n []) (omega arith)
