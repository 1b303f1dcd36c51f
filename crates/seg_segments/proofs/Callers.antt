-- What a caller's proof needs of the iterators.
use Rattle.std.proofs.Common.{◌≡◌, ℕ, zero, suc, ◌≤◌, List, [], ◌∷◌, length, map, refl, sym, subst, ◌∙◌, ap, arith}
use Rattle.std.proofs.lemmas.List.{length-map}
use Rattle.std.proofs.lemmas.Option.{get_or_from_slice_get, slice_get_within}
use Rattle.std.specs.Prelude.{Option, None, Some, All, MatchOption, slice_get}
use Rattle.std.specs.Iterator.{YieldsFirst, YieldsFirstBy, Yields, SkipsThenYields, Drains, DrainsIf}
use Rattle.std.specs.List.{last_or}
use Rattle.std.specs.Option.{option_map}
use Rattle.std.specs.Str.{IsCharBoundary, IsUtf8}
use Rattle.seg_text.specs.declared.boundary.Boundary.{Boundary}
use Rattle.seg_text.specs.Boundaries.{boundaries_in}
use Rattle.seg_text.specs.Items.{Text}
use Rattle.seg_text.specs.Decoding.{utf8}
use Rattle.seg_data.specs.ScriptWords.{ScriptWords, AreSameWords}
use Rattle.seg_words.specs.WordRules.{WordRules, with_words, word_boundaries_of}
use Rattle.seg_words.proofs.ByRules.{equal-words}
use Rattle.seg_lines.specs.LineBreaks.{LineRules, line_boundaries_of, lines_with_words}
use Rattle.seg_lines.proofs.LineLaws.{equal-words as equal-line-words}
use Rattle.seg_segments.specs.TextSegments.{IsPlace}
use Rattle.seg_segments.proofs.Cutting.{place-boundary}
pub use Rattle.seg_segments.proofs.Nearest.{has-cases, has-none}

-- ---- what an iterator gives up to its end

-- it is the list that it had left
pub given-is_left : {S A : Type 0} (left : S → List A) (s : S) (given : List A) → Drains (YieldsFirst left) s given → given ≡ left s
given-is_left left s [] (end, (last, is_last, stops)) = sym (ap left is_last ∙ stops.0)
given-is_left left s (x ∷ xs) (end, (last, (next, gives, more), stops)) =
    ap (λ rest. x ∷ rest) (given-is_left left next xs (end, (last, more, stops))) ∙ sym gives

-- what an iterator gives, where the list has what `view` reads of each item
module _ {S A B : Type 0} (view : A → B) (left : S → List B) where
  pub read-is_left : (s : S) (given : List A) → Drains (YieldsFirstBy view left) s given → map view given ≡ left s
  read-is_left s [] (end, (last, is_last, stops)) = sym (ap left is_last ∙ stops.0)
  read-is_left s (x ∷ xs) (end, (last, (next, gives, more), stops)) =
      ap (λ (rest : List B). view x ∷ rest) (read-is_left next xs (end, (last, more, stops))) ∙ sym gives

  -- so `collect` collects it
  pub collect-is_left : (s : S) (items given : List A) → DrainsIf (YieldsFirstBy view left) (Unit {0}) s given → items ≡ given → map view items ≡ left s
  collect-is_left s items given all same = ap (map view) same ∙ read-is_left s given ((all.2 tt).0, (all.0, all.1, (all.2 tt).1))

  -- `count` counts it
  pub count-is_left : (s : S) (given : List A) → Drains (YieldsFirstBy view left) s given → length given ≡ length (left s)
  count-is_left s given all = sym (length-map given view) ∙ ap length (read-is_left s given all)

  last-read : (before : Option A) (given : List A) → option_map view (last_or before given) ≡ last_or (option_map view before) (map view given)
  last-read before [] = refl
  last-read before (x ∷ xs) = last-read (Some x) xs

  -- and `last` gives its last
  pub last-is_left : (s : S) (given : List A) → Drains (YieldsFirstBy view left) s given → option_map view (last_or None given) ≡ last_or None (left s)
  last-is_left s given all = last-read None given ∙ ap (last_or None) (read-is_left s given all)

  nth-read : (xs : List A) (s t end : S) (n : ℕ) (given : Option A) → Yields (YieldsFirstBy view left) s xs t → YieldsFirstBy view left t given end
      → MatchOption given (length xs ≤ n) (λ _. length xs ≡ n) → option_map view given ≡ slice_get (left s) n
  nth-read [] s t end n None is gives few = sym (rw (ap left is ∙ gives.0) refl)
  nth-read [] s t end zero (Some x) is gives few = sym (rw (ap left is ∙ gives) refl)
  nth-read [] s t end (suc n) (Some x) is gives few = absurd (omega (arith, few))
  nth-read (x ∷ xs) s t end zero None more gives few = absurd (omega (arith, few))
  nth-read (x ∷ xs) s t end zero (Some y) more gives few = absurd (omega (arith, few))
  nth-read (x ∷ xs) s t end (suc n) None more gives few =
      nth-read xs more.0 t end n None more.2 gives (omega (arith, few)) ∙ sym (rw more.1 refl)
  nth-read (x ∷ xs) s t end (suc n) (Some y) more gives few =
      nth-read xs more.0 t end n (Some y) more.2 gives (omega (arith, few)) ∙ sym (rw more.1 refl)

  -- and `nth` gives what stands there
  pub nth-is_left : (s end : S) (n : ℕ) (given : Option A) → SkipsThenYields (YieldsFirstBy view left) s n given end → option_map view given ≡ slice_get (left s) n
  nth-is_left s end n given skips = nth-read skips.0 s skips.1.0 end n given skips.1.1 skips.1.2 skips.2

-- ---- places

-- where a segment begins a `str` may be cut
pub segment-boundary : (text : List ℕ) (indices : List (ℕ × List ℕ)) (n : ℕ) (segment : ℕ × List ℕ) → IsUtf8 text
    → All (λ (segment : ℕ × List ℕ). IsPlace (utf8 text) segment.0) indices → slice_get indices n ≡ Some segment → IsCharBoundary text segment.0
segment-boundary text indices n segment whole places is =
    place-boundary text segment.0 whole (subst (λ (one : ℕ × List ℕ). IsPlace (utf8 text) one.0) (get_or_from_slice_get indices n segment segment is) (places n segment (slice_get_within indices n segment is)))

-- ---- dictionaries

-- the words of each script are a set, in which their order and repetitions change no boundary
pub words-are-sets : (words : WordRules) (others : ScriptWords) → AreSameWords words.payloads.words others
    → (text : Text) → word_boundaries_of (with_words words others) text ≡ word_boundaries_of words text
words-are-sets words others same text =
    ap (λ (boundaries : List ℕ → List Boundary). boundaries_in boundaries text) (equal-words words others same)

pub line-words-are-sets : (rules : LineRules) (others : ScriptWords) → AreSameWords rules.payloads.words others
    → (text : Text) → line_boundaries_of (lines_with_words rules others) text ≡ line_boundaries_of rules text
line-words-are-sets rules others same text =
    ap (λ (boundaries : List ℕ → List Boundary). boundaries_in boundaries text) (equal-line-words rules others same)
