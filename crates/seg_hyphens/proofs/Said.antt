-- What was read of lines.
use Rattle.std.proofs.Common.{◌≡◌, ℕ, ◌+◌, ◌-◌, ◌/◌, ◌%◌, ◌<◌, ◌≤◌, ◌==◌, true, false, cond, Some, None, List, [], ◌∷◌, ◌++◌, length, get_or, take, drop, map, fold, refl, sym, subst, ◌∙◌, ap, arith, append_assoc, add-one, drop-cons}
use Rattle.std.proofs.lemmas.Bool.Decides.{nat_tests}
use Rattle.std.proofs.lemmas.Grind.{flat_map-append}
use Rattle.std.proofs.lemmas.List.{append-nil, length-append, take_more}
use Rattle.std.proofs.lemmas.List.Sums.{fold-append}
use Rattle.std.proofs.Math.ListN.{drop_of_length-le}
use Rattle.std.proofs.lemmas.Str.{encodes-append}
use Rattle.std.specs.Char.{is_ascii_digit}
use Rattle.std.specs.List.{after_first, before_first, flat_map}
use Rattle.seg_hyphens.specs.declared.reading.Reader.{Reader}
use Rattle.seg_hyphens.specs.declared.lines.LineKind.TheVariants.{Faulty}
use Rattle.seg_hyphens.specs.declared.fault.Fault.{Fault}
use Rattle.seg_hyphens.specs.declared.fault.Fault.TheVariants.{NotEncoding}
use Rattle.seg_hyphens.specs.declared.patterns.HyphenationPatterns.{HyphenationPatterns}
use Rattle.seg_hyphens.specs.declared.places.Minima.{Minima}
use Rattle.std.specs.Option.{option_map_or}
use Rattle.seg_hyphens.specs.Liang.{Hyphenation, Pattern}
use Rattle.seg_hyphens.specs.Patterns.{Means}
use Rattle.seg_hyphens.specs.declared.fault.HyphenationError.{HyphenationError}
use Rattle.seg_hyphens.specs.declared.fault.HyphenationError.TheVariants.{Memory, Text}
use Rattle.seg_hyphens.specs.declared.lines.Encoding.{Encoding}
use Rattle.seg_hyphens.specs.declared.trie.Trie.{Trie}
use Rattle.seg_hyphens.specs.Reading.{IsLineError, IsLinesError, Reads, ReadsAll}
use Rattle.seg_hyphens.proofs.Growing.{keeps-more}
use Rattle.seg_hyphens.proofs.Splitting.{after-shorter, lines-first, lines-none, lines-some}
use Rattle.seg_hyphens.specs.Texts.{IsErrorOf, Says, decoded, encoding_of, fault_by, fault_in, first_fault, hyphenation_of, kind_of, left_by, lines, trimmed, pattern_of, patterns_by, right_by, text_encoding, text_lines, with_letter}
use Rattle.seg_hyphens.specs.Tries.{Adds, IsSound, IsTrie, Keeps}
use lib.Dec.{ltb}
use lib.Utf8.{encode, encodes}

-- ---- Latin-1

pub encode-latin1 : (byte : ℕ) → 128 ≤ byte → byte < 256 → encode byte ≡ (192 + byte / 64) ∷ (128 + byte % 64) ∷ []
unfolding encode
encode-latin1 byte h l =
    let low : ltb byte 128 ≡ false = grind (arith, nat_tests) in
    let small : ltb byte 2048 ≡ true = grind (arith, nat_tests) in
    rw (low, small) refl

pub encodes-more : (line : List ℕ) (i : ℕ) → i < length line → encodes (take i line) ++ encode (get_or line i 0) ≡ encodes (take (i + 1) line)
encodes-more line i h =
    ap (λ xs. encodes (take i line) ++ xs) (sym (append-nil (encode (get_or line i 0))))
    ∙ sym (encodes-append (take i line) (get_or line i 0 ∷ [])) ∙ ap encodes (sym (take_more line i 0 h))

-- ---- a pattern, byte by byte

drop-more : (line : List ℕ) (i : ℕ) → i < length line → drop i line ≡ get_or line i 0 ∷ drop (i + 1) line
drop-more line i h = rw (add-one, drop-cons line i 0) refl

pub pattern-digit : (line : List ℕ) (i digit : ℕ) → i < length line → is_ascii_digit (get_or line i 0) ≡ true
    → pattern_of digit (drop i line) ≡ pattern_of (get_or line i 0 - 48) (drop (i + 1) line)
unfolding pattern_of
pattern-digit line i digit h e = ap (pattern_of digit) (drop-more line i h) ∙ by (get_or line i 0) (drop (i + 1) line) e where
  by : (byte : ℕ) (bytes : List ℕ) → is_ascii_digit byte ≡ true → pattern_of digit (byte ∷ bytes) ≡ pattern_of (byte - 48) bytes
  by byte bytes e = ap (λ b. cond b (pattern_of (byte - 48) bytes) (with_letter digit byte (pattern_of 0 bytes))) e

pub pattern-letter : (line : List ℕ) (i digit : ℕ) → i < length line → is_ascii_digit (get_or line i 0) ≡ false
    → pattern_of digit (drop i line) ≡ with_letter digit (get_or line i 0) (pattern_of 0 (drop (i + 1) line))
unfolding pattern_of
pattern-letter line i digit h e = ap (pattern_of digit) (drop-more line i h) ∙ by (get_or line i 0) (drop (i + 1) line) e where
  by : (byte : ℕ) (bytes : List ℕ) → is_ascii_digit byte ≡ false → pattern_of digit (byte ∷ bytes) ≡ with_letter digit byte (pattern_of 0 bytes)
  by byte bytes e = ap (λ b. cond b (pattern_of (byte - 48) bytes) (with_letter digit byte (pattern_of 0 bytes))) e

-- letters and digits that were read, and a pattern that is left
pub record IsPartly (line letters digits : List ℕ) (digit i : ℕ) : Type 0 where
  pub letters_are : letters ++ (pattern_of digit (drop i line)).letters ≡ (pattern_of 0 line).letters
  pub digits_are : digits ++ (pattern_of digit (drop i line)).digits ≡ (pattern_of 0 line).digits

pub partly-digit : (line letters digits letters' digits' : List ℕ) (digit i next : ℕ) → IsPartly line letters digits digit i → i < length line
    → is_ascii_digit (get_or line i 0) ≡ true → letters' ≡ letters → digits' ≡ digits → next ≡ get_or line i 0 - 48 → IsPartly line letters' digits' next (i + 1)
partly-digit line letters digits letters' digits' digit i next p h e l d n =
    let same : pattern_of digit (drop i line) ≡ pattern_of next (drop (i + 1) line) = pattern-digit line i digit h e ∙ ap (λ d. pattern_of d (drop (i + 1) line)) (sym n) in
    record {
      letters_are = ap (λ xs. xs ++ (pattern_of next (drop (i + 1) line)).letters) l ∙ ap (λ (q : Pattern). letters ++ q.letters) (sym same) ∙ p.letters_are;
      digits_are = ap (λ xs. xs ++ (pattern_of next (drop (i + 1) line)).digits) d ∙ ap (λ (q : Pattern). digits ++ q.digits) (sym same) ∙ p.digits_are;
    }

pub partly-letter : (line letters digits letters' digits' : List ℕ) (digit i next : ℕ) → IsPartly line letters digits digit i → i < length line
    → is_ascii_digit (get_or line i 0) ≡ false → letters' ≡ letters ++ get_or line i 0 ∷ [] → digits' ≡ digits ++ digit ∷ [] → next ≡ 0
    → IsPartly line letters' digits' next (i + 1)
partly-letter line letters digits letters' digits' digit i next p h e l d n =
    let same : pattern_of digit (drop i line) ≡ with_letter digit (get_or line i 0) (pattern_of next (drop (i + 1) line)) =
    pattern-letter line i digit h e ∙ ap (λ k. with_letter digit (get_or line i 0) (pattern_of k (drop (i + 1) line))) (sym n) in
    record {
      letters_are = ap (λ xs. xs ++ (pattern_of next (drop (i + 1) line)).letters) l ∙ append_assoc letters (get_or line i 0 ∷ []) (pattern_of next (drop (i + 1) line)).letters
          ∙ ap (λ (q : Pattern). letters ++ q.letters) (sym same) ∙ p.letters_are;
      digits_are = ap (λ xs. xs ++ (pattern_of next (drop (i + 1) line)).digits) d ∙ append_assoc digits (digit ∷ []) (pattern_of next (drop (i + 1) line)).digits
          ∙ ap (λ (q : Pattern). digits ++ q.digits) (sym same) ∙ p.digits_are;
    }

pub partly-all : (line letters digits pushed : List ℕ) (digit i : ℕ) → IsPartly line letters digits digit i → length line ≤ i → pushed ≡ digits ++ digit ∷ []
    → (letters ≡ (pattern_of 0 line).letters) × (pushed ≡ (pattern_of 0 line).digits)
unfolding pattern_of
partly-all line letters digits pushed digit i p h e =
    let none : drop i line ≡ [] = drop_of_length-le line h in
    let same : pattern_of digit (drop i line) ≡ record { letters = []; digits = digit ∷ [] } = ap (pattern_of digit) none in (
      sym (append-nil letters) ∙ ap (λ (q : Pattern). letters ++ q.letters) (sym same) ∙ p.letters_are,
      e ∙ ap (λ (q : Pattern). digits ++ q.digits) (sym same) ∙ p.digits_are,
    )

-- ---- lines

pub reads-none : (reader : Reader) → IsTrie reader.trie → ReadsAll reader reader []
reads-none reader is = record {
  is = is;
  faultless = λ later. refl;
  left = refl;
  right = refl;
  keeps = λ patterns k. subst (Keeps reader.trie) (sym (append-nil patterns)) k;
}

module _ (old mid new : Reader) (done : List (List ℕ)) (line : List ℕ) (all : ReadsAll old mid done) (one : Reads mid new line) where
  pub reads-more : ReadsAll old new (done ++ line ∷ [])
  unfolding first_fault
  reads-more = record {
    is = one.is;
    faultless = λ later.
        ap (first_fault 2) (append_assoc done (line ∷ []) later) ∙ all.faultless (line ∷ later)
        ∙ one.faultless (length done + 2) (first_fault (length done + 2 + 1) later)
        ∙ ap (λ n. first_fault n later) (omega (arith, length-append done (line ∷ [])));
    left = one.left ∙ ap (λ n. left_by n (kind_of line)) all.left ∙ sym (fold-append (λ before l. left_by before (kind_of l)) old.minima.left done (line ∷ []));
    right = one.right ∙ ap (λ n. right_by n (kind_of line)) all.right ∙ sym (fold-append (λ before l. right_by before (kind_of l)) old.minima.right done (line ∷ []));
    keeps = λ patterns k.
        subst (Keeps new.trie) (append_assoc patterns (flat_map (λ l. patterns_by l (kind_of l)) done) (patterns_by line (kind_of line))
        ∙ ap (λ ps. patterns ++ ps) (ap (λ ps. flat_map (λ l. patterns_by l (kind_of l)) done ++ ps) (sym (append-nil (patterns_by line (kind_of line))))
        ∙ sym (flat_map-append (λ l. patterns_by l (kind_of l)) done (line ∷ []))))
        (one.keeps (patterns ++ flat_map (λ l. patterns_by l (kind_of l)) done) (all.keeps patterns k));
  }

pub fault-first : (old mid : Reader) (done more : List (List ℕ)) (line : List ℕ) (at : ℕ) (fault : Fault) → ReadsAll old mid done
    → at ≡ length done + 2 → kind_of line ≡ Faulty fault → first_fault 2 (done ++ line ∷ more) ≡ Some (at, fault)
unfolding first_fault
fault-first old mid done more line at fault all n e =
    all.faultless (line ∷ more) ∙ ap (λ k. fault_by (length done + 2) k (first_fault (length done + 2 + 1) more)) e ∙ ap (λ m. Some (m, fault)) (sym n)

pub keeps-pattern : (old new : Trie) (patterns : List Pattern) (line letters digits : List ℕ) → Adds old new letters digits
    → letters ≡ (pattern_of 0 line).letters → digits ≡ (pattern_of 0 line).digits → Keeps old patterns → Keeps new (patterns ++ pattern_of 0 line ∷ [])
keeps-pattern old new patterns line letters digits a l d k =
    let adds : Adds old new (pattern_of 0 line).letters (pattern_of 0 line).digits =
    subst (λ ds. Adds old new (pattern_of 0 line).letters ds) d (subst (λ ls. Adds old new ls digits) l a) in
    keeps-more old new patterns (pattern_of 0 line).letters (pattern_of 0 line).digits adds k

-- lines that were read, and others that are left
pub record IsReading (old new : Reader) (encoding : Encoding) (text rest : List ℕ) (number : ℕ) : Type 0 where
  pub done : List (List ℕ)
  pub split : map (λ line. decoded encoding (trimmed line)) (lines text) ≡ done ++ map (λ line. decoded encoding (trimmed line)) (lines rest)
  pub at : number ≡ length done + 1
  pub read : ReadsAll old new done
  pub room : number + length rest ≤ length text + 1

pub reading-none : (reader : Reader) (encoding : Encoding) (text : List ℕ) → IsTrie reader.trie → IsReading reader reader encoding text text 1
reading-none reader encoding text is = record { done = []; split = refl; at = refl; read = reads-none reader is; room = omega arith }

module _ (old mid : Reader) (encoding : Encoding) (text rest first others : List ℕ) (number : ℕ) (r : IsReading old mid encoding text rest number)
    (some : 0 < length rest) (firsts : first ≡ before_first (λ byte. byte == 10) rest) (are : others ≡ after_first (λ byte. byte == 10) rest) where
  all : List (List ℕ)
  all = map (λ line. decoded encoding (trimmed line)) (lines text)

  left : map (λ line. decoded encoding (trimmed line)) (lines rest) ≡ decoded encoding (trimmed first) ∷ map (λ line. decoded encoding (trimmed line)) (lines others)
  left =
      ap (map (λ line. decoded encoding (trimmed line))) (lines-some rest some)
      ∙ ap (λ l. decoded encoding (trimmed l) ∷ map (λ line. decoded encoding (trimmed line)) (lines (after_first (λ byte. byte == 10) rest))) (sym firsts)
      ∙ ap (λ o. decoded encoding (trimmed first) ∷ map (λ line. decoded encoding (trimmed line)) (lines o)) (sym are)

  pub reading-shorter : length others < length rest
  reading-shorter = omega (arith, ap length are, after-shorter rest some)

  pub reading-more : (new : Reader) → Reads mid new (decoded encoding (trimmed first)) → IsReading old new encoding text others (number + 1)
  reading-more new one = record {
    done = r.done ++ decoded encoding (trimmed first) ∷ [];
    split = r.split ∙ ap (λ xs. r.done ++ xs) left
        ∙ sym (append_assoc r.done (decoded encoding (trimmed first) ∷ []) (map (λ line. decoded encoding (trimmed line)) (lines others)));
    at = omega (arith, r.at, length-append r.done (decoded encoding (trimmed first) ∷ []));
    read = reads-more old mid new r.done (decoded encoding (trimmed first)) r.read one;
    room = omega (arith, r.room, reading-shorter);
  }

  pub reading-fault : (error : HyphenationError) → IsLineError (number + 1) (decoded encoding (trimmed first)) error
      → IsLinesError (map (λ line. decoded encoding (trimmed line)) (lines text)) error
  reading-fault Memory h = h
  reading-fault (Text at fault) h =
      ap (first_fault 2) (r.split ∙ ap (λ xs. r.done ++ xs) left)
      ∙ fault-first old mid r.done (map (λ line. decoded encoding (trimmed line)) (lines others)) (decoded encoding (trimmed first)) at fault r.read
      (omega (arith, h.0, r.at)) h.1

pub reading-all : (old new : Reader) (encoding : Encoding) (text rest : List ℕ) (number : ℕ) → IsReading old new encoding text rest number → length rest ≡ 0
    → ReadsAll old new (map (λ line. decoded encoding (trimmed line)) (lines text))
reading-all old new encoding text rest number r none =
    let same : r.done ≡ map (λ line. decoded encoding (trimmed line)) (lines text) =
    sym (append-nil r.done) ∙ ap (λ xs. r.done ++ map (λ line. decoded encoding (trimmed line)) xs) (sym (lines-none rest none)) ∙ sym r.split in
    subst (ReadsAll old new) same r.read

-- ---- a text

pub sound-trie : (trie : Trie) → IsTrie trie → IsSound trie
sound-trie trie is = record { some = is.some; known = is.known; range = is.range }

module _ (text first rest : List ℕ) (firsts : first ≡ before_first (λ byte. byte == 10) text) (are : rest ≡ after_first (λ byte. byte == 10) text) where
  encoding-by : (all : List ℕ) → all ≡ text → text_encoding (lines all) ≡ encoding_of (trimmed (before_first (λ byte. byte == 10) all))
  unfolding lines
  encoding-by [] e = refl
  encoding-by (byte ∷ bytes) e = ap text_encoding (lines-first byte bytes)

  named : text_encoding (lines text) ≡ encoding_of (trimmed first)
  named = encoding-by text refl ∙ ap (λ l. encoding_of (trimmed l)) (sym firsts)

  others-by : (all : List ℕ) → drop 1 (lines all) ≡ lines (after_first (λ byte. byte == 10) all)
  unfolding lines
  others-by [] = refl
  others-by (byte ∷ bytes) = ap (drop 1) (lines-first byte bytes)

  left-lines : (encoding : Encoding) → text_lines encoding (lines text) ≡ map (λ line. decoded encoding (trimmed line)) (lines rest)
  left-lines encoding =
      ap (map (λ line. decoded encoding (trimmed line))) (others-by text) ∙ ap (λ r. map (λ line. decoded encoding (trimmed line)) (lines r)) (sym are)

  pub fault-encoding : encoding_of (trimmed first) ≡ None → fault_in text ≡ Some (1, NotEncoding)
  fault-encoding h =
      ap (λ o. option_map_or (λ encoding. first_fault 2 (text_lines encoding (lines text))) o (Some (1, NotEncoding))) (named ∙ h)

  module _ (encoding : Encoding) (is : encoding_of (trimmed first) ≡ Some encoding) where
    pub fault-lines : fault_in text ≡ first_fault 2 (map (λ line. decoded encoding (trimmed line)) (lines rest))
    fault-lines =
        ap (λ o. option_map_or (λ e. first_fault 2 (text_lines e (lines text))) o (Some (1, NotEncoding))) (named ∙ is) ∙ ap (first_fault 2) (left-lines encoding)

    pub error-of : (error : HyphenationError) → IsLinesError (map (λ line. decoded encoding (trimmed line)) (lines rest)) error → IsErrorOf text error
    error-of Memory h = h
    error-of (Text at fault) h = fault-lines ∙ h

    module _ (old new : Reader) (read : ReadsAll old new (map (λ line. decoded encoding (trimmed line)) (lines rest))) where
      pub no-fault : fault_in text ≡ None
      unfolding first_fault
      no-fault =
          fault-lines ∙ ap (first_fault 2) (sym (append-nil (map (λ line. decoded encoding (trimmed line)) (lines rest)))) ∙ read.faultless []

      pub means : (patterns : HyphenationPatterns) → Keeps old.trie [] → old.minima.left ≡ 2 → old.minima.right ≡ 2
          → patterns.trie ≡ new.trie → patterns.minima ≡ new.minima → (hyphenation : Hyphenation) × (Says text hyphenation × Means patterns hyphenation)
      means patterns none lefts rights trie minima = (
        hyphenation_of (text_lines encoding (lines text)),
        (
          (encoding, (named ∙ is, refl)),
          record {
            keeps = subst (λ t. Keeps t (hyphenation_of (text_lines encoding (lines text))).patterns) (sym trie)
                (subst (λ l. Keeps new.trie (hyphenation_of l).patterns) (sym (left-lines encoding)) (read.keeps [] none));
            left = ap (λ l. (hyphenation_of l).left) (left-lines encoding)
                ∙ ap (λ n. fold (λ before line. left_by before (kind_of line)) n (map (λ line. decoded encoding (trimmed line)) (lines rest))) (sym lefts)
                ∙ sym read.left ∙ ap (λ (m : Minima). m.left) (sym minima);
            right = ap (λ l. (hyphenation_of l).right) (left-lines encoding)
                ∙ ap (λ n. fold (λ before line. right_by before (kind_of line)) n (map (λ line. decoded encoding (trimmed line)) (lines rest))) (sym rights)
                ∙ sym read.right ∙ ap (λ (m : Minima). m.right) (sym minima);
          },
        ),
      )
