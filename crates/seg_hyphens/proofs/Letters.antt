-- Characters and their bytes.
use Rattle.std.proofs.Common.{◌≡◌, ℕ, ◌+◌, ◌-◌, ◌/◌, ◌%◌, ◌<◌, ◌≤◌, ◌⊎◌, inl, inr, Bool, true, false, ◌&&◌, cond, nat_lt, List, [], ◌∷◌, ◌++◌, length, get_or, take, drop, replicate, zero, suc, refl, sym, ap, ◌∙◌, arith, append_assoc, count_by}
use Rattle.std.proofs.lemmas.Bool.Decides.{nat_tests}
use Rattle.std.proofs.lemmas.Grind.{common_steps}
use Rattle.std.proofs.lemmas.List.{length-append, get_or_append_left, get_or-append-add, get_or-append_right, take-append-drop, length-take, length-drop, length-replicate, get_or-drop, get_or-take, get_or-replicate, take-take, drop-take}
use Rattle.std.proofs.lemmas.List.Sums.{sum_by-append}
use Rattle.std.proofs.Math.Seq.{drop-append_seam, take-append_seam}
use Rattle.std.proofs.lemmas.Str.{encode_ascii, encode_same, encodes-append}
use Rattle.std.specs.Char.{is_ascii_digit}
use Rattle.std.specs.List.{list_all}
use Rattle.seg_hyphens.specs.Characters.{IsWhole, byte_digits, in_bytes}
use Rattle.seg_hyphens.specs.Liang.{Pattern, characters, is_first}
use Rattle.seg_hyphens.specs.Texts.{pattern_of, with_letter}
use Rattle.seg_hyphens.proofs.Raising.{below-or}
use lib.Dec.{ltb}
use lib.Utf8.{encode, encodes}

-- the bytes of a character: one that begins it, and others that don't
pub record IsCharacter (bytes : List ℕ) : Type 0 where
  pub first : ℕ
  pub rest : List ℕ
  pub are : bytes ≡ first ∷ rest
  pub begins : is_first first ≡ true
  pub inner : (k : ℕ) → k < length rest → is_first (get_or rest k 0) ≡ false
  pub none : count_by is_first rest ≡ 0

low : (b : ℕ) → b < 128 → is_first b ≡ true
low b h = grind (arith, nat_tests)

high : (b : ℕ) → 192 ≤ b → is_first b ≡ true
high b h = grind (arith, nat_tests)

inside : (b : ℕ) → b < 64 → is_first (128 + b) ≡ false
inside b h = grind (arith, nat_tests)

one-count : (b : ℕ) → is_first b ≡ false → count_by is_first (b ∷ []) ≡ 0
one-count b h = let e : cond {A = ℕ} (is_first b) 1 0 ≡ 0 = ap (λ t. cond {A = ℕ} t 1 0) h in omega (arith, e)

two-count : (a b : ℕ) → is_first a ≡ false → is_first b ≡ false → count_by is_first (a ∷ b ∷ []) ≡ 0
two-count a b h k = grind (arith, common_steps)

three-count : (a b c : ℕ) → is_first a ≡ false → is_first b ≡ false → is_first c ≡ false → count_by is_first (a ∷ b ∷ c ∷ []) ≡ 0
three-count a b c h k l = grind (arith, common_steps)

one-inner : (b : ℕ) → is_first b ≡ false → (k : ℕ) → k < 1 → is_first (get_or (b ∷ []) k 0) ≡ false
one-inner b h zero l = h
one-inner b h (suc k) l = absurd (omega (arith, l))

two-inner : (a b : ℕ) → is_first a ≡ false → is_first b ≡ false → (k : ℕ) → k < 2 → is_first (get_or (a ∷ b ∷ []) k 0) ≡ false
two-inner a b h i zero l = h
two-inner a b h i (suc zero) l = i
two-inner a b h i (suc (suc k)) l = absurd (omega (arith, l))

three-inner : (a b c : ℕ) → is_first a ≡ false → is_first b ≡ false → is_first c ≡ false → (k : ℕ) → k < 3 → is_first (get_or (a ∷ b ∷ c ∷ []) k 0) ≡ false
three-inner a b c h i j zero l = h
three-inner a b c h i j (suc zero) l = i
three-inner a b c h i j (suc (suc zero)) l = j
three-inner a b c h i j (suc (suc (suc k))) l = absurd (omega (arith, l))

small : (x : ℕ) → x % 64 < 64
small x = omega arith

character-by : (c : ℕ) (t u v : Bool) → ltb c 128 ≡ t
    → IsCharacter (cond t (c ∷ []) (cond u ((192 + c / 64) ∷ (128 + c % 64) ∷ []) (cond v ((224 + c / 4096) ∷ (128 + c / 64 % 64) ∷ (128 + c % 64) ∷ []) ((240 + c / 262144) ∷ (128 + c / 4096 % 64) ∷ (128 + c / 64 % 64) ∷ (128 + c % 64) ∷ []))))
character-by c true u v e = record {
  first = c;
  rest = [];
  are = refl;
  begins = low c (grind (arith, nat_tests));
  inner = λ k h. absurd (omega (arith, h));
  none = refl;
}
character-by c false true v e =
    let a = inside (c % 64) (small c) in
    record { first = 192 + c / 64; rest = (128 + c % 64) ∷ []; are = refl; begins = high (192 + c / 64) (omega arith); inner = one-inner (128 + c % 64) a; none = one-count (128 + c % 64) a }
character-by c false false true e =
    let a = inside (c / 64 % 64) (small (c / 64)) in
    let b = inside (c % 64) (small c) in
    record {
      first = 224 + c / 4096;
      rest = (128 + c / 64 % 64) ∷ (128 + c % 64) ∷ [];
      are = refl;
      begins = high (224 + c / 4096) (omega arith);
      inner = two-inner (128 + c / 64 % 64) (128 + c % 64) a b;
      none = two-count (128 + c / 64 % 64) (128 + c % 64) a b;
    }
character-by c false false false e =
    let a = inside (c / 4096 % 64) (small (c / 4096)) in
    let b = inside (c / 64 % 64) (small (c / 64)) in
    let d = inside (c % 64) (small c) in
    record {
      first = 240 + c / 262144;
      rest = (128 + c / 4096 % 64) ∷ (128 + c / 64 % 64) ∷ (128 + c % 64) ∷ [];
      are = refl;
      begins = high (240 + c / 262144) (omega arith);
      inner = three-inner (128 + c / 4096 % 64) (128 + c / 64 % 64) (128 + c % 64) a b d;
      none = three-count (128 + c / 4096 % 64) (128 + c / 64 % 64) (128 + c % 64) a b d;
    }

pub character : (c : ℕ) → IsCharacter (encode c)
unfolding encode
character c = character-by c (ltb c 128) (ltb c 2048) (ltb c 65536) refl

weight : ℕ → ℕ
weight b = cond (is_first b) 1 0

count-one : (bytes : List ℕ) → IsCharacter bytes → count_by is_first bytes ≡ 1
count-one bytes i =
    let weighs : cond {A = ℕ} (is_first i.first) 1 0 ≡ 1 = ap (λ t. cond {A = ℕ} t 1 0) i.begins in
    let one : count_by is_first (i.first ∷ []) ≡ 1 = omega (arith, weighs) in
    ap (count_by is_first) i.are ∙ sum_by-append (λ b. cond (is_first b) 1 0) (i.first ∷ []) i.rest ∙ omega (arith, one, i.none)

some-bytes : (c : ℕ) → 0 < length (encode c)
some-bytes c = omega (arith, ap length (character c).are)

length-encodes : (cs : List ℕ) → length cs ≤ length (encodes cs)
length-encodes [] = omega arith
length-encodes (c ∷ cs) = omega (arith, length-encodes cs, some-bytes c, length-append (encode c) (encodes cs))

pub characters-encodes : (cs : List ℕ) → characters (encodes cs) ≡ length cs
characters-encodes [] = refl
characters-encodes (c ∷ cs) =
    sum_by-append (λ b. cond (is_first b) 1 0) (encode c) (encodes cs) ∙ omega (arith, count-one (encode c) (character c), characters-encodes cs)

-- ---- where characters begin

inner-byte : (c k : ℕ) → 0 < k → k < length (encode c) → is_first (get_or (encode c) k 0) ≡ false
inner-byte c zero h l = absurd (omega (arith, h))
inner-byte c (suc k) h l =
    let i = character c in
    ap (λ xs. is_first (get_or xs (suc k) 0)) i.are ∙ i.inner k (omega (arith, l, ap length i.are))

boundary-by : (c : ℕ) (cs : List ℕ) (s : ℕ) → 0 < s → s < length (encode c ++ encodes cs) → is_first (get_or (encode c ++ encodes cs) s 0) ≡ true
    → (s < length (encode c)) ⊎ (length (encode c) ≤ s)
    → ((t : ℕ) → t < length (encodes cs) → is_first (get_or (encodes cs) t 0) ≡ true → (n : ℕ) × (n < length cs) × (t ≡ length (encodes (take n cs))))
    → (n : ℕ) × (n < length (c ∷ cs)) × (s ≡ length (encodes (take n (c ∷ cs))))
boundary-by c cs s some h e (inl l) later =
    let f : is_first (get_or (encode c) s 0) ≡ false = inner-byte c s some l in
    let g : is_first (get_or (encode c ++ encodes cs) s 0) ≡ is_first (get_or (encode c) s 0) = ap is_first (get_or_append_left (encode c) (encodes cs) 0 s l) in
    absurd (cc)
boundary-by c cs s some h e (inr l) later =
    let g : is_first (get_or (encodes cs) (s - length (encode c)) 0) ≡ true =
    ap is_first (sym (get_or-append_right (encode c) (encodes cs) (length (encode c)) s 0 refl l)) ∙ e in
    let r = later (s - length (encode c)) (omega (arith, h, l, length-append (encode c) (encodes cs))) g in
    (suc r.0, omega (arith, r.1), omega (arith, l, r.2, length-append (encode c) (encodes (take r.0 cs))))

pub at-boundary : (w : List ℕ) (s : ℕ) → s < length (encodes w) → is_first (get_or (encodes w) s 0) ≡ true
    → (n : ℕ) × (n < length w) × (s ≡ length (encodes (take n w)))
at-boundary [] s h e = absurd (omega (arith, h))
at-boundary (c ∷ cs) zero h e = (0, omega arith, refl)
at-boundary (c ∷ cs) (suc k) h e = boundary-by c cs (suc k) (omega arith) h e (below-or (suc k) (length (encode c)))
    (λ t l f. at-boundary cs t l f)

pub drop-encodes : (w : List ℕ) (n : ℕ) → drop (length (encodes (take n w))) (encodes w) ≡ encodes (drop n w)
drop-encodes w n =
    ap (drop (length (encodes (take n w)))) (ap encodes (sym (take-append-drop n w)) ∙ encodes-append (take n w) (drop n w))
    ∙ drop-append_seam (encodes (take n w)) (encodes (drop n w))

pub take-encodes : (w : List ℕ) (n : ℕ) → take (length (encodes (take n w))) (encodes w) ≡ encodes (take n w)
take-encodes w n =
    ap (take (length (encodes (take n w)))) (ap encodes (sym (take-append-drop n w)) ∙ encodes-append (take n w) (drop n w))
    ∙ take-append_seam (encodes (take n w)) (encodes (drop n w))

-- ---- letters that stand at the beginning

pub fits-bytes : (letters w : List ℕ) → take (length letters) w ≡ letters → take (length (encodes letters)) (encodes w) ≡ encodes letters
fits-bytes letters w h =
    ap (λ xs. take (length (encodes xs)) (encodes w)) (sym h) ∙ take-encodes w (length letters) ∙ ap encodes h

pub fits-letters : (letters w : List ℕ) → take (length (encodes letters)) (encodes w) ≡ encodes letters → take (length letters) w ≡ letters
fits-letters [] w h = refl
fits-letters (c ∷ cs) [] h =
    absurd (omega (arith, ap length h, length-append (encode c) (encodes cs), some-bytes c, length-take (length (encodes (c ∷ cs))) (encodes [])))
fits-letters (c ∷ cs) (d ∷ ds) h =
    let rest : List ℕ = drop (length (encodes (c ∷ cs))) (encodes (d ∷ ds)) in
    let whole : encode d ++ encodes ds ≡ encode c ++ (encodes cs ++ drop (length (encodes (c ∷ cs))) (encodes (d ∷ ds))) =
    sym (take-append-drop (length (encodes (c ∷ cs))) (encodes (d ∷ ds))) ∙ ap (λ xs. xs ++ drop (length (encodes (c ∷ cs))) (encodes (d ∷ ds))) h
    ∙ append_assoc (encode c) (encodes cs) (drop (length (encodes (c ∷ cs))) (encodes (d ∷ ds))) in
    let same = encode_same d c (encodes ds) (encodes cs ++ drop (length (encodes (c ∷ cs))) (encodes (d ∷ ds))) whole in
    let later : take (length (encodes cs)) (encodes ds) ≡ encodes cs =
    ap (take (length (encodes cs))) same.1 ∙ take-append_seam (encodes cs) (drop (length (encodes (c ∷ cs))) (encodes (d ∷ ds))) in
    ap (λ x. x ∷ take (length cs) ds) same.0 ∙ ap (λ xs. c ∷ xs) (fits-letters cs ds later)

-- ---- digits

later-digit : (digits : List ℕ) (k : ℕ) → get_or (drop 1 digits) k 0 ≡ get_or digits (suc k) 0
later-digit [] k = grind (arith, common_steps)
later-digit (d ∷ ds) k = refl

pub digit-at : (letters digits : List ℕ) (k : ℕ) → k ≤ length letters → get_or (byte_digits letters digits) (length (encodes (take k letters))) 0 ≡ get_or digits k 0
digit-at [] digits zero h = refl
digit-at [] digits (suc k) h = absurd (omega (arith, h))
digit-at (l ∷ ls) digits zero h = refl
digit-at (l ∷ ls) digits (suc k) h =
    let few : length {A = ℕ} (replicate (length (encode l) - 1) 0) ≡ length (encode l) - 1 = length-replicate (length (encode l) - 1) 0 in
    let offset : length (encode l ++ encodes (take k ls)) ≡ suc (length (replicate (length (encode l) - 1) 0) + length (encodes (take k ls))) =
    omega (arith, length-append (encode l) (encodes (take k ls)), few, some-bytes l) in
    ap (λ o. get_or (byte_digits (l ∷ ls) digits) o 0) offset
    ∙ get_or-append-add (replicate (length (encode l) - 1) 0) (byte_digits ls (drop 1 digits)) (length (encodes (take k ls))) 0
    ∙ digit-at ls (drop 1 digits) k (omega (arith, h)) ∙ later-digit digits k

-- a place where digits of bytes have one
pub record IsDigitOf (letters digits : List ℕ) (offset digit : ℕ) : Type 0 where
  pub count : ℕ
  pub few : count ≤ length letters
  pub at : offset ≡ length (encodes (take count letters))
  pub is : get_or digits count 0 ≡ digit

where-by : (l : ℕ) (ls digits : List ℕ) (j : ℕ) → 0 < get_or (replicate (length (encode l) - 1) 0 ++ byte_digits ls (drop 1 digits)) j 0
    → (j < length (encode l) - 1) ⊎ (length (encode l) - 1 ≤ j)
    → ((o : ℕ) → 0 < get_or (byte_digits ls (drop 1 digits)) o 0 → IsDigitOf ls (drop 1 digits) o (get_or (byte_digits ls (drop 1 digits)) o 0))
    → IsDigitOf (l ∷ ls) digits (suc j) (get_or (replicate (length (encode l) - 1) 0 ++ byte_digits ls (drop 1 digits)) j 0)
where-by l ls digits j some (inl h) later =
    let few : length {A = ℕ} (replicate (length (encode l) - 1) 0) ≡ length (encode l) - 1 = length-replicate (length (encode l) - 1) 0 in
    let none : get_or (replicate (length (encode l) - 1) 0 ++ byte_digits ls (drop 1 digits)) j 0 ≡ 0 =
    get_or_append_left (replicate (length (encode l) - 1) 0) (byte_digits ls (drop 1 digits)) 0 j (omega (arith, h, few))
    ∙ get_or-replicate (length (encode l) - 1) j 0 0 h in
    absurd (omega (arith, some, none))
where-by l ls digits j some (inr h) later =
    let few : length {A = ℕ} (replicate (length (encode l) - 1) 0) ≡ length (encode l) - 1 = length-replicate (length (encode l) - 1) 0 in
    let e : get_or (replicate (length (encode l) - 1) 0 ++ byte_digits ls (drop 1 digits)) j 0 ≡ get_or (byte_digits ls (drop 1 digits)) (j - (length (encode l) - 1)) 0 =
    get_or-append_right (replicate (length (encode l) - 1) 0) (byte_digits ls (drop 1 digits)) (length (encode l) - 1) j 0 few h in
    let r = later (j - (length (encode l) - 1)) (omega (arith, some, e)) in
    record {
      count = suc r.count;
      few = omega (arith, r.few);
      at = omega (arith, r.at, h, some-bytes l, length-append (encode l) (encodes (take r.count ls)));
      is = sym (later-digit digits r.count) ∙ r.is ∙ sym e;
    }

pub digit-where : (letters digits : List ℕ) (o : ℕ) → 0 < get_or (byte_digits letters digits) o 0 → IsDigitOf letters digits o (get_or (byte_digits letters digits) o 0)
digit-where [] digits zero h = record { count = 0; few = omega arith; at = refl; is = refl }
digit-where [] digits (suc o) h = absurd (omega (arith, h))
digit-where (l ∷ ls) digits zero h = record { count = 0; few = omega arith; at = refl; is = refl }
digit-where (l ∷ ls) digits (suc j) h = where-by l ls digits j h (below-or j (length (encode l) - 1)) (digit-where ls (drop 1 digits))

-- ---- places of characters and of bytes

abbrev pub bytes_before : List ℕ → ℕ → ℕ
bytes_before w n = length (encodes (take n w))

pub before-add : (w : List ℕ) (m k : ℕ) → bytes_before w (m + k) ≡ bytes_before w m + length (encodes (take k (drop m w)))
before-add w m k =
    ap (λ xs. length (encodes xs)) (take-split w m k) ∙ ap length (encodes-append (take m w) (take k (drop m w)))
    ∙ length-append (encodes (take m w)) (encodes (take k (drop m w))) where
      take-split : (w : List ℕ) (m k : ℕ) → take (m + k) w ≡ take m w ++ take k (drop m w)
      take-split w m k = sym (take-append-drop m (take (m + k) w)) ∙ ap (λ xs. xs ++ drop m (take (m + k) w)) (take-take m (m + k) w (omega arith))
          ∙ ap (λ xs. take m w ++ xs) (drop-take m k w)

-- more characters, more bytes
pub before-more : (w : List ℕ) (m n : ℕ) → m < n → n ≤ length w → bytes_before w m < bytes_before w n
before-more w m n h l =
    let split : bytes_before w (m + (n - m)) ≡ bytes_before w m + length (encodes (take (n - m) (drop m w))) = before-add w m (n - m) in
    let same : bytes_before w (m + (n - m)) ≡ bytes_before w n = ap (bytes_before w) (omega (arith, h)) in
    let some : 0 < length (encodes (take (n - m) (drop m w))) =
    omega (arith, h, l, length-encodes (take (n - m) (drop m w)), length-take (n - m) (drop m w), length-drop m w) in
    omega (arith, split, same, some)

pub same-count : (w : List ℕ) (m n : ℕ) → m ≤ length w → n ≤ length w → bytes_before w m ≡ bytes_before w n → m ≡ n
same-count w m n h l e = by (below-or m n) (below-or n m) where
  by : (m < n) ⊎ (n ≤ m) → (n < m) ⊎ (m ≤ n) → m ≡ n
  by (inl a) b = absurd (omega (arith, e, before-more w m n a l))
  by (inr a) (inl b) = absurd (omega (arith, e, before-more w n m b h))
  by (inr a) (inr b) = omega (arith, a, b)

-- where letters fit, the first byte of the first begins a character
pub first-byte : (letters bytes : List ℕ) (start : ℕ) → 0 < length letters → take (length (encodes letters)) (drop start bytes) ≡ encodes letters
    → (start < length bytes) × (is_first (get_or bytes start 0) ≡ true)
first-byte [] bytes start h e = absurd (omega (arith, h))
first-byte (c ∷ cs) bytes start h e =
    let i = character c in
    let long : length (encodes (c ∷ cs)) ≡ length (encode c) + length (encodes cs) = length-append (encode c) (encodes cs) in
    let head : get_or (encodes (c ∷ cs)) 0 0 ≡ i.first =
    get_or_append_left (encode c) (encodes cs) 0 0 (some-bytes c) ∙ ap (λ xs. get_or xs 0 0) i.are in
    let read : get_or (take (length (encodes (c ∷ cs))) (drop start bytes)) 0 0 ≡ get_or (drop start bytes) 0 0 =
    get_or-take (length (encodes (c ∷ cs))) (drop start bytes) 0 0 (omega (arith, long, some-bytes c)) in
    let at : get_or (drop start bytes) 0 0 ≡ get_or bytes start 0 = get_or-drop start bytes 0 0 ∙ ap (λ k. get_or bytes k 0) (omega arith) in (
      omega (arith, long, some-bytes c, ap length e, length-take (length (encodes (c ∷ cs))) (drop start bytes), length-drop start bytes),
      ap is_first (sym at ∙ sym read ∙ ap (λ xs. get_or xs 0 0) e ∙ head) ∙ i.begins,
    )

pub first-of : (cs : List ℕ) → 0 < length cs → is_first (get_or (encodes cs) 0 0) ≡ true
first-of [] h = absurd (omega (arith, h))
first-of (c ∷ cs) h =
    let i = character c in
    ap is_first (get_or_append_left (encode c) (encodes cs) 0 0 (some-bytes c) ∙ ap (λ xs. get_or xs 0 0) i.are) ∙ i.begins

-- ---- a pattern in bytes

not-digit-high : (b : ℕ) → 128 ≤ b → is_ascii_digit b ≡ false
not-digit-high b h = grind (arith, nat_tests)

inner-high : (b : ℕ) → is_first b ≡ false → 128 ≤ b
inner-high b h = grind (arith, nat_tests)

-- bytes that begin no character are letters without a digit
inner-pattern : (rest more : List ℕ) → ((k : ℕ) → k < length rest → is_first (get_or rest k 0) ≡ false)
    → pattern_of 0 (rest ++ more) ≡ record { letters = rest ++ (pattern_of 0 more).letters; digits = replicate {A = ℕ} (length rest) 0 ++ (pattern_of 0 more).digits }
unfolding pattern_of
inner-pattern [] more h = refl
inner-pattern (b ∷ rest) more h =
    let none : is_ascii_digit b ≡ false = not-digit-high b (inner-high b (h 0 (omega arith))) in
    ap (λ t. cond t (pattern_of (b - 48) (rest ++ more)) (with_letter 0 b (pattern_of 0 (rest ++ more)))) none
    ∙ ap (with_letter 0 b) (inner-pattern rest more (λ k l. h (suc k) (omega (arith, l))))

ascii : (c : ℕ) → c < 128 → encode c ≡ c ∷ []
ascii c h = encode_ascii c h

digit-low : (c : ℕ) → is_ascii_digit c ≡ true → c < 128
digit-low c h = grind (arith, nat_tests)

high-by : (c : ℕ) (t u v : Bool) (e : ltb c 128 ≡ t) → 128 ≤ c → 128 ≤ (character-by c t u v e).first
unfolding character-by
high-by c true u v e h = omega (arith, h)
high-by c false true v e h = omega arith
high-by c false false true e h = omega arith
high-by c false false false e h = omega arith

first-high : (c : ℕ) → 128 ≤ c → 128 ≤ (character c).first
unfolding character
first-high c h = high-by c (ltb c 128) (ltb c 2048) (ltb c 65536) refl h

first-by : (c : ℕ) (b : Bool) → nat_lt c 128 ≡ b → is_ascii_digit c ≡ false → is_ascii_digit (character c).first ≡ false
first-by c true e h =
    let l : c < 128 = grind (arith, nat_tests) in
    let same : (character c).first ∷ (character c).rest ≡ c ∷ [] = sym (character c).are ∙ ascii c l in
    let first : (character c).first ≡ c = cc in
    ap is_ascii_digit first ∙ h
first-by c false e h =
    let l : 128 ≤ c = grind (arith, nat_tests) in
    not-digit-high (character c).first (first-high c l)

first-not-digit : (c : ℕ) → is_ascii_digit c ≡ false → is_ascii_digit (character c).first ≡ false
first-not-digit c h = first-by c (nat_lt c 128) refl h

pattern-by : (digit c : ℕ) (cs : List ℕ) (b : Bool) → is_ascii_digit c ≡ b → ((d : ℕ) → pattern_of d (encodes cs) ≡ in_bytes (pattern_of d cs))
    → pattern_of digit (encode c ++ encodes cs) ≡ in_bytes (pattern_of digit (c ∷ cs))
unfolding pattern_of
pattern-by digit c cs true e later =
    ap (λ xs. pattern_of digit (xs ++ encodes cs)) (ascii c (digit-low c e))
    ∙ ap (λ t. cond t (pattern_of (c - 48) (encodes cs)) (with_letter digit c (pattern_of 0 (encodes cs)))) e ∙ later (c - 48)
    ∙ sym (ap (λ t. in_bytes (cond t (pattern_of (c - 48) cs) (with_letter digit c (pattern_of 0 cs)))) e)
pattern-by digit c cs false e later =
    let i = character c in
    let count : length (character c).rest ≡ length (encode c) - 1 = omega (arith, ap length (character c).are) in
    ap (λ xs. pattern_of digit (xs ++ encodes cs)) i.are
    ∙ ap (λ t. cond t (pattern_of (i.first - 48) (i.rest ++ encodes cs)) (with_letter digit i.first (pattern_of 0 (i.rest ++ encodes cs)))) (first-not-digit c e)
    ∙ ap (with_letter digit i.first) (inner-pattern i.rest (encodes cs) i.inner)
    ∙ ap (λ (q : Pattern). with_letter digit (character c).first (record { letters = (character c).rest ++ q.letters; digits = replicate {A = ℕ} (length (character c).rest) 0 ++ q.digits })) (later 0)
    ∙ ap (λ n. record { letters = (character c).first ∷ (character c).rest ++ (in_bytes (pattern_of 0 cs)).letters; digits = digit ∷ replicate {A = ℕ} n 0 ++ (in_bytes (pattern_of 0 cs)).digits }) count
    ∙ ap (λ xs. record { letters = xs ++ (in_bytes (pattern_of 0 cs)).letters; digits = digit ∷ replicate {A = ℕ} (length (encode c) - 1) 0 ++ (in_bytes (pattern_of 0 cs)).digits }) (sym (character c).are)
    ∙ sym (ap (λ t. in_bytes (cond t (pattern_of (c - 48) cs) (with_letter digit c (pattern_of 0 cs)))) e)

pub pattern-bytes : (digit : ℕ) (line : List ℕ) → pattern_of digit (encodes line) ≡ in_bytes (pattern_of digit line)
unfolding pattern_of
pattern-bytes digit [] = refl
pattern-bytes digit (c ∷ cs) = pattern-by digit c cs (is_ascii_digit c) refl (λ d. pattern-bytes d cs)

-- ---- patterns are whole

digits-more : (digit : ℕ) (line : List ℕ) → length (pattern_of digit line).digits ≡ length (pattern_of digit line).letters + 1
unfolding pattern_of
digits-more digit [] = refl
digits-more digit (c ∷ cs) = by (is_ascii_digit c) (digits-more (c - 48) cs) (digits-more 0 cs) where
  by : (b : Bool) → length (pattern_of (c - 48) cs).digits ≡ length (pattern_of (c - 48) cs).letters + 1 → length (pattern_of 0 cs).digits ≡ length (pattern_of 0 cs).letters + 1
      → length (cond b (pattern_of (c - 48) cs) (with_letter digit c (pattern_of 0 cs))).digits ≡ length (cond b (pattern_of (c - 48) cs) (with_letter digit c (pattern_of 0 cs))).letters + 1
  by true h k = h
  by false h k = omega (arith, k)

letters-some : (digit : ℕ) (line : List ℕ) → list_all is_ascii_digit line ≡ false → 0 < length (pattern_of digit line).letters
unfolding pattern_of
letters-some digit [] h = cc
letters-some digit (c ∷ cs) h = by (is_ascii_digit c) h (letters-some (c - 48) cs) where
  by : (b : Bool) → (b && list_all is_ascii_digit cs) ≡ false → (list_all is_ascii_digit cs ≡ false → 0 < length (pattern_of (c - 48) cs).letters)
      → 0 < length (cond b (pattern_of (c - 48) cs) (with_letter digit c (pattern_of 0 cs))).letters
  by true h later = later h
  by false h later = omega arith

pub pattern-whole : (line : List ℕ) → list_all is_ascii_digit line ≡ false → IsWhole (pattern_of 0 line)
pattern-whole line h = record { some = letters-some 0 line h; one_more = digits-more 0 line }
