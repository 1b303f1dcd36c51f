-- The longest beginning of a text whose code points pass a test, as a text that is read as far as it goes.
use Rattle.std.proofs.Common.{◌≡◌, ℕ, zero, suc, ◌+◌, ◌-◌, ◌≤◌, Bool, true, false, List, [], ◌∷◌, length, take, drop, refl, sym, ap, ap₂, ◌∙◌, arith}
use Rattle.std.specs.List.{prefix_len}
use Rattle.seg_text.specs.Items.{BeginsWide, Item, Text, place_of, start_of, rest_after, text_before, slice_of, shifted_back, code_points, prefix_length}
use Rattle.std.proofs.Math.Seq.{take-length, drop-length}
use Rattle.seg_text.proofs.Places.{place-before}

module _ (passes : ℕ → Bool) where
  -- the beginning
  abbrev pub cut : Text → Text
  cut text = text_before (prefix_length passes text) text

  one-more : (first : ℕ) (rest : List ℕ) → passes first ≡ true → prefix_len passes (first ∷ rest) ≡ suc (prefix_len passes rest)
  one-more first rest pass = let same : 1 + prefix_len passes rest ≡ suc (prefix_len passes rest) = omega arith in rw pass same

  no-more : (first : ℕ) (rest : List ℕ) → passes first ≡ false → prefix_len passes (first ∷ rest) ≡ 0
  no-more first rest stop = rw stop refl

  -- an item that passes
  pub cut-next : (items : List Item) (item : Item) (end : ℕ) → passes item.1 ≡ true
      → let whole : Text = record { items = item ∷ items; end = end } in let after : Text = record { items = items; end = end } in
      cut whole ≡ record { items = item ∷ (cut after).items; end = (cut after).end }
  cut-next items item end pass = rw (one-more item.1 (code_points items) pass) refl

  -- an item of a text is read, which passes
  pub read-next : (before after : Text) (item : Item) → before.items ≡ item ∷ after.items → after.end ≡ before.end → passes item.1 ≡ true
      → ((cut before).items ≡ item ∷ (cut after).items) × ((cut after).end ≡ (cut before).end)
  read-next before after item is end pass =
      let same : before ≡ record { items = item ∷ after.items; end = after.end } =
      ap₂ (λ (items : List Item) (end : ℕ). let t : Text = record { items = items; end = end } in t) is (sym end) in
      let next : cut before ≡ record { items = item ∷ (cut after).items; end = (cut after).end } = ap cut same ∙ cut-next after.items item after.end pass in
      (ap (λ (t : Text). t.items) next, sym (ap (λ (t : Text). t.end) next))

  -- .. or which doesn't, or there is none
  pub read-stop : (text : Text) (item : Item) (items : List Item) → text.items ≡ item ∷ items → passes item.1 ≡ false → (cut text).items ≡ []
  read-stop text item items is stop = rw (is, no-more item.1 (code_points items) stop) refl

  pub read-none : (text : Text) → text.items ≡ [] → (cut text).items ≡ []
  read-none text none = rw none refl

  wide-by : (n : ℕ) (items : List Item) → BeginsWide items → BeginsWide (take n items)
  wide-by zero items wide = tt
  wide-by (suc n) [] wide = tt
  wide-by (suc n) (item ∷ items) wide = wide

  pub wide-cut : (text : Text) → BeginsWide text.items → BeginsWide (cut text).items
  wide-cut text wide = wide-by (prefix_length passes text) text.items wide

  after-by : (items : List Item) (item : Item) (end k : ℕ) (b : Bool) → passes item.1 ≡ b
      → (let rest : Text = record { items = items; end = end } in k ≤ prefix_length passes rest → cut (rest_after k rest) ≡ rest_after k (cut rest))
      → let text : Text = record { items = item ∷ items; end = end } in suc k ≤ prefix_length passes text
      → cut (rest_after (suc k) text) ≡ rest_after (suc k) (cut text)
  after-by items item end k true pass later inside =
      rw (one-more item.1 (code_points items) pass) (later (omega (arith, rw (one-more item.1 (code_points items) pass) at inside)))
  after-by items item end k false stop later inside = absurd (omega (arith, rw (no-more item.1 (code_points items) stop) at inside))

  -- the beginning of a text after some of its first items is what is left of its beginning
  pub cut-after : (items : List Item) (end k : ℕ) → let text : Text = record { items = items; end = end } in k ≤ prefix_length passes text
      → cut (rest_after k text) ≡ rest_after k (cut text)
  cut-after items end zero inside = refl
  cut-after [] end (suc k) inside = absurd (omega (arith, inside))
  cut-after (item ∷ items) end (suc k) inside = after-by items item end k (passes item.1) refl (cut-after items end k) inside

  -- so many items of what is left of a text after its beginning has it all
  abbrev pub clip : ℕ → ℕ → ℕ
  clip zero n = zero
  clip (suc k) zero = zero
  clip (suc k) (suc n) = suc (clip k n)

  pub clip-le : (k n : ℕ) → clip k n ≤ n
  clip-le zero n = omega arith
  clip-le (suc k) zero = omega arith
  clip-le (suc k) (suc n) = omega (arith, clip-le k n)

  clip-none : (k : ℕ) → clip k zero ≡ zero
  clip-none zero = refl
  clip-none (suc k) = refl

  pub clip-add : (j k n : ℕ) → clip (j + k) n ≡ clip j n + clip k (n - j)
  clip-add zero k n = let a : 0 + k ≡ k = omega arith in let b : n - 0 ≡ n = omega arith in rw (a, b) (omega arith)
  clip-add (suc j) k zero =
      let a : suc j + k ≡ suc (j + k) = omega arith in let b : 0 - suc j ≡ 0 = omega arith in rw (a, b, clip-none k) (omega arith)
  clip-add (suc j) k (suc n) =
      let a : suc j + k ≡ suc (j + k) = omega arith in let b : suc n - suc j ≡ n - j = omega arith in
      let later = clip-add j k n in rw (a, b) (omega (arith, later))

  -- a place in the first items is one in all
  pub place-clip : (items : List Item) (end n k : ℕ)
      → place_of (drop k (take n items)) (place_of (drop n items) end) ≡ place_of (drop (clip k n) items) end
  place-clip items end n zero = place-before items end n zero (omega arith)
  place-clip items end zero (suc k) = refl
  place-clip [] end (suc n) (suc k) = drop-none (clip k n)
    where
      drop-none : (j : ℕ) → end ≡ place_of (drop (suc j) []) end
      drop-none j = refl
  place-clip (item ∷ items) end (suc n) (suc k) = place-clip items end n k

  pub drop-clip : (items : List Item) (n k : ℕ) → drop k (take n items) ≡ drop (clip k n) (take n items)
  drop-clip items n zero = refl
  drop-clip items zero (suc k) = refl
  drop-clip [] (suc n) (suc k) = refl
  drop-clip (item ∷ items) (suc n) (suc k) = drop-clip items n k

  pub rest-clip : (text : Text) (k : ℕ) → rest_after k (cut text) ≡ rest_after (clip k (prefix_length passes text)) (cut text)
  rest-clip text k = ap (λ (items : List Item). let rest : Text = record { items = items; end = (cut text).end } in rest) (drop-clip text.items (prefix_length passes text) k)

  -- a place of the beginning is one of the text
  pub start-clip : (text : Text) (k : ℕ) → start_of (rest_after k (cut text)) ≡ start_of (rest_after (clip k (prefix_length passes text)) text)
  start-clip text k = place-clip text.items text.end (prefix_length passes text) k

  -- .. and so is one behind it
  pub start-part : (text : Text) (j k : ℕ) → let n = prefix_length passes text in
      start_of (rest_after (j + k) (cut text)) ≡ start_of (rest_after (clip j n + clip k (n - j)) text)
  start-part text j k = start-clip text (j + k) ∙ ap (λ (count : ℕ). start_of (rest_after count text)) (clip-add j k (prefix_length passes text))

  pub seek-cut : (text : Text) (k : ℕ) → cut (rest_after (clip k (prefix_length passes text)) text) ≡ rest_after k (cut text)
  seek-cut text k = cut-after text.items text.end (clip k (prefix_length passes text)) (clip-le k (prefix_length passes text)) ∙ sym (rest-clip text k)

  -- it begins where the text does
  pub start-cut : (text : Text) → start_of (cut text) ≡ start_of text
  start-cut text = place-clip text.items text.end (prefix_length passes text) 0

  -- ---- parts of a beginning

  -- a text all of whose code points pass is its own beginning
  all-cut : (t : Text) → prefix_len passes (code_points t.items) ≡ length t.items → cut t ≡ t
  all-cut t all = rw (all, take-length t.items, drop-length t.items) refl

  taken-by : (item : Item) (items : List Item) (q : ℕ) (b : Bool) → passes item.1 ≡ b
      → (q ≤ prefix_len passes (code_points items) → prefix_len passes (code_points (take q items)) ≡ length (take q items))
      → suc q ≤ prefix_len passes (code_points (item ∷ items))
      → prefix_len passes (code_points (take (suc q) (item ∷ items))) ≡ length (take (suc q) (item ∷ items))
  taken-by item items q true pass later inside =
      one-more item.1 (code_points (take q items)) pass ∙ ap suc (later (omega (arith, rw (one-more item.1 (code_points items) pass) at inside)))
  taken-by item items q false stop later inside = absurd (omega (arith, rw (no-more item.1 (code_points items) stop) at inside))

  taken-pass : (items : List Item) (q : ℕ) → q ≤ prefix_len passes (code_points items) → prefix_len passes (code_points (take q items)) ≡ length (take q items)
  taken-pass items zero inside = refl
  taken-pass [] (suc q) inside = refl
  taken-pass (item ∷ items) (suc q) inside = taken-by item items q (passes item.1) refl (taken-pass items q) inside

  dropped-by : (item : Item) (items : List Item) (j q : ℕ) (b : Bool) → passes item.1 ≡ b
      → (j + q ≤ prefix_len passes (code_points items) → q ≤ prefix_len passes (code_points (drop j items)))
      → suc j + q ≤ prefix_len passes (code_points (item ∷ items)) → q ≤ prefix_len passes (code_points (drop j items))
  dropped-by item items j q true pass later inside = later (omega (arith, rw (one-more item.1 (code_points items) pass) at inside))
  dropped-by item items j q false stop later inside = absurd (omega (arith, rw (no-more item.1 (code_points items) stop) at inside))

  dropped-pass : (items : List Item) (j q : ℕ) → j + q ≤ prefix_len passes (code_points items) → q ≤ prefix_len passes (code_points (drop j items))
  dropped-pass items zero q inside = omega (arith, inside)
  dropped-pass [] (suc j) q inside = omega (arith, inside)
  dropped-pass (item ∷ items) (suc j) q inside = dropped-by item items j q (passes item.1) refl (dropped-pass items j q) inside

  take-clip : (items : List Item) (n k : ℕ) → take k (take n items) ≡ take (clip k n) items
  take-clip items n zero = refl
  take-clip items zero (suc k) = refl
  take-clip [] (suc n) (suc k) = refl
  take-clip (item ∷ items) (suc n) (suc k) = ap (λ (rest : List Item). item ∷ rest) (take-clip items n k)

  take-none : (k : ℕ) (items : List Item) → items ≡ [] → take k items ≡ []
  take-none k items is = rw is (by k)
    where
      by : (k : ℕ) → take {A = Item} k [] ≡ []
      by zero = refl
      by (suc k) = refl

  part-clip : (items : List Item) (n j k : ℕ) → take k (drop j (take n items)) ≡ take (clip k (n - j)) (drop (clip j n) items)
  part-clip items n zero k = let b : n - 0 ≡ n = omega arith in rw b (take-clip items n k)
  part-clip items zero (suc j) k = let b : 0 - suc j ≡ 0 = omega arith in rw (b, clip-none k) (take-none k [] refl)
  part-clip [] (suc n) (suc j) k = take-none k [] refl ∙ sym (take-none (clip k (suc n - suc j)) (drop (clip (suc j) (suc n)) []) refl)
  part-clip (item ∷ items) (suc n) (suc j) k = let b : suc n - suc j ≡ n - j = omega arith in rw b (part-clip items n j k)

  -- the beginning of the text before a place of the beginning is what stands before that place in the beginning
  pub before-cut : (text : Text) (k : ℕ) → cut (text_before (clip k (prefix_length passes text)) text) ≡ text_before k (cut text)
  before-cut text k =
      let n = prefix_length passes text in
      all-cut (text_before (clip k n) text) (taken-pass text.items (clip k n) (clip-le k n))
      ∙ sym (ap₂ (λ (items : List Item) (end : ℕ). let t : Text = record { items = items; end = end } in t) (take-clip text.items n k) (start-clip text k))

  shifted-same : (from : ℕ) (items : List Item) → code_points (shifted_back from items) ≡ code_points items
  shifted-same from [] = refl
  shifted-same from (item ∷ items) = ap (λ (rest : List ℕ). item.1 ∷ rest) (shifted-same from items)

  shifted-many : (from : ℕ) (items : List Item) → length (shifted_back from items) ≡ length items
  shifted-many from [] = refl
  shifted-many from (item ∷ items) = ap suc (shifted-many from items)

  -- .. and so with some of its items as a separate text
  pub slice-cut : (text : Text) (j k : ℕ) → let n = prefix_length passes text in
      cut (slice_of (clip j n) (clip k (n - j)) text) ≡ slice_of j k (cut text)
  slice-cut text j k =
      let n = prefix_length passes text in
      let part = take (clip k (n - j)) (drop (clip j n) text.items) in
      let from = start_of (rest_after (clip j n) text) in
      let within : clip j n + clip k (n - j) ≤ n = rw (← clip-add j k n) (clip-le (j + k) n) in
      let pass : prefix_len passes (code_points part) ≡ length part =
      taken-pass (drop (clip j n) text.items) (clip k (n - j)) (dropped-pass text.items (clip j n) (clip k (n - j)) within) in
      all-cut (slice_of (clip j n) (clip k (n - j)) text) (rw (shifted-same from part, shifted-many from part) pass)
      ∙ sym (rw (start-clip text j, start-clip text (j + k), part-clip text.items n j k, clip-add j k n) refl)
