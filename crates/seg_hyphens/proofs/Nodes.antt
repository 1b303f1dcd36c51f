-- A trie that grows.
use Rattle.std.proofs.Common.{◌≡◌, ◌≢◌, ◌==◌, ℕ, ◌+◌, ◌<◌, ◌≤◌, true, false, cond, Option, Some, None, List, [], ◌∷◌, ◌++◌, length, get_or, take, drop, refl, sym, ap, subst, ◌∙◌, arith, append_assoc, ◌⊎◌, inl, inr}
use Rattle.std.proofs.lemmas.List.{append-nil, length-append, get_or_append_left}
use Rattle.std.proofs.Math.Seq.{get_or-append_seam}
use Rattle.std.proofs.lemmas.Bool.{eq-eqb, ne_eqb}
use Rattle.std.proofs.lemmas.Bool.Decides.{eqb_tells}
use Rattle.std.specs.Option.{option_map_or}
use Rattle.seg_hyphens.specs.Tries.{HasNames, walk, node_digits, letter_digits}

module _ (child : ℕ → ℕ → Option ℕ) where
  walk-step : (o : Option ℕ) (letters : List ℕ) (m : ℕ) → option_map_or (λ next. walk child next letters) o None ≡ Some m
      → (next : ℕ) × ((o ≡ Some next) × (walk child next letters ≡ Some m))
  walk-step None letters m h = cc
  walk-step (Some next) letters m h = (next, (refl, h))

  pub walk-append : (node mid : ℕ) (xs ys : List ℕ) → walk child node xs ≡ Some mid → walk child node (xs ++ ys) ≡ walk child mid ys
  unfolding walk
  walk-append node mid [] ys h = let e : node ≡ mid = cc in ap (λ n. walk child n ys) e
  walk-append node mid (x ∷ xs) ys h =
      let s = walk-step (child node x) xs mid h in
      ap (λ o. option_map_or (λ next. walk child next (xs ++ ys)) o None) s.1.0 ∙ walk-append s.0 mid xs ys s.1.1

  none-by : (o : Option ℕ) (xs ys : List ℕ) → ((next : ℕ) → walk child next xs ≡ None → walk child next (xs ++ ys) ≡ None)
      → option_map_or (λ next. walk child next xs) o None ≡ None → option_map_or (λ next. walk child next (xs ++ ys)) o None ≡ None
  none-by None xs ys later h = refl
  none-by (Some next) xs ys later h = later next h

  pub walk-none : (node : ℕ) (xs ys : List ℕ) → walk child node xs ≡ None → walk child node (xs ++ ys) ≡ None
  unfolding walk
  walk-none node [] ys h = cc
  walk-none node (x ∷ xs) ys h = none-by (child node x) xs ys (λ next. walk-none next xs ys) h

  pub walk-one : (node letter : ℕ) → walk child node (letter ∷ []) ≡ child node letter
  unfolding walk
  walk-one node letter = by (child node letter) where
    by : (o : Option ℕ) → option_map_or (λ next. walk child next []) o None ≡ o
    by None = refl
    by (Some next) = refl

module _ (child : ℕ → ℕ → Option ℕ) (ranges : List (ℕ × ℕ)) (digits : List ℕ) (t : HasNames child ranges digits) where
  pub walk-inside : (letters : List ℕ) (node m : ℕ) → node < length ranges → walk child node letters ≡ Some m → m < length ranges
  unfolding walk
  walk-inside [] node m h e = let s : node ≡ m = cc in subst (λ n. n < length ranges) s h
  walk-inside (x ∷ xs) node m h e =
      let s = walk-step child (child node x) xs m e in
      walk-inside xs s.0 m (t.known node x s.0 s.1.0) s.1.1

  pub walk-name : (letters : List ℕ) (node m : ℕ) → walk child node letters ≡ Some m → t.name m ≡ t.name node ++ letters
  unfolding walk
  walk-name [] node m e = let s : node ≡ m = cc in sym (append-nil _ ∙ ap t.name s)
  walk-name (x ∷ xs) node m e =
      let s = walk-step child (child node x) xs m e in
      walk-name xs s.0 m s.1.1 ∙ ap (λ n. n ++ xs) (t.step node x s.0 s.1.0) ∙ append_assoc (t.name node) (x ∷ []) xs

  -- letters are those that lead to their node
  pub same-letters : (xs ys : List ℕ) (m : ℕ) → walk child 0 xs ≡ Some m → walk child 0 ys ≡ Some m → xs ≡ ys
  same-letters xs ys m e f =
      let a : t.name m ≡ xs = walk-name xs 0 m e ∙ ap (λ n. n ++ xs) t.root in
      let b : t.name m ≡ ys = walk-name ys 0 m f ∙ ap (λ n. n ++ ys) t.root in
      sym a ∙ b

-- one edge more, to a new node
pub record IsGrown (child grown : ℕ → ℕ → Option ℕ) (ranges : List (ℕ × ℕ)) (node letter : ℕ) : Type 0 where
  pub inside : node < length ranges
  pub was : child node letter ≡ None
  pub new : grown node letter ≡ Some (length ranges)
  pub others : (from along : ℕ) → ((from ≡ node) → (along ≡ letter) → ⊥) → grown from along ≡ child from along

none-some : {X : Type 0} (x : X) → None ≡ Some x → ⊥
none-some x h = cc

module _ (child grown : ℕ → ℕ → Option ℕ) (ranges : List (ℕ × ℕ)) (digits : List ℕ) (node letter : ℕ)
    (t : HasNames child ranges digits) (g : IsGrown child grown ranges node letter) where
  step-kept : (from along next : ℕ) → child from along ≡ Some next → grown from along ≡ Some next
  step-kept from along next h =
      g.others from along (λ a b. none-some next (sym g.was ∙ ap (λ n. child n letter) (sym a) ∙ ap (child from) (sym b) ∙ h)) ∙ h

  pub walk-kept : (letters : List ℕ) (from m : ℕ) → walk child from letters ≡ Some m → walk grown from letters ≡ Some m
  unfolding walk
  walk-kept [] from m h = h
  walk-kept (x ∷ xs) from m h =
      let s = walk-step child (child from x) xs m h in
      ap (λ o. option_map_or (λ next. walk grown next xs) o None) (step-kept from x s.0 s.1.0) ∙ walk-kept xs s.0 m s.1.1

  -- the new node leads nowhere
  no-step : (along : ℕ) → grown (length ranges) along ≡ None
  no-step along = by (child (length ranges) along) refl where
    by : (o : Option ℕ) → child (length ranges) along ≡ o → grown (length ranges) along ≡ None
    by None h = g.others (length ranges) along (λ a b. absurd (omega (arith, g.inside, a))) ∙ h
    by (Some next) h = absurd (omega (arith, t.inside (length ranges) along next h))

  abbrev IsNew : Option ℕ → Type 0
  IsNew o = (o ≡ None) ⊎ (o ≡ Some (length ranges))

  walk-last : (letters : List ℕ) → IsNew (walk grown (length ranges) letters)
  unfolding walk
  walk-last [] = inr refl
  walk-last (x ∷ xs) = inl (ap (λ o. option_map_or (λ next. walk grown next xs) o None) (no-step x))

  new-at : (from x next : ℕ) (xs : List ℕ) → grown from x ≡ Some next → child from x ≡ None
      → (((from == node) ≡ true) × (from ≡ node)) ⊎ (((from == node) ≡ false) × (from ≢ node))
      → (((x == letter) ≡ true) × (x ≡ letter)) ⊎ (((x == letter) ≡ false) × (x ≢ letter)) → IsNew (walk grown next xs)
  new-at from x next xs e n (inl a) (inl b) =
      let last : Some (length ranges) ≡ Some next = sym g.new ∙ ap (λ n. grown n letter) (sym a.1) ∙ ap (grown from) (sym b.1) ∙ e in
      let same : length ranges ≡ next = cc in
      subst (λ n. IsNew (walk grown n xs)) same (walk-last xs)
  new-at from x next xs e n (inr a) b = absurd (none-some next (sym n ∙ sym (g.others from x (λ c _. a.1 c)) ∙ e))
  new-at from x next xs e n (inl a) (inr b) = absurd (none-some next (sym n ∙ sym (g.others from x (λ _ c. b.1 c)) ∙ e))

  new-fresh : (from x : ℕ) (xs : List ℕ) (o : Option ℕ) → grown from x ≡ o → child from x ≡ None
      → IsNew (option_map_or (λ next. walk grown next xs) o None)
  new-fresh from x xs None e n = inl refl
  new-fresh from x xs (Some next) e n = new-at from x next xs e n (eqb_tells from node) (eqb_tells x letter)

  new-by : (from x : ℕ) (xs : List ℕ) (o : Option ℕ) → child from x ≡ o → option_map_or (λ next. walk child next xs) o None ≡ None
      → ((next : ℕ) → next < length ranges → walk child next xs ≡ None → IsNew (walk grown next xs))
      → IsNew (option_map_or (λ next. walk grown next xs) (grown from x) None)
  new-by from x xs None e h later = new-fresh from x xs (grown from x) refl e
  new-by from x xs (Some next) e h later =
      subst (λ o. IsNew (option_map_or (λ next. walk grown next xs) o None)) (sym (step-kept from x next e)) (later next (t.known from x next e) h)

  pub walk-new : (letters : List ℕ) (from : ℕ) → from < length ranges → walk child from letters ≡ None → IsNew (walk grown from letters)
  unfolding walk
  walk-new [] from f h = cc
  walk-new (x ∷ xs) from f h = new-by from x xs (child from x) refl h (λ next. walk-new xs next)

  -- what leads where in the grown trie
  grown-by : (from along next : ℕ) → grown from along ≡ Some next
      → (((from == node) ≡ true) × (from ≡ node)) ⊎ (((from == node) ≡ false) × (from ≢ node))
      → (((along == letter) ≡ true) × (along ≡ letter)) ⊎ (((along == letter) ≡ false) × (along ≢ letter))
      → (child from along ≡ Some next) ⊎ ((from ≡ node) × (along ≡ letter) × (next ≡ length ranges))
  grown-by from along next h (inl a) (inl b) =
      let last : Some (length ranges) ≡ Some next = sym g.new ∙ ap (λ n. grown n letter) (sym a.1) ∙ ap (grown from) (sym b.1) ∙ h in
      let same : next ≡ length ranges = cc in
      inr (a.1, b.1, same)
  grown-by from along next h (inr a) b = inl (sym (g.others from along (λ c _. a.1 c)) ∙ h)
  grown-by from along next h (inl a) (inr b) = inl (sym (g.others from along (λ _ c. b.1 c)) ∙ h)

  grown-step : (from along next : ℕ) → grown from along ≡ Some next
      → (child from along ≡ Some next) ⊎ ((from ≡ node) × (along ≡ letter) × (next ≡ length ranges))
  grown-step from along next h = grown-by from along next h (eqb_tells from node) (eqb_tells along letter)

  longer : List (ℕ × ℕ)
  longer = ranges ++ (0, 0) ∷ []

  pub length-longer : length (ranges ++ (0, 0) ∷ []) ≡ length ranges + 1
  length-longer = length-append ranges ((0, 0) ∷ [])

  name' : ℕ → List ℕ
  name' n = cond (n == length ranges) (t.name node ++ letter ∷ []) (t.name n)

  name-old : (n : ℕ) → n < length ranges → name' n ≡ t.name n
  unfolding name'
  name-old n h = ap (λ b. cond b (t.name node ++ letter ∷ []) (t.name n)) (ne_eqb n (length ranges) (λ e. absurd (omega (arith, h, e))))

  name-new : (n : ℕ) → n ≡ length ranges → name' n ≡ t.name node ++ letter ∷ []
  unfolding name'
  name-new n h = ap (λ b. cond b (t.name node ++ letter ∷ []) (t.name n)) (eq-eqb n (length ranges) h)

  step-by : (from along next : ℕ) → (child from along ≡ Some next) ⊎ ((from ≡ node) × (along ≡ letter) × (next ≡ length ranges))
      → name' next ≡ name' from ++ along ∷ []
  step-by from along next (inl h) =
      name-old next (t.known from along next h) ∙ t.step from along next h ∙ ap (λ n. n ++ along ∷ []) (sym (name-old from (t.inside from along next h)))
  step-by from along next (inr (a, b, c)) =
      let e : t.name node ≡ name' from = ap t.name (sym a) ∙ sym (name-old from (omega (arith, a, g.inside))) in
      name-new next c ∙ ap (λ n. n ++ letter ∷ []) e ∙ ap (λ x. name' from ++ x ∷ []) (sym b)

  inside-by : (from along next : ℕ) → (child from along ≡ Some next) ⊎ ((from ≡ node) × (along ≡ letter) × (next ≡ length ranges))
      → (from < length ranges + 1) × (next < length ranges + 1)
  inside-by from along next (inl h) = (omega (arith, t.inside from along next h), omega (arith, t.known from along next h))
  inside-by from along next (inr (a, b, c)) = (omega (arith, a, g.inside), omega (arith, c))

  range-old : (n : ℕ) → n < length ranges → get_or (ranges ++ (0, 0) ∷ []) n (0, 0) ≡ get_or ranges n (0, 0)
  range-old n h = get_or_append_left ranges ((0, 0) ∷ []) (0, 0) n h

  range-new : (n : ℕ) → n ≡ length ranges → get_or (ranges ++ (0, 0) ∷ []) n (0, 0) ≡ (0, 0)
  range-new n h = ap (λ m. get_or (ranges ++ (0, 0) ∷ []) m (0, 0)) h ∙ get_or-append_seam ranges (0, 0) [] (0, 0)

  range-by : (n : ℕ) → (n < length ranges) ⊎ (n ≡ length ranges)
      → (get_or (ranges ++ (0, 0) ∷ []) n (0, 0)).0 + (get_or (ranges ++ (0, 0) ∷ []) n (0, 0)).1 ≤ length digits
  range-by n (inl h) = subst (λ (r : ℕ × ℕ). r.0 + r.1 ≤ length digits) (sym (range-old n h)) (t.range n h)
  range-by n (inr h) = subst (λ (r : ℕ × ℕ). r.0 + r.1 ≤ length digits) (sym (range-new n h)) (omega arith)

  at-most : (n m : ℕ) → n < m + 1 → (n < m) ⊎ (n ≡ m)
  at-most n m h = at-most-by n m h (eqb_tells n m) where
    at-most-by : (n m : ℕ) → n < m + 1 → (((n == m) ≡ true) × (n ≡ m)) ⊎ (((n == m) ≡ false) × (n ≢ m)) → (n < m) ⊎ (n ≡ m)
    at-most-by n m h (inl e) = inr e.1
    at-most-by n m h (inr e) = inl (omega (arith, h, e.1))

  pub grown-names : HasNames grown (ranges ++ (0, 0) ∷ []) digits
  grown-names = record {
    name = name';
    some = omega (arith, length-longer, t.some);
    root = name-old 0 t.some ∙ t.root;
    inside = λ from along next h. omega (arith, length-longer, (inside-by from along next (grown-step from along next h)).0);
    known = λ from along next h. omega (arith, length-longer, (inside-by from along next (grown-step from along next h)).1);
    step = λ from along next h. step-by from along next (grown-step from along next h);
    range = λ n h. range-by n (at-most n (length ranges) (omega (arith, h, length-longer)));
  }

  node-old : (n : ℕ) → n < length ranges → node_digits (ranges ++ (0, 0) ∷ []) digits n ≡ node_digits ranges digits n
  node-old n h = ap (λ (r : ℕ × ℕ). take r.1 (drop r.0 digits)) (range-old n h)

  keeps-new : (letters : List ℕ) → IsNew (walk grown 0 letters) → option_map_or (node_digits (ranges ++ (0, 0) ∷ []) digits) (walk grown 0 letters) [] ≡ []
  keeps-new letters (inl h) = ap (λ o. option_map_or (node_digits (ranges ++ (0, 0) ∷ []) digits) o []) h
  keeps-new letters (inr h) =
      ap (λ o. option_map_or (node_digits (ranges ++ (0, 0) ∷ []) digits) o []) h
      ∙ ap (λ (r : ℕ × ℕ). take r.1 (drop r.0 digits)) (range-new (length ranges) refl)

  keeps-by : (letters : List ℕ) (o : Option ℕ) → walk child 0 letters ≡ o
      → letter_digits grown (ranges ++ (0, 0) ∷ []) digits letters ≡ option_map_or (node_digits ranges digits) o []
  keeps-by letters None h = keeps-new letters (walk-new letters 0 t.some h)
  keeps-by letters (Some m) h =
      ap (λ o. option_map_or (node_digits (ranges ++ (0, 0) ∷ []) digits) o []) (walk-kept letters 0 m h)
      ∙ node-old m (walk-inside child ranges digits t letters 0 m t.some h)

  pub grown-keeps : (letters : List ℕ) → letter_digits grown (ranges ++ (0, 0) ∷ []) digits letters ≡ letter_digits child ranges digits letters
  grown-keeps letters = keeps-by letters (walk child 0 letters) refl
