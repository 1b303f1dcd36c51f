-- Tries that grow, as values.
use Rattle.std.proofs.Common.{◌≡◌, ◌≢◌, ◌==◌, ◌&&◌, ℕ, ◌+◌, ◌<◌, ◌≤◌, ◌-◌, nat_lt, Contains, max, Bool, true, false, cond, Option, Some, None, List, [], ◌∷◌, ◌++◌, length, get_or, set, take, drop, refl, sym, ap, subst, ◌∙◌, arith, append_assoc, ◌⊎◌, inl, inr, zero, suc, Vec, Global}
use Rattle.std.proofs.lemmas.Bool.{eq-eqb}
use Rattle.std.proofs.lemmas.Bool.Decides.{eqb_tells, nat_tests}
use Rattle.std.proofs.lemmas.List.Elements.{Contains-append_left, Contains-append_right, Contains-append_cases}
use Rattle.std.specs.HashMap.{HashMap, get}
use Rattle.std.specs.Map.{lookup}
use Rattle.std.specs.Option.{option_map_or}
use Rattle.std.proofs.lemmas.Grind.{common_steps}
use Rattle.std.proofs.lemmas.List.{take_more, take-append-le, drop-append-le, length-append, length-drop, get_or_default, length-take-le, take_all, length-set, get_or-set_same, get_or-set_other}
use Rattle.std.proofs.Math.Seq.{drop-append_seam, take-length}
use Rattle.seg_hyphens.specs.Liang.{Pattern}
use Rattle.std.specs.declared.hash.FoldHasher.{FoldHasher}
use Rattle.std.specs.declared.hash.BuildHasherDefault.{BuildHasherDefault}
use Rattle.seg_hyphens.specs.declared.trie.Trie.{Trie}
use Rattle.seg_hyphens.specs.Tries.{HasNames, Grows, IsTrie, child, is_same, kept, letter_digits, merged, node_digits, walk, Adds, Keeps}
use Rattle.seg_hyphens.proofs.Nodes.{IsGrown, grown-keeps, grown-names, walk-append, walk-kept, walk-one, walk-inside, same-letters}

abbrev pub Children : Type 0
Children = HashMap (ℕ × ℕ) ℕ (BuildHasherDefault FoldHasher)

abbrev edge : Children → ℕ → ℕ → Option ℕ
edge children node letter = get is_same children (node, letter)

none-here : {P : Type 0} {o : Option ℕ} {next : ℕ} → o ≡ None → o ≡ Some next → P
none-here e h = cc

only-range : (n : ℕ) → n ≡ 0 → (most : ℕ)
    → (get_or {A = ℕ × ℕ} ((0, 0) ∷ []) n (0, 0)).0 + (get_or {A = ℕ × ℕ} ((0, 0) ∷ []) n (0, 0)).1 ≤ most
only-range n e most =
    subst (λ m. (get_or {A = ℕ × ℕ} ((0, 0) ∷ []) m (0, 0)).0 + (get_or {A = ℕ × ℕ} ((0, 0) ∷ []) m (0, 0)).1 ≤ most) (sym e) (omega arith)

pub no-names : (leads : ℕ → ℕ → Option ℕ) (digits : List ℕ) → ((node letter : ℕ) → leads node letter ≡ None) → HasNames leads ((0, 0) ∷ []) digits
no-names leads digits none = record {
  name = λ _. [];
  some = omega arith;
  root = refl;
  inside = λ from along next h. none-here (none from along) h;
  known = λ from along next h. none-here (none from along) h;
  step = λ from along next h. none-here (none from along) h;
  range = λ n h. only-range n (omega (arith, h)) (length digits);
}

edge-none : (children : Children) → children.entries ≡ [] → (node letter : ℕ) → edge children node letter ≡ None
edge-none children e node letter = ap (λ entries. lookup (is_same (node, letter)) entries) e

pub new-trie : (t : Trie) → t.ranges.items ≡ (0, 0) ∷ [] → t.children.entries ≡ [] → IsTrie t
new-trie t ranges none =
    subst (λ r. HasNames (child t) r t.digits.items) (sym ranges) (no-names (child t) t.digits.items (edge-none t.children none))

nothing : (n k : ℕ) → take {A = ℕ} n (drop k []) ≡ []
nothing n zero = grind (arith, common_steps)
nothing n (suc k) = grind (arith, common_steps)

no-digits : (t : Trie) → t.digits.items ≡ [] → (letters : List ℕ) (offset : ℕ) → 0 < get_or (kept t letters) offset 0 → ⊥
no-digits t none letters offset h = by (walk (child t) 0 letters) h where
  by : (o : Option ℕ) → 0 < get_or (option_map_or (node_digits t.ranges.items t.digits.items) o []) offset 0 → ⊥
  by None h = absurd (omega (arith, h))
  by (Some m) h =
      let e : node_digits t.ranges.items t.digits.items m ≡ [] =
      ap (λ d. node_digits t.ranges.items d m) none ∙ nothing (get_or t.ranges.items m (0, 0)).1 (get_or t.ranges.items m (0, 0)).0 in
      absurd (omega (arith, h, ap (λ d. get_or d offset 0) e))

pub new-keeps : (t : Trie) → t.digits.items ≡ [] → Keeps t []
new-keeps t none = record {
  greatest = λ pattern is offset. absurd (omega (arith, is.1));
  are = λ letters offset h. absurd (no-digits t none letters offset h);
}

same-edge : (node letter : ℕ) → is_same (node, letter) (node, letter) ≡ true
same-edge node letter = cc (eq-eqb node node refl, eq-eqb letter letter refl)

other-by : (node letter from along : ℕ) → ((from ≡ node) → (along ≡ letter) → ⊥)
    → (((node == from) ≡ true) × (node ≡ from)) ⊎ (((node == from) ≡ false) × (node ≢ from))
    → (((letter == along) ≡ true) × (letter ≡ along)) ⊎ (((letter == along) ≡ false) × (letter ≢ along))
    → is_same (node, letter) (from, along) ≡ false
other-by node letter from along apart (inl a) (inl b) = absurd (apart (sym a.1) (sym b.1))
other-by node letter from along apart (inr a) b = ap (λ t. t && (letter == along)) a.0
other-by node letter from along apart (inl a) (inr b) = ap (λ t. t && (letter == along)) a.0 ∙ b.0

other-edge : (node letter from along : ℕ) → ((from ≡ node) → (along ≡ letter) → ⊥) → is_same (node, letter) (from, along) ≡ false
other-edge node letter from along apart = other-by node letter from along apart (eqb_tells node from) (eqb_tells letter along)

module _ (old : Trie) (children : Children) (ranges : Vec (ℕ × ℕ) Global) (node letter : ℕ) (is : IsTrie old)
    (inside : node < length old.ranges.items) (was : child old node letter ≡ None)
    (updates : (q : ℕ × ℕ) → get is_same children q ≡ cond (is_same (node, letter) q) (Some (length old.ranges.items)) (get is_same old.children q))
    (items : ranges.items ≡ old.ranges.items ++ (0, 0) ∷ []) where
  new-edge : IsGrown (child old) (edge children) old.ranges.items node letter
  new-edge = record {
    inside = inside;
    was = was;
    new = updates (node, letter) ∙ ap (λ b. cond b (Some (length old.ranges.items)) (child old node letter)) (same-edge node letter);
    others = λ from along apart.
        updates (from, along) ∙ ap (λ b. cond b (Some (length old.ranges.items)) (child old from along)) (other-edge node letter from along apart);
  }

  pub grow : Grows old (record { children = children; ranges = ranges; digits = old.digits })
  grow = record {
    is = subst (λ r. HasNames (edge children) r old.digits.items) (sym items)
        (grown-names (child old) (edge children) old.ranges.items old.digits.items node letter is new-edge);
    leads = λ letters m h. walk-kept (child old) (edge children) old.ranges.items old.digits.items node letter is new-edge letters 0 m h;
    keeps = λ letters. ap (λ r. letter_digits (edge children) r old.digits.items letters) items
        ∙ grown-keeps (child old) (edge children) old.ranges.items old.digits.items node letter is new-edge letters;
  }

pub grows-none : (t : Trie) → IsTrie t → Grows t t
grows-none t is = record { is = is; leads = λ letters node h. h; keeps = λ letters. refl }

pub grows-more : (s t u : Trie) → Grows s t → Grows t u → Grows s u
grows-more s t u g h = record {
  is = h.is;
  leads = λ letters node e. h.leads letters node (g.leads letters node e);
  keeps = λ letters. h.keeps letters ∙ g.keeps letters;
}

pub walk-more : (t u : Trie) (xs : List ℕ) (node letter next : ℕ) → Grows t u → walk (child t) 0 xs ≡ Some node → child u node letter ≡ Some next
    → walk (child u) 0 (xs ++ letter ∷ []) ≡ Some next
walk-more t u xs node letter next g h e = walk-append (child u) 0 node xs (letter ∷ []) (g.leads xs node h) ∙ walk-one (child u) node letter ∙ e

-- ---- digits that are merged

pub get-merged : (xs ys : List ℕ) (k : ℕ) → get_or (merged xs ys) k 0 ≡ max (get_or xs k 0) (get_or ys k 0)
get-merged [] ys k = grind arith
get-merged (x ∷ xs) [] k = grind arith
get-merged (x ∷ xs) (y ∷ ys) zero = refl
get-merged (x ∷ xs) (y ∷ ys) (suc k) = get-merged xs ys k

pub length-merged : (xs ys : List ℕ) → length (merged xs ys) ≡ max (length xs) (length ys)
length-merged [] ys = grind arith
length-merged (x ∷ xs) [] = grind arith
length-merged (x ∷ xs) (y ∷ ys) = let e : length (merged xs ys) ≡ max (length xs) (length ys) = length-merged xs ys in omega (arith, e)

-- ---- a range of digits behind the others

-- what stands among the first digits stays
still : (digits more : List ℕ) (r : ℕ × ℕ) → r.0 + r.1 ≤ length digits → take r.1 (drop r.0 (digits ++ more)) ≡ take r.1 (drop r.0 digits)
still digits more r h =
    ap (take r.1) (drop-append-le r.0 digits more (omega (arith, h))) ∙ take-append-le r.1 (drop r.0 digits) more (omega (arith, h, length-drop r.0 digits))

fresh : (digits more : List ℕ) → take (length more) (drop (length digits) (digits ++ more)) ≡ more
fresh digits more = ap (take (length more)) (drop-append_seam digits more) ∙ take-length more

module _ (leads : ℕ → ℕ → Option ℕ) (ranges : List (ℕ × ℕ)) (digits more : List ℕ) (node : ℕ) (t : HasNames leads ranges digits) (inside : node < length ranges) where
  changed : List (ℕ × ℕ)
  changed = set ranges node (length digits, length more)

  changed-here : get_or (set ranges node (length digits, length more)) node (0, 0) ≡ (length digits, length more)
  changed-here = get_or-set_same ranges node (length digits, length more) (0, 0) inside

  range-by : (n : ℕ) → n < length ranges → (((n == node) ≡ true) × (n ≡ node)) ⊎ (((n == node) ≡ false) × (n ≢ node))
      → (get_or (set ranges node (length digits, length more)) n (0, 0)).0 + (get_or (set ranges node (length digits, length more)) n (0, 0)).1 ≤ length (digits ++ more)
  range-by n h (inl e) =
      subst (λ (r : ℕ × ℕ). r.0 + r.1 ≤ length (digits ++ more)) (sym (ap (λ m. get_or (set ranges node (length digits, length more)) m (0, 0)) e.1 ∙ changed-here))
      (omega (arith, length-append digits more))
  range-by n h (inr e) =
      subst (λ (r : ℕ × ℕ). r.0 + r.1 ≤ length (digits ++ more)) (sym (get_or-set_other ranges node n (length digits, length more) (0, 0) e.1))
      (omega (arith, t.range n h, length-append digits more))

  pub changed-names : HasNames leads (set ranges node (length digits, length more)) (digits ++ more)
  changed-names = record {
    name = t.name;
    some = omega (arith, t.some, length-set ranges node (length digits, length more));
    root = t.root;
    inside = λ from along next h. omega (arith, t.inside from along next h, length-set ranges node (length digits, length more));
    known = λ from along next h. omega (arith, t.known from along next h, length-set ranges node (length digits, length more));
    step = t.step;
    range = λ n h. range-by n (omega (arith, h, length-set ranges node (length digits, length more))) (eqb_tells n node);
  }

  pub changed-digits : node_digits (set ranges node (length digits, length more)) (digits ++ more) node ≡ more
  changed-digits = ap (λ (r : ℕ × ℕ). take r.1 (drop r.0 (digits ++ more))) changed-here ∙ fresh digits more

  other-digits : (n : ℕ) → n < length ranges → n ≢ node
      → node_digits (set ranges node (length digits, length more)) (digits ++ more) n ≡ node_digits ranges digits n
  other-digits n h apart =
      ap (λ (r : ℕ × ℕ). take r.1 (drop r.0 (digits ++ more))) (get_or-set_other ranges node n (length digits, length more) (0, 0) apart)
      ∙ still digits more (get_or ranges n (0, 0)) (t.range n h)

  pub changed-letters : (letters : List ℕ) → walk leads 0 letters ≡ Some node
      → letter_digits leads (set ranges node (length digits, length more)) (digits ++ more) letters ≡ more
  changed-letters letters h =
      ap (λ o. option_map_or (node_digits (set ranges node (length digits, length more)) (digits ++ more)) o []) h ∙ changed-digits

  others-at : (letters any : List ℕ) (m : ℕ) → walk leads 0 letters ≡ Some node → walk leads 0 any ≡ Some m
      → (((m == node) ≡ true) × (m ≡ node)) ⊎ (((m == node) ≡ false) × (m ≢ node))
      → (any ≡ letters) ⊎ (node_digits (set ranges node (length digits, length more)) (digits ++ more) m ≡ node_digits ranges digits m)
  others-at letters any m h k (inl e) = inl (same-letters leads ranges digits t any letters node (k ∙ ap Some e.1) h)
  others-at letters any m h k (inr e) = inr (other-digits m (walk-inside leads ranges digits t any 0 m t.some k) e.1)

  others-by : (letters any : List ℕ) (o : Option ℕ) → walk leads 0 letters ≡ Some node → walk leads 0 any ≡ o
      → (any ≡ letters) ⊎ (option_map_or (node_digits (set ranges node (length digits, length more)) (digits ++ more)) o [] ≡ option_map_or (node_digits ranges digits) o [])
  others-by letters any None h k = inr refl
  others-by letters any (Some m) h k = others-at letters any m h k (eqb_tells m node)

  pub other-letters : (letters any : List ℕ) → walk leads 0 letters ≡ Some node
      → (any ≡ letters) ⊎ (letter_digits leads (set ranges node (length digits, length more)) (digits ++ more) any ≡ letter_digits leads ranges digits any)
  other-letters letters any h = others-by letters any (walk leads 0 any) h refl

module _ (mid : Trie) (ranges : Vec (ℕ × ℕ) Global) (digits : Vec ℕ Global) (more : List ℕ) (node begin count : ℕ) (is : IsTrie mid)
    (inside : node < length mid.ranges.items) (items : digits.items ≡ mid.digits.items ++ more) (begins : begin ≡ length mid.digits.items)
    (counts : count ≡ length digits.items - begin) (set-range : ranges.items ≡ set mid.ranges.items node (begin, count)) where
  counted : count ≡ length more
  counted = omega (arith, counts, begins, ap length items, length-append mid.digits.items more)

  sets : ranges.items ≡ set mid.ranges.items node (length mid.digits.items, length more)
  sets = set-range ∙ ap (λ b. set mid.ranges.items node (b, count)) begins ∙ ap (λ n. set mid.ranges.items node (length mid.digits.items, n)) counted

  pub added-is : IsTrie (record { children = mid.children; ranges = ranges; digits = digits })
  added-is =
      subst (λ r. HasNames (child mid) r digits.items) (sym sets)
      (subst (λ d. HasNames (child mid) (set mid.ranges.items node (length mid.digits.items, length more)) d) (sym items)
      (changed-names (child mid) mid.ranges.items mid.digits.items more node is inside))

  as-set : (letters : List ℕ) → letter_digits (child mid) ranges.items digits.items letters
      ≡ letter_digits (child mid) (set mid.ranges.items node (length mid.digits.items, length more)) (mid.digits.items ++ more) letters
  as-set letters = ap (λ r. letter_digits (child mid) r digits.items letters) sets
      ∙ ap (λ d. letter_digits (child mid) (set mid.ranges.items node (length mid.digits.items, length more)) d letters) items

  others-of : (old : Trie) (letters any : List ℕ) → Grows old mid → (any ≡ letters)
      ⊎ (letter_digits (child mid) (set mid.ranges.items node (length mid.digits.items, length more)) (mid.digits.items ++ more) any ≡ kept mid any)
      → (any ≡ letters) ⊎ (letter_digits (child mid) ranges.items digits.items any ≡ kept old any)
  others-of old letters any g (inl e) = inl e
  others-of old letters any g (inr e) = inr (as-set any ∙ e ∙ g.keeps any)

  pub adds-to : (old : Trie) (letters others : List ℕ) → Grows old mid → walk (child mid) 0 letters ≡ Some node
      → more ≡ merged (node_digits mid.ranges.items mid.digits.items node) others
      → Adds old (record { children = mid.children; ranges = ranges; digits = digits }) letters others
  adds-to old letters others g h e = record {
    same = as-set letters ∙ changed-letters (child mid) mid.ranges.items mid.digits.items more node is inside letters h ∙ e
        ∙ ap (λ d. merged d others) (sym (ap (λ o. option_map_or (node_digits mid.ranges.items mid.digits.items) o []) h) ∙ g.keeps letters);
    others = λ any. others-of old letters any g (other-letters (child mid) mid.ranges.items mid.digits.items more node is inside letters any h);
  }

-- ---- what is kept of patterns

le-merged : (xs ys : List ℕ) (k : ℕ) → (get_or xs k 0 ≤ get_or (merged xs ys) k 0) × (get_or ys k 0 ≤ get_or (merged xs ys) k 0)
le-merged xs ys k = (omega (arith, get-merged xs ys k), omega (arith, get-merged xs ys k))

either-by : (x y : ℕ) (b : Bool) → nat_lt x y ≡ b → (max x y ≡ x) ⊎ (max x y ≡ y)
either-by x y true e = let h : x < y = grind (arith, nat_tests) in inr (omega (arith, h))
either-by x y false e = let h : y ≤ x = grind (arith, nat_tests) in inl (omega (arith, h))

only : (pattern one : Pattern) → Contains (one ∷ []) pattern → one ≡ pattern
only pattern one h = let e : h.0 ≡ 0 = omega (arith, h.1) in sym (ap (λ k. get_or (one ∷ []) k pattern) e) ∙ h.2

pub either : (x y : ℕ) → (max x y ≡ x) ⊎ (max x y ≡ y)
either x y = either-by x y (nat_lt x y) refl

module _ (old new : Trie) (patterns : List Pattern) (letters digits : List ℕ) (adds : Adds old new letters digits) (keeps : Keeps old patterns) where
  abbrev all : List Pattern
  all = patterns ++ record { letters = letters; digits = digits } ∷ []

  grows-at : (any : List ℕ) (offset : ℕ) → (any ≡ letters) ⊎ (kept new any ≡ kept old any)
      → get_or (kept old any) offset 0 ≤ get_or (kept new any) offset 0
  grows-at any offset (inl e) =
      let here : get_or (kept old letters) offset 0 ≤ get_or (kept new letters) offset 0 =
      subst (λ d. get_or (kept old letters) offset 0 ≤ get_or d offset 0) (sym adds.same) (le-merged (kept old letters) digits offset).0 in
      subst (λ xs. get_or (kept old xs) offset 0 ≤ get_or (kept new xs) offset 0) (sym e) here
  grows-at any offset (inr e) = subst (λ d. get_or (kept old any) offset 0 ≤ get_or d offset 0) (sym e) (omega arith)

  greatest-by : (pattern : Pattern) (offset : ℕ) → Contains patterns pattern ⊎ Contains (record { letters = letters; digits = digits } ∷ []) pattern
      → get_or pattern.digits offset 0 ≤ get_or (kept new pattern.letters) offset 0
  greatest-by pattern offset (inl h) = omega (arith, keeps.greatest pattern h offset, grows-at pattern.letters offset (adds.others pattern.letters))
  greatest-by pattern offset (inr h) =
      let here : get_or digits offset 0 ≤ get_or (kept new letters) offset 0 =
      subst (λ d. get_or digits offset 0 ≤ get_or d offset 0) (sym adds.same) (le-merged (kept old letters) digits offset).1 in
      subst (λ (p : Pattern). get_or p.digits offset 0 ≤ get_or (kept new p.letters) offset 0) (only pattern (record { letters = letters; digits = digits }) h) here

  abbrev IsKept : List ℕ → ℕ → ℕ → Type 0
  IsKept any offset digit = (pattern : Pattern) × (Contains all pattern × (pattern.letters ≡ any) × (get_or pattern.digits offset 0 ≡ digit))

  kept-old : (any : List ℕ) (offset digit : ℕ) → 0 < digit → digit ≡ get_or (kept old any) offset 0 → IsKept any offset digit
  kept-old any offset digit some e =
      let was = keeps.are any offset (omega (arith, some, e)) in
      (was.0, (Contains-append_left patterns (record { letters = letters; digits = digits } ∷ []) was.0 was.1.0, was.1.1, was.1.2 ∙ sym e))

  kept-new : (offset digit : ℕ) → digit ≡ get_or digits offset 0 → IsKept letters offset digit
  kept-new offset digit e =
      (record { letters = letters; digits = digits }, (Contains-append_right patterns (record { letters = letters; digits = digits } ∷ []) (record { letters = letters; digits = digits }) (0, omega arith, refl), refl, sym e))

  kept-merged : (offset digit : ℕ) → 0 < digit → digit ≡ get_or (merged (kept old letters) digits) offset 0
      → (max (get_or (kept old letters) offset 0) (get_or digits offset 0) ≡ get_or (kept old letters) offset 0)
      ⊎ (max (get_or (kept old letters) offset 0) (get_or digits offset 0) ≡ get_or digits offset 0) → IsKept letters offset digit
  kept-merged offset digit some e (inl h) = kept-old letters offset digit some (e ∙ get-merged (kept old letters) digits offset ∙ h)
  kept-merged offset digit some e (inr h) = kept-new offset digit (e ∙ get-merged (kept old letters) digits offset ∙ h)

  are-by : (any : List ℕ) (offset : ℕ) → 0 < get_or (kept new any) offset 0 → (any ≡ letters) ⊎ (kept new any ≡ kept old any)
      → IsKept any offset (get_or (kept new any) offset 0)
  are-by any offset h (inl e) =
      let some : 0 < get_or (kept new letters) offset 0 = subst (λ xs. 0 < get_or (kept new xs) offset 0) e h in
      subst (λ xs. IsKept xs offset (get_or (kept new xs) offset 0)) (sym e)
      (kept-merged offset (get_or (kept new letters) offset 0) some (ap (λ d. get_or d offset 0) adds.same)
      (either (get_or (kept old letters) offset 0) (get_or digits offset 0)))
  are-by any offset h (inr e) = kept-old any offset (get_or (kept new any) offset 0) h (ap (λ d. get_or d offset 0) e)

  pub keeps-more : Keeps new (patterns ++ record { letters = letters; digits = digits } ∷ [])
  keeps-more = record {
    greatest = λ pattern is offset. greatest-by pattern offset (Contains-append_cases patterns (record { letters = letters; digits = digits } ∷ []) pattern is);
    are = λ any offset h. are-by any offset h (adds.others any);
  }

-- ---- digits that are merged one by one

pub more-merged : (all pushed first others part : List ℕ) (offset start len digit other greater : ℕ)
    → all ≡ first ++ take offset (merged (take len (drop start first)) others) → offset < max len (length others) → start + len ≤ length first
    → part ≡ all → digit ≡ get_or (take (start + len - start) (drop start part)) offset 0 → other ≡ get_or others offset 0 → greater ≡ max digit other
    → pushed ≡ all ++ greater ∷ [] → pushed ≡ first ++ take (offset + 1) (merged (take len (drop start first)) others)
more-merged all pushed first others part offset start len digit other greater e h fits w d o g p =
    let kept : List ℕ = take len (drop start first) in
    let in_kept : length (take len (drop start first)) ≡ len = length-take-le len (drop start first) (omega (arith, fits, length-drop start first)) in
    let long : offset < length (merged (take len (drop start first)) others) =
    omega (arith, h, in_kept, length-merged (take len (drop start first)) others) in
    let same : take (start + len - start) (drop start part) ≡ take len (drop start first) =
    ap (λ n. take n (drop start part)) (omega arith) ∙ ap (λ xs. take len (drop start xs)) (w ∙ e) ∙ still first (take offset (merged (take len (drop start first)) others)) (start, len) fits in
    let here : greater ≡ get_or (merged (take len (drop start first)) others) offset 0 =
    g ∙ ap (λ n. max n other) (d ∙ ap (λ xs. get_or xs offset 0) same) ∙ ap (max (get_or (take len (drop start first)) offset 0)) o
    ∙ sym (get-merged (take len (drop start first)) others offset) in
    p ∙ ap (λ x. x ++ greater ∷ []) e ∙ append_assoc first (take offset (merged (take len (drop start first)) others)) (greater ∷ [])
    ∙ ap (λ x. first ++ (take offset (merged (take len (drop start first)) others) ++ x ∷ [])) here
    ∙ ap (λ x. first ++ x) (sym (take_more (merged (take len (drop start first)) others) offset 0 long))

pub all-merged : (all first others : List ℕ) (offset start len : ℕ) → all ≡ first ++ take offset (merged (take len (drop start first)) others)
    → max len (length others) ≤ offset → start + len ≤ length first → all ≡ first ++ merged (take len (drop start first)) others
all-merged all first others offset start len e h fits =
    let in_kept : length (take len (drop start first)) ≡ len = length-take-le len (drop start first) (omega (arith, fits, length-drop start first)) in
    e ∙ ap (λ x. first ++ x) (take_all offset (merged (take len (drop start first)) others) (omega (arith, h, in_kept, length-merged (take len (drop start first)) others)))

-- a range that was read stands within the digits
pub read-range : (leads : ℕ → ℕ → Option ℕ) (ranges : List (ℕ × ℕ)) (digits : List ℕ) (node : ℕ) (range : ℕ × ℕ) → HasNames leads ranges digits
    → node < length ranges → range ≡ get_or ranges node range → range.0 + range.1 ≤ length digits
read-range leads ranges digits node range t h e =
    let same : range ≡ get_or ranges node (0, 0) = e ∙ get_or_default ranges node range (0, 0) h in
    subst (λ (r : ℕ × ℕ). r.0 + r.1 ≤ length digits) (sym same) (t.range node h)

pub read-digits : (ranges : List (ℕ × ℕ)) (digits others : List ℕ) (node : ℕ) (range : ℕ × ℕ) → node < length ranges → range ≡ get_or ranges node range
    → merged (take range.1 (drop range.0 digits)) others ≡ merged (node_digits ranges digits node) others
read-digits ranges digits others node range h e =
    let same : range ≡ get_or ranges node (0, 0) = e ∙ get_or_default ranges node range (0, 0) h in
    ap (λ (r : ℕ × ℕ). merged (take r.1 (drop r.0 digits)) others) same
