-- What two sets of code points make, change by change.
use Rattle.std.proofs.Common.{◌≡◌, ℕ, ◌+◌, ◌-◌, ◌^◌, ◌<◌, ◌≤◌, min, Bool, true, false, not, nat_le, List, [], ◌∷◌, ◌++◌, ◌⊎◌, length, take, drop, get_or, refl, sym, ◌∙◌, ap, subst, arith, inl, inr}
use Rattle.std.specs.Prelude.{◌&&◌, ◌||◌}
use Rattle.std.specs.Bool.{beq}
use Rattle.std.proofs.lemmas.Bool.{leb-true, le-leb, lt-leb, and_parts}
use Rattle.std.proofs.lemmas.Bool.Decides.{leb_tells}
use Rattle.std.proofs.lemmas.List.{take-append-drop}
use Rattle.ucd_table.specs.Rows.{in_ranges}
use Rattle.seg_notation.specs.declared.merge.Join.{Join}
use Rattle.seg_notation.specs.declared.merge.Join.TheVariants.{Either, Both, First}
use Rattle.seg_notation.specs.Sets.{turned, inside, has, rises, leads, join_of, Takes}

-- ---- changes in order

pub head-of : (n p : ℕ) (ps : List ℕ) → rises n (p ∷ ps) ≡ true → (n ≤ p) × (rises p ps ≡ true)
unfolding rises
head-of n p ps r = let parts = and_parts (nat_le n p) (rises p ps) r in (leb-true n p parts.0, parts.1)

pub rises-cons : (n p : ℕ) (ps : List ℕ) → n ≤ p → rises p ps ≡ true → rises n (p ∷ ps) ≡ true
unfolding rises
rises-cons n p ps h r = ap (λ b. b && rises p ps) (le-leb n p h) ∙ r

pub rises-none : (n : ℕ) → rises n [] ≡ true
unfolding rises
rises-none n = refl

leads-rises : (m p : ℕ) (ys : List ℕ) → rises m ys ≡ true → leads p ys ≡ true → rises p ys ≡ true
leads-rises m p [] r h = rises-none p
leads-rises m p (y ∷ ys) r h = rises-cons p y ys (leb-true p y h) (head-of m y ys r).1

abbrev pub last_from : ℕ → List ℕ → ℕ
last_from n [] = n
last_from n (p ∷ ps) = last_from p ps

rises-snoc : (n p : ℕ) (ps : List ℕ) → rises n ps ≡ true → last_from n ps ≤ p → rises n (ps ++ p ∷ []) ≡ true
rises-snoc n p [] r h = rises-cons n p [] h (rises-none p)
rises-snoc n p (q ∷ ps) r h =
    let parts = head-of n q ps r in rises-cons n q (ps ++ p ∷ []) parts.0 (rises-snoc q p ps parts.1 h)

last-snoc : (n p : ℕ) (ps : List ℕ) → last_from n (ps ++ p ∷ []) ≡ p
last-snoc n p [] = refl
last-snoc n p (q ∷ ps) = last-snoc q p ps

-- ---- what is inside

pub inside-none : (b : Bool) (c : ℕ) → inside b [] c ≡ b
unfolding inside
inside-none b c = refl

pub inside-cons : (b : Bool) (p : ℕ) (ps : List ℕ) (c : ℕ) → inside b (p ∷ ps) c ≡ inside (turned (nat_le p c) b) ps c
unfolding inside
inside-cons b p ps c = refl

inside-above : (n c : ℕ) (b : Bool) (ps : List ℕ) → c < n → rises n ps ≡ true → inside b ps c ≡ b
inside-above n c b [] h r = inside-none b c
inside-above n c b (p ∷ ps) h r =
    let parts = head-of n p ps r in
    let low : c < p = omega (arith, parts.0, h) in
    inside-cons b p ps c ∙ ap (λ t. inside (turned t b) ps c) (lt-leb p c low) ∙ inside-above p c b ps low parts.1

inside-next : (b : Bool) (p : ℕ) (ps : List ℕ) (c : ℕ) → p ≤ c → inside b (p ∷ ps) c ≡ inside (not b) ps c
inside-next b p ps c h = inside-cons b p ps c ∙ ap (λ t. inside (turned t b) ps c) (le-leb p c h)

pub inside-snoc : (b : Bool) (ps : List ℕ) (p c : ℕ) → inside b (ps ++ p ∷ []) c ≡ turned (nat_le p c) (inside b ps c)
unfolding inside
inside-snoc b [] p c = refl
inside-snoc b (q ∷ ps) p c = inside-snoc (turned (nat_le q c) b) ps p c

-- ---- two sets, read up to a code point

pub record Merged (J : Bool → Bool → Bool) (A B : ℕ → Bool) (xs ys : List ℕ) (a b : Bool) (out : List ℕ) (is_in : Bool) (m : ℕ) : Type 0 where
  pub one : rises m xs ≡ true
  pub other : rises m ys ≡ true
  pub made : rises 0 out ≡ true
  pub below : last_from 0 out ≤ m
  pub state : is_in ≡ J a b
  pub here : (c : ℕ) → m ≤ c → inside false out c ≡ is_in
  pub in_one : (c : ℕ) → m ≤ c → inside a xs c ≡ A c
  pub in_other : (c : ℕ) → m ≤ c → inside b ys c ≡ B c
  pub before : (c : ℕ) → c < m → inside false out c ≡ J (A c) (B c)

pub join-none : (join : Join) → join_of join false false ≡ false
join-none Either = refl
join-none Both = refl
join-none First = refl

pub merged-start : (J : Bool → Bool → Bool) (xs ys xs' ys' out : List ℕ) → J false false ≡ false → rises 0 xs ≡ true → rises 0 ys ≡ true
    → xs' ≡ xs → ys' ≡ ys → out ≡ [] → Merged J (has xs) (has ys) xs' ys' false false out false 0
merged-start J xs ys xs' ys' out h r s e f g = record {
  one = ap (rises 0) e ∙ r;
  other = ap (rises 0) f ∙ s;
  made = ap (rises 0) g ∙ rises-none 0;
  below = omega (arith, ap (last_from 0) g);
  state = sym h;
  here = λ c k. ap (λ v. has v c) g ∙ inside-none false c;
  in_one = λ c k. ap (λ v. has v c) e;
  in_other = λ c k. ap (λ v. has v c) f;
  before = λ c k. absurd (omega (arith, k));
}

pub merged-swap : (J : Bool → Bool → Bool) (A B : ℕ → Bool) (xs ys : List ℕ) (a b : Bool) (out : List ℕ) (is_in : Bool) (m : ℕ)
    → Merged J A B xs ys a b out is_in m → Merged (λ x y. J y x) B A ys xs b a out is_in m
merged-swap J A B xs ys a b out is_in m h = record {
  one = h.other;
  other = h.one;
  made = h.made;
  below = h.below;
  state = h.state;
  here = h.here;
  in_one = h.in_other;
  in_other = h.in_one;
  before = h.before;
}

module _ (J : Bool → Bool → Bool) (A B : ℕ → Bool) (p : ℕ) (xs ys : List ℕ) (a b : Bool) (out : List ℕ) (is_in : Bool) (m : ℕ)
    (h : Merged J A B (p ∷ xs) ys a b out is_in m) (first : leads p ys ≡ true) where
  reached : m ≤ p
  reached = (head-of m p xs h.one).0

  same-verdict : (c : ℕ) → a ≡ A c → b ≡ B c → J a b ≡ J (A c) (B c)
  same-verdict c e f = ap (λ v. J v b) e ∙ ap (λ v. J (A c) v) f

  lower : (c : ℕ) → c < p → inside false out c ≡ J (A c) (B c)
  lower c low =
      elim (leb_tells m c) [
        | inl (_, from) ↦ h.here c from ∙ h.state ∙ same-verdict c
            (sym (inside-above p c a (p ∷ xs) low (rises-cons p p xs (omega arith) (head-of m p xs h.one).1)) ∙ h.in_one c from)
            (sym (inside-above p c b ys low (leads-rises m p ys h.other first)) ∙ h.in_other c from)
        | inr (_, under) ↦ h.before c under
      ]

  further : (c : ℕ) → p ≤ c → m ≤ c
  further c k = omega (arith, k, reached)

  pub merged-same : is_in ≡ J (not a) b → Merged J A B xs ys (not a) b out is_in p
  merged-same e = record {
    one = (head-of m p xs h.one).1;
    other = leads-rises m p ys h.other first;
    made = h.made;
    below = omega (arith, h.below, reached);
    state = e;
    here = λ c k. h.here c (further c k);
    in_one = λ c k. sym (inside-next a p xs c k) ∙ h.in_one c (further c k);
    in_other = λ c k. h.in_other c (further c k);
    before = lower;
  }

  pub merged-turn : (is_now : Bool) → is_now ≡ J (not a) b → is_now ≡ not is_in → Merged J A B xs ys (not a) b (out ++ p ∷ []) is_now p
  merged-turn is_now e turn = record {
    one = (head-of m p xs h.one).1;
    other = leads-rises m p ys h.other first;
    made = rises-snoc 0 p out h.made (omega (arith, h.below, reached));
    below = omega (arith, last-snoc 0 p out);
    state = e;
    here = λ c k. inside-snoc false out p c ∙ ap (λ t. turned t (inside false out c)) (le-leb p c k)
        ∙ ap not (h.here c (further c k)) ∙ sym turn;
    in_one = λ c k. sym (inside-next a p xs c k) ∙ h.in_one c (further c k);
    in_other = λ c k. h.in_other c (further c k);
    before = λ c k. inside-snoc false out p c ∙ ap (λ t. turned t (inside false out c)) (lt-leb p c k) ∙ lower c k;
  }

pub merged-end : (J : Bool → Bool → Bool) (A B : ℕ → Bool) (a b : Bool) (out : List ℕ) (is_in : Bool) (m : ℕ)
    → Merged J A B [] [] a b out is_in m → (c : ℕ) → inside false out c ≡ J (A c) (B c)
merged-end J A B a b out is_in m h c =
    elim (leb_tells m c) [
      | inl (_, from) ↦ h.here c from ∙ h.state
          ∙ ap (λ v. J v b) (sym (inside-none a c) ∙ h.in_one c from) ∙ ap (λ v. J (A c) v) (sym (inside-none b c) ∙ h.in_other c from)
      | inr (_, under) ↦ h.before c under
    ]

pub merged-done : (J : Bool → Bool → Bool) (A B : ℕ → Bool) (xs ys : List ℕ) (a b : Bool) (out : List ℕ) (is_in : Bool) (m : ℕ)
    → Merged J A B xs ys a b out is_in m → xs ≡ [] → ys ≡ [] → (c : ℕ) → inside false out c ≡ J (A c) (B c)
merged-done J A B xs ys a b out is_in m h e f =
    merged-end J A B a b out is_in m
    (subst (λ v. Merged J A B v [] a b out is_in m) e (subst (λ v. Merged J A B xs v a b out is_in m) f h))

-- ---- a step, whichever set changes

pub differ : (x y : Bool) → not (beq x y) ≡ true → x ≡ not y
differ true true h = cc
differ true false h = refl
differ false true h = refl
differ false false h = cc

pub agree : (x y : Bool) → not (beq x y) ≡ false → x ≡ y
agree true true h = refl
agree true false h = cc
agree false true h = cc
agree false false h = refl

moved : (J : Bool → Bool → Bool) (A B : ℕ → Bool) (xs ys ys' : List ℕ) (a b a' b' : Bool) (out : List ℕ) (is_in : Bool) (m : ℕ)
    → ys' ≡ ys → a' ≡ a → b' ≡ b → Merged J A B xs ys a b out is_in m → Merged J A B xs ys' a' b' out is_in m
moved J A B xs ys ys' a b a' b' out is_in m e f g h =
    subst (λ v. Merged J A B xs v a' b' out is_in m) (sym e)
    (subst (λ v. Merged J A B xs ys v b' out is_in m) (sym f) (subst (λ v. Merged J A B xs ys a v out is_in m) (sym g) h))

module _ (p : ℕ) (out : List ℕ) (is_in is_now : Bool) (m : ℕ) where
  one-same : (J : Bool → Bool → Bool) (A B : ℕ → Bool) (xs ys xs' ys' : List ℕ) (a b a' b' : Bool) → Merged J A B xs ys a b out is_in m
      → Takes p xs ys xs' ys' a b a' b' → is_now ≡ J a' b' → is_now ≡ is_in → Merged J A B xs' ys' a' b' out is_in p
  one-same J A B xs ys xs' ys' a b a' b' h t e same =
      moved J A B xs' ys ys' (not a) b a' b' out is_in p t.others t.turns t.stays
      (merged-same J A B p xs' ys a b out is_in m (subst (λ v. Merged J A B v ys a b out is_in m) t.from h) t.first
      (sym same ∙ e ∙ ap (λ v. J v b') t.turns ∙ ap (λ v. J (not a) v) t.stays))

  one-turn : (J : Bool → Bool → Bool) (A B : ℕ → Bool) (xs ys xs' ys' : List ℕ) (a b a' b' : Bool) → Merged J A B xs ys a b out is_in m
      → Takes p xs ys xs' ys' a b a' b' → is_now ≡ J a' b' → is_now ≡ not is_in → Merged J A B xs' ys' a' b' (out ++ p ∷ []) is_now p
  one-turn J A B xs ys xs' ys' a b a' b' h t e other =
      moved J A B xs' ys ys' (not a) b a' b' (out ++ p ∷ []) is_now p t.others t.turns t.stays
      (merged-turn J A B p xs' ys a b out is_in m (subst (λ v. Merged J A B v ys a b out is_in m) t.from h) t.first is_now
      (e ∙ ap (λ v. J v b') t.turns ∙ ap (λ v. J (not a) v) t.stays) other)

  module _ (J : Bool → Bool → Bool) (A B : ℕ → Bool) (xs ys xs' ys' : List ℕ) (a b a' b' : Bool) (h : Merged J A B xs ys a b out is_in m)
      (t : Takes p xs ys xs' ys' a b a' b' ⊎ Takes p ys xs ys' xs' b a b' a') (e : is_now ≡ J a' b') where
    pub step-same : is_now ≡ is_in → Merged J A B xs' ys' a' b' out is_in p
    step-same same =
        elim t [
          | inl one ↦ one-same J A B xs ys xs' ys' a b a' b' h one e same
          | inr other ↦ merged-swap (λ x y. J y x) B A ys' xs' b' a' out is_in p
              (one-same (λ x y. J y x) B A ys xs ys' xs' b a b' a' (merged-swap J A B xs ys a b out is_in m h) other e same)
        ]

    pub step-turn : is_now ≡ not is_in → Merged J A B xs' ys' a' b' (out ++ p ∷ []) is_now p
    step-turn turn =
        elim t [
          | inl one ↦ one-turn J A B xs ys xs' ys' a b a' b' h one e turn
          | inr other ↦ merged-swap (λ x y. J y x) B A ys' xs' b' a' (out ++ p ∷ []) is_now p
              (one-turn (λ x y. J y x) B A ys xs ys' xs' b a b' a' (merged-swap J A B xs ys a b out is_in m h) other e turn)
        ]

-- ---- ranges

tested : (f g h x y z : Bool) → f ≡ x → g ≡ y → h ≡ z → turned z (turned x false) ≡ (x && y) → turned h (turned f false) ≡ (f && g)
tested f g h x y z e k l same =
    ap (λ v. turned h (turned v false)) e ∙ ap (λ v. turned v (turned x false)) l ∙ same
    ∙ sym (ap (λ v. v && g) e ∙ ap (λ v. x && v) k)

pub range-has : (first last after c : ℕ) → first ≤ last → (c ≤ last → c < after) → after ≤ last + 1
    → has (first ∷ after ∷ []) c ≡ (nat_le first c && nat_le c last)
unfolding inside
range-has first last after c order above below =
    elim (leb_tells first c) [
      | inl (yes-first, from) ↦ elim (leb_tells c last) [
        | inl (yes-last, to) ↦ tested _ _ _ true true false yes-first yes-last (lt-leb after c (above to)) refl
        | inr (no-last, past) ↦ tested _ _ _ true false true yes-first no-last (le-leb after c (omega (arith, past, below))) refl
      ]
      | inr (no-first, under) ↦
          let to : c ≤ last = omega (arith, under, order) in
          tested _ _ _ false true false no-first (le-leb c last to) (lt-leb after c (above to)) refl
    ]

pub range-empty : (first last c : ℕ) → last < first → false ≡ (nat_le first c && nat_le c last)
range-empty first last c order =
    elim (leb_tells first c) [
      | inl (yes-first, from) ↦ sym (ap (λ v. v && nat_le c last) yes-first ∙ lt-leb c last (omega (arith, from, order)))
      | inr (no-first, under) ↦ sym (ap (λ v. v && nat_le c last) no-first)
    ]

or-none : (b : Bool) → (b || false) ≡ b
or-none true = refl
or-none false = refl

or-or : (a b c : Bool) → (a || (b || c)) ≡ ((a || b) || c)
or-or true b c = refl
or-or false b c = refl

pub ranges-none : (rs : List (ℕ × ℕ)) (c : ℕ) → length rs < 1 → in_ranges rs c ≡ false
unfolding in_ranges
ranges-none [] c h = refl
ranges-none (r ∷ rs) c h = absurd (omega (arith, h))

pub ranges-one : (rs : List (ℕ × ℕ)) (d : ℕ × ℕ) (c : ℕ) → 1 ≤ length rs → length rs < 2
    → in_ranges rs c ≡ (nat_le (get_or rs 0 d).0 c && nat_le c (get_or rs 0 d).1)
unfolding in_ranges
ranges-one [] d c h k = absurd (omega (arith, h))
ranges-one (r ∷ []) d c h k = or-none _
ranges-one (r ∷ (s ∷ rs)) d c h k = absurd (omega (arith, k))

ranges-append : (rs ss : List (ℕ × ℕ)) (c : ℕ) → in_ranges (rs ++ ss) c ≡ (in_ranges rs c || in_ranges ss c)
unfolding in_ranges
ranges-append [] ss c = refl
ranges-append (r ∷ rs) ss c =
    ap (λ v. (nat_le r.0 c && nat_le c r.1) || v) (ranges-append rs ss c)
    ∙ or-or (nat_le r.0 c && nat_le c r.1) (in_ranges rs c) (in_ranges ss c)

pub ranges-halves : (n : ℕ) (rs xs ys : List (ℕ × ℕ)) (c : ℕ) (a b : Bool) → a ≡ in_ranges xs c → b ≡ in_ranges ys c
    → xs ≡ take n rs → ys ≡ drop n rs → (a || b) ≡ in_ranges rs c
ranges-halves n rs xs ys c a b e f g h =
    ap (λ v. v || b) (e ∙ ap (λ v. in_ranges v c) g) ∙ ap (λ v. in_ranges (take n rs) c || v) (f ∙ ap (λ v. in_ranges v c) h)
    ∙ sym (ranges-append (take n rs) (drop n rs) c) ∙ ap (λ v. in_ranges v c) (take-append-drop n rs)

-- one more than the last of a range, where that fits

pub after-above : (last after c : ℕ) → after ≡ min (last + 1) (2 ^ 32 - 1) → c ≤ 1114111 → c ≤ last → c < after
after-above last after c e k h = omega arith

pub after-within : (last after : ℕ) → after ≡ min (last + 1) (2 ^ 32 - 1) → after ≤ last + 1
after-within last after e = omega arith

pub after-holds : (first last after : ℕ) → last < 2 ^ 32 → first ≤ last → after ≡ min (last + 1) (2 ^ 32 - 1) → first ≤ after
after-holds first last after fits h e = omega arith

pub rises-range : (first after : ℕ) → first ≤ after → rises 0 (first ∷ after ∷ []) ≡ true
rises-range first after h = rises-cons 0 first (after ∷ []) (omega arith) (rises-cons first after [] h (rises-none after))
