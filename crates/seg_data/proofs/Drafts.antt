-- Edges that are added, and nodes that are made.
use Rattle.std.proofs.Common.{◌≡◌, ℕ, ◌+◌, ◌-◌, ◌<◌, ◌≤◌, Bool, true, false, List, [], ◌∷◌, ◌++◌, length, map, get_or, take, drop, refl, sym, subst, ap, ◌∙◌, inl, inr, arith}
use Rattle.std.proofs.lemmas.Bool.{cases_lt, false≢true}
use Rattle.std.proofs.lemmas.List.{append-nil, append_assoc, length-append, length-drop, length_push, get_or_append_left, get_or-append_right, get_or_push, drop-append-le, take-append-le, drop_at, take_all, drop_more, drop_all}
use Rattle.seg_data.specs.WordSets.{Words}
use Rattle.seg_data.specs.Trie.{Trie, trie, edges_of, empty_word, words_along, words_from, AreEdgesRising, IsNode, IsTrie}
use Rattle.seg_data.specs.Building.{word_at, letter, rests, rests_of, rests_at, IsRange, AreLonger, IsGroup, total, owed, left, AreAdded, IsBegun, IsDraft}
use Rattle.seg_data.proofs.Along.{along-same, along-append}
use Rattle.seg_data.proofs.Tries.{words-filled}
use Rattle.seg_data.proofs.Groups.{rests-all, rests-more, rests-none, longer-after, longer-all, range-after, rests-split, rests-count, rests-same, total-append, total-extended, owed-append, group-range, group-above}

push-all : {X : Type 0} (P : X → Type 0) (d : X) (xs : List X) (x : X) → ((k : ℕ) → k < length xs → P (get_or xs k d)) → P x
    → (k : ℕ) → k < length (xs ++ x ∷ []) → P (get_or (xs ++ x ∷ []) k d)
push-all P d xs x all one k within =
    elim (cases_lt k (length xs)) [
      | inl less ↦ subst P (sym (get_or_append_left xs (x ∷ []) d k less)) (all k less)
      | inr least ↦ subst P (sym (get_or_push xs x d k (omega (arith, length_push xs x)))) one
    ]

append-at : {X : Type 0} (P : X → Type 0) (d : X) (xs ys zs : List X) → zs ≡ xs ++ ys → (n : ℕ) → n < length zs
    → (n < length xs → P (get_or xs n d)) → ((k : ℕ) → k < length ys → P (get_or ys k d)) → P (get_or zs n d)
append-at P d xs ys zs e n within first second =
    elim (cases_lt n (length xs)) [
      | inl less ↦ subst P (sym (ap (λ l. get_or l n d) e ∙ get_or_append_left xs ys d n less)) (first less)
      | inr least ↦ subst P (sym (ap (λ l. get_or l n d) e ∙ get_or-append_right xs ys (length xs) n d refl least))
          (second (n - length xs) (omega (arith, ap length e, length-append xs ys)))
    ]

rising-push : (xs : List (ℕ × ℕ)) (x : ℕ × ℕ) → AreEdgesRising xs → ((k : ℕ) → k < length xs → (get_or xs k (0, 0)).0 < x.0) → AreEdgesRising (xs ++ x ∷ [])
rising-push xs x rising below i j less within =
    let short : i < length xs = omega (arith, length_push xs x) in
    let here = ap (λ (p : ℕ × ℕ). p.0) (get_or_append_left xs (x ∷ []) (0, 0) i short) in
    elim (cases_lt j (length xs)) [
      | inl inside ↦
          let there = ap (λ (p : ℕ × ℕ). p.0) (get_or_append_left xs (x ∷ []) (0, 0) j inside) in
          let up = rising i j less inside in
          omega arith
      | inr last ↦
          let there = ap (λ (p : ℕ × ℕ). p.0) (get_or_push xs x (0, 0) j (omega (arith, length_push xs x))) in
          let up = below i short in
          omega arith
    ]

rests-at-stay : (words : Words) (old more ranges : List (ℕ × ℕ × ℕ)) (n : ℕ) → ranges ≡ old ++ more → n < length old
    → rests_at words ranges n ≡ rests_at words old n
rests-at-stay words old more ranges n e within =
    ap (rests_of words) (ap (λ l. get_or l n (0, 0, 0)) e ∙ get_or_append_left old more (0, 0, 0) n within)

-- nothing is added yet
pub added-start : (words : Words) (depth begin end : ℕ) (ranges : List (ℕ × ℕ × ℕ)) (edges : List (ℕ × ℕ)) → begin ≤ end
    → AreAdded words depth begin begin end ranges ranges edges edges
added-start words depth begin end ranges edges order = record {
  more = [];
  added = [];
  order = order;
  ranges_are = sym (append-nil ranges);
  edges_are = sym (append-nil edges);
  words_are = refl;
  rises = λ i j less within. absurd (omega arith);
  below = λ some k within. absurd (omega arith);
  later = λ k within. absurd (omega arith);
  known = λ k within. absurd (omega arith);
  groups = λ k within. absurd (omega arith);
  somes = λ k within. absurd (omega arith);
  owes = omega arith;
  some = λ less. absurd (omega arith);
  begins = omega arith;
}

-- the words of a group, and the words after it
group-split : (words : Words) (depth first end next : ℕ) → IsGroup words depth first end next
    → rests words depth first (end - first) ≡ rests words depth first (next - first) ++ rests words depth next (end - next)
group-split words depth first end next group =
    let whole : end - first ≡ (next - first) + (end - next) = omega (arith, group.more, group.within) in
    let there : first + (next - first) ≡ next = omega (arith, group.more) in
    ap (rests words depth first) whole
    ∙ rests-split words depth first (next - first) (end - next)
    ∙ ap (λ n. rests words depth first (next - first) ++ rests words depth n (end - next)) there

group-same : (words : Words) (depth begin first end next : ℕ) → AreLonger words depth begin end → begin ≤ first → IsGroup words depth first end next
    → rests words depth first (next - first) ≡ map (λ word. letter words depth first ∷ word) (rests words (depth + 1) first (next - first))
group-same words depth begin first end next longer begins group =
    rests-same words depth (letter words depth first) first (next - first)
    (λ k low high. longer k (omega arith) (omega (arith, group.more, group.within)))
    (λ k low high. group.same k low (omega (arith, group.more)))

words-more : (words : Words) (depth begin first end next : ℕ) (ranges : List (ℕ × ℕ × ℕ)) (added : List (ℕ × ℕ))
    → AreLonger words depth begin end → begin ≤ first → IsGroup words depth first end next
    → ((k : ℕ) → k < length added → (get_or added k (0, 0)).1 < length ranges)
    → words_along (rests_at words ranges) added ++ rests words depth first (end - first)
    ≡ words_along (rests_at words (ranges ++ (first, next, depth + 1) ∷ [])) (added ++ (letter words depth first, length ranges) ∷ []) ++ rests words depth next (end - next)
words-more words depth begin first end next ranges added longer begins group known =
    let range : ℕ × ℕ × ℕ = (first, next, depth + 1) in
    let edge : ℕ × ℕ = (letter words depth first, length ranges) in
    let after : List (ℕ × ℕ × ℕ) = ranges ++ range ∷ [] in
    let rest : Words = rests words depth next (end - next) in
    let own : Words = map (λ word. letter words depth first ∷ word) (rests_at words after (length ranges)) in
    let first_is : words_along (rests_at words ranges) added ≡ words_along (rests_at words after) added
    = along-same (rests_at words ranges) (rests_at words after) added (λ k within. sym (rests-at-stay words ranges (range ∷ []) after (get_or added k (0, 0)).1 refl (known k within))) in
    let own_is : rests words depth first (next - first) ≡ own
    = group-same words depth begin first end next longer begins group
    ∙ ap (λ r. map (λ word. letter words depth first ∷ word) (rests_of words r)) (sym (get_or_push ranges range (0, 0, 0) (length ranges) refl)) in
    ap (λ xs. xs ++ rests words depth first (end - first)) first_is
    ∙ ap (λ xs. words_along (rests_at words after) added ++ xs) (group-split words depth first end next group ∙ ap (λ xs. xs ++ rest) own_is)
    ∙ sym (append_assoc (words_along (rests_at words after) added) own rest)
    ∙ ap (λ xs. (words_along (rests_at words after) added ++ xs) ++ rest) (sym (append-nil own))
    ∙ ap (λ xs. xs ++ rest) (sym (along-append (rests_at words after) added (edge ∷ [])))

owes-more : (words : Words) (depth begin first end next bound : ℕ) (more : List (ℕ × ℕ × ℕ))
    → AreLonger words depth begin end → begin ≤ first → IsGroup words depth first end next
    → owed words more + total (rests words depth first (end - first)) ≤ bound
    → owed words (more ++ (first, next, depth + 1) ∷ []) + total (rests words depth next (end - next)) ≤ bound
owes-more words depth begin first end next bound more longer begins group owes =
    omega (
      arith,
      owes,
      group.more,
      owed-append words more ((first, next, depth + 1) ∷ []),
      ap total (group-split words depth first end next group),
      total-append (rests words depth first (next - first)) (rests words depth next (end - next)),
      ap total (group-same words depth begin first end next longer begins group),
      total-extended (letter words depth first) (rests words (depth + 1) first (next - first)),
      rests-count words (depth + 1) first (next - first),
    )

-- a group's edge and range are added
pub added-more : (words : Words) (depth begin first end next : ℕ) (old_ranges ranges : List (ℕ × ℕ × ℕ)) (old_edges edges : List (ℕ × ℕ))
    → IsRange words (begin, end, depth) → AreLonger words depth begin end → AreAdded words depth begin first end old_ranges ranges old_edges edges
    → first < end → IsGroup words depth first end next
    → AreAdded words depth begin next end old_ranges (ranges ++ (first, next, depth + 1) ∷ []) old_edges (edges ++ (letter words depth first, length ranges) ∷ [])
added-more words depth begin first end next old_ranges ranges old_edges edges range longer a less group = record {
  more = a.more ++ (first, next, depth + 1) ∷ [];
  added = a.added ++ (letter words depth first, length ranges) ∷ [];
  order = group.within;
  ranges_are = ap (λ xs. xs ++ (first, next, depth + 1) ∷ []) a.ranges_are ∙ append_assoc old_ranges a.more ((first, next, depth + 1) ∷ []);
  edges_are = ap (λ xs. xs ++ (letter words depth first, length ranges) ∷ []) a.edges_are ∙ append_assoc old_edges a.added ((letter words depth first, length ranges) ∷ []);
  words_are = a.words_are ∙ words-more words depth begin first end next ranges a.added longer a.begins group a.known;
  rises = rising-push a.added (letter words depth first, length ranges) a.rises (a.below less);
  below = λ some.
      let up = group-above words depth begin first end next range a.begins longer group some in
      push-all (λ (e : ℕ × ℕ). e.0 < letter words depth next) (0, 0) a.added (letter words depth first, length ranges)
      (λ k within. let old = a.below less k within in omega arith) up;
  later = push-all (λ (e : ℕ × ℕ). length old_ranges ≤ e.1) (0, 0) a.added (letter words depth first, length ranges) a.later
      (omega (arith, ap length a.ranges_are, length-append old_ranges a.more));
  known = push-all (λ (e : ℕ × ℕ). e.1 < length (ranges ++ (first, next, depth + 1) ∷ [])) (0, 0) a.added (letter words depth first, length ranges)
      (λ k within. let old = a.known k within in omega (arith, length_push ranges (first, next, depth + 1)))
      (omega (arith, length_push ranges (first, next, depth + 1)));
  groups = push-all (IsRange words) (0, 0, 0) a.more (first, next, depth + 1) a.groups (group-range words depth begin first end next range a.begins longer group);
  somes = push-all (λ (r : ℕ × ℕ × ℕ). r.0 < r.1) (0, 0, 0) a.more (first, next, depth + 1) a.somes group.more;
  owes = owes-more words depth begin first end next (total (rests words depth begin (end - begin))) a.more longer a.begins group a.owes;
  some = λ _. omega (arith, length_push a.added (letter words depth first, length ranges));
  begins = omega (arith, a.begins, group.more);
}

node-same : (count more : ℕ) (t u : Trie) (n : ℕ) → count ≤ more → get_or u.starts n 0 ≡ get_or t.starts n 0
    → get_or u.starts (n + 1) 0 ≡ get_or t.starts (n + 1) 0 → length t.edges ≤ length u.edges → edges_of u n ≡ edges_of t n
    → get_or u.flags n false ≡ get_or t.flags n false → IsNode count t n → IsNode more u n
node-same count more t u n grows start end longer same flag is = record {
  order = omega (arith, start, end, is.order);
  within = omega (arith, end, is.within);
  rises = subst AreEdgesRising (sym same) is.rises;
  later = λ k within. subst (λ (es : List (ℕ × ℕ)). k < length es → n < (get_or es k (0, 0)).1) (sym same) (is.later k) within;
  known = λ k within.
      let old = subst (λ (es : List (ℕ × ℕ)). k < length es → (get_or es k (0, 0)).1 < count) (sym same) (is.known k) within in
      omega arith;
  leads = λ late none. let old = is.leads late (sym flag ∙ none) in omega (arith, start, end);
}

-- what a node's edges are, when later ones come
edges-stay : (old added edges : List (ℕ × ℕ)) (first last start end : ℕ) → edges ≡ old ++ added → first ≡ start → last ≡ end
    → start ≤ end → end ≤ length old → take (last - first) (drop first edges) ≡ take (end - start) (drop start old)
edges-stay old added edges first last start end e here there order within =
    ap (λ n. take (last - n) (drop n edges)) here
    ∙ ap (λ n. take (n - start) (drop start edges)) there
    ∙ ap (λ es. take (end - start) (drop start es)) e
    ∙ ap (take (end - start)) (drop-append-le start old added (omega arith))
    ∙ take-append-le (end - start) (drop start old) added (omega (arith, length-drop start old))

edges-last : (old added edges : List (ℕ × ℕ)) (first last : ℕ) → edges ≡ old ++ added → first ≡ length old → last ≡ length edges
    → take (last - first) (drop first edges) ≡ added
edges-last old added edges first last e here there =
    ap (λ n. take (last - n) (drop n edges)) here
    ∙ ap (λ es. take (last - length old) (drop (length old) es)) e
    ∙ ap (take (last - length old)) (drop_at old added (length old) refl)
    ∙ take_all (last - length old) added (omega (arith, ap length e, length-append old added))

-- a word that ends at the depth is the first, and the others are longer
pub begun-word : (words : Words) (first end depth : ℕ) → IsRange words (first, end, depth) → first < end → length (word_at words first) ≡ depth
    → IsBegun words first end depth true (first + 1)
begun-word words first end depth range some ends = record {
  words_are = rests-more words depth first end some
      ∙ ap (λ word. word ∷ rests words depth (first + 1) (end - (first + 1))) (drop_all depth (word_at words first) (omega arith));
  none = λ e. absurd (false≢true (sym e));
  range = range-after words first end depth some range;
  longer = longer-after words first end depth range;
}

pub begun-longer : (words : Words) (first end depth : ℕ) → IsRange words (first, end, depth)
    → (first < end → length (word_at words first) ≡ depth → ⊥) → IsBegun words first end depth false first
begun-longer words first end depth range longer = record {
  words_are = refl;
  none = λ e. refl;
  range = range;
  longer = longer-all words first end depth range longer;
}

-- the node that comes next, its words, its edges and their ranges
pub record IsNext (words : Words) (first end depth begin : ℕ) (flag : Bool) (flags : List Bool) (starts : List ℕ)
    (old_edges edges : List (ℕ × ℕ)) (old_ranges ranges : List (ℕ × ℕ × ℕ)) : Type 0 where
  pub draft : IsDraft words old_ranges (trie flags starts old_edges)
  pub known : length flags < length old_ranges
  pub range : get_or old_ranges (length flags) (0, 0, 0) ≡ (first, end, depth)
  pub begun : IsBegun words first end depth flag begin
  pub a : AreAdded words depth begin end end old_ranges ranges old_edges edges

-- the arrays once it stands
abbrev grown : List Bool → Bool → List ℕ → List (ℕ × ℕ) → Trie
grown flags flag starts edges = trie (flags ++ flag ∷ []) (starts ++ length edges ∷ []) edges

old-edges : (words : Words) (first end depth begin : ℕ) (flag : Bool) (flags : List Bool) (starts : List ℕ)
    (old_edges edges : List (ℕ × ℕ)) (old_ranges ranges : List (ℕ × ℕ × ℕ)) (n : ℕ)
    → IsNext words first end depth begin flag flags starts old_edges edges old_ranges ranges → n < length flags
    → edges_of (grown flags flag starts edges) n ≡ edges_of (trie flags starts old_edges) n
old-edges words first end depth begin flag flags starts old_edges edges old_ranges ranges n next within =
    let old = next.draft.nodes n within in
    let total = next.draft.total in
    edges-stay old_edges next.a.added edges
    (get_or (starts ++ length edges ∷ []) n 0) (get_or (starts ++ length edges ∷ []) (n + 1) 0) (get_or starts n 0) (get_or starts (n + 1) 0)
    next.a.edges_are
    (get_or_append_left starts (length edges ∷ []) 0 n (omega arith))
    (get_or_append_left starts (length edges ∷ []) 0 (n + 1) (omega arith))
    old.order old.within

old-node : (words : Words) (first end depth begin : ℕ) (flag : Bool) (flags : List Bool) (starts : List ℕ)
    (old_edges edges : List (ℕ × ℕ)) (old_ranges ranges : List (ℕ × ℕ × ℕ)) (n : ℕ)
    → IsNext words first end depth begin flag flags starts old_edges edges old_ranges ranges → n < length flags
    → IsNode (length ranges) (grown flags flag starts edges) n
old-node words first end depth begin flag flags starts old_edges edges old_ranges ranges n next within =
    let total = next.draft.total in
    node-same (length old_ranges) (length ranges) (trie flags starts old_edges) (grown flags flag starts edges) n
    (omega (arith, ap length next.a.ranges_are, length-append old_ranges next.a.more))
    (get_or_append_left starts (length edges ∷ []) 0 n (omega arith))
    (get_or_append_left starts (length edges ∷ []) 0 (n + 1) (omega arith))
    (omega (arith, ap length next.a.edges_are, length-append old_edges next.a.added))
    (old-edges words first end depth begin flag flags starts old_edges edges old_ranges ranges n next within)
    (get_or_append_left flags (flag ∷ []) false n within)
    (next.draft.nodes n within)

new-start : (words : Words) (first end depth begin : ℕ) (flag : Bool) (flags : List Bool) (starts : List ℕ)
    (old_edges edges : List (ℕ × ℕ)) (old_ranges ranges : List (ℕ × ℕ × ℕ))
    → IsNext words first end depth begin flag flags starts old_edges edges old_ranges ranges
    → get_or (starts ++ length edges ∷ []) (length flags) 0 ≡ length old_edges
new-start words first end depth begin flag flags starts old_edges edges old_ranges ranges next =
    let total = next.draft.total in
    get_or_append_left starts (length edges ∷ []) 0 (length flags) (omega arith) ∙ next.draft.last

new-end : (words : Words) (first end depth begin : ℕ) (flag : Bool) (flags : List Bool) (starts : List ℕ)
    (old_edges edges : List (ℕ × ℕ)) (old_ranges ranges : List (ℕ × ℕ × ℕ))
    → IsNext words first end depth begin flag flags starts old_edges edges old_ranges ranges
    → get_or (starts ++ length edges ∷ []) (length flags + 1) 0 ≡ length edges
new-end words first end depth begin flag flags starts old_edges edges old_ranges ranges next =
    get_or_push starts (length edges) 0 (length flags + 1) next.draft.total

new-edges : (words : Words) (first end depth begin : ℕ) (flag : Bool) (flags : List Bool) (starts : List ℕ)
    (old_edges edges : List (ℕ × ℕ)) (old_ranges ranges : List (ℕ × ℕ × ℕ))
    → (next : IsNext words first end depth begin flag flags starts old_edges edges old_ranges ranges)
    → edges_of (grown flags flag starts edges) (length flags) ≡ next.a.added
new-edges words first end depth begin flag flags starts old_edges edges old_ranges ranges next =
    edges-last old_edges next.a.added edges (get_or (starts ++ length edges ∷ []) (length flags) 0) (get_or (starts ++ length edges ∷ []) (length flags + 1) 0)
    next.a.edges_are
    (new-start words first end depth begin flag flags starts old_edges edges old_ranges ranges next)
    (new-end words first end depth begin flag flags starts old_edges edges old_ranges ranges next)

new-node : (words : Words) (first end depth begin : ℕ) (flag : Bool) (flags : List Bool) (starts : List ℕ)
    (old_edges edges : List (ℕ × ℕ)) (old_ranges ranges : List (ℕ × ℕ × ℕ))
    → IsNext words first end depth begin flag flags starts old_edges edges old_ranges ranges
    → IsNode (length ranges) (grown flags flag starts edges) (length flags)
new-node words first end depth begin flag flags starts old_edges edges old_ranges ranges next =
    let start = new-start words first end depth begin flag flags starts old_edges edges old_ranges ranges next in
    let last = new-end words first end depth begin flag flags starts old_edges edges old_ranges ranges next in
    let same = new-edges words first end depth begin flag flags starts old_edges edges old_ranges ranges next in
    let a = next.a in
    let longer = omega_of old_edges edges a.added a.edges_are in
    record {
      order = omega arith;
      within = omega arith;
      rises = subst AreEdgesRising (sym same) a.rises;
      later = λ k within.
          let target = subst (λ (es : List (ℕ × ℕ)). k < length es → length old_ranges ≤ (get_or es k (0, 0)).1) (sym same) (a.later k) within in
          let known = next.known in
          omega arith;
      known = λ k within. subst (λ (es : List (ℕ × ℕ)). k < length es → (get_or es k (0, 0)).1 < length ranges) (sym same) (a.known k) within;
      leads = λ late none.
          let here : begin ≡ first = next.begun.none (sym (get_or_push flags flag false (length flags) refl) ∙ none) in
          let some = next.draft.somes (length flags) late next.known in
          let from = ap (λ (r : ℕ × ℕ × ℕ). r.0) next.range in
          let to = ap (λ (r : ℕ × ℕ × ℕ). r.1) next.range in
          let any : 0 < length a.added = a.some (omega arith) in
          omega arith;
    }
  where
    omega_of : (old edges added : List (ℕ × ℕ)) → edges ≡ old ++ added → length edges ≡ length old + length added
    omega_of old edges added e = ap length e ∙ length-append old added

new-filled : (words : Words) (first end depth begin : ℕ) (flag : Bool) (flags : List Bool) (starts : List ℕ)
    (old_edges edges : List (ℕ × ℕ)) (old_ranges ranges : List (ℕ × ℕ × ℕ))
    → IsNext words first end depth begin flag flags starts old_edges edges old_ranges ranges
    → rests_at words ranges (length flags) ≡ empty_word (get_or (flags ++ flag ∷ []) (length flags) false)
    ++ words_along (rests_at words ranges) (edges_of (grown flags flag starts edges) (length flags))
new-filled words first end depth begin flag flags starts old_edges edges old_ranges ranges next =
    rests-at-stay words old_ranges next.a.more ranges (length flags) next.a.ranges_are next.known
    ∙ ap (rests_of words) next.range
    ∙ next.begun.words_are
    ∙ ap (λ xs. empty_word flag ++ xs)
    (next.a.words_are ∙ ap (λ xs. words_along (rests_at words ranges) next.a.added ++ xs) (rests-none words depth end end (omega arith))
    ∙ append-nil (words_along (rests_at words ranges) next.a.added)
    ∙ ap (words_along (rests_at words ranges)) (sym (new-edges words first end depth begin flag flags starts old_edges edges old_ranges ranges next)))
    ∙ ap (λ b. empty_word b ++ words_along (rests_at words ranges) (edges_of (grown flags flag starts edges) (length flags)))
    (sym (get_or_push flags flag false (length flags) refl))

old-filled : (words : Words) (first end depth begin : ℕ) (flag : Bool) (flags : List Bool) (starts : List ℕ)
    (old_edges edges : List (ℕ × ℕ)) (old_ranges ranges : List (ℕ × ℕ × ℕ)) (n : ℕ)
    → IsNext words first end depth begin flag flags starts old_edges edges old_ranges ranges → n < length flags
    → rests_at words ranges n ≡ empty_word (get_or (flags ++ flag ∷ []) n false)
    ++ words_along (rests_at words ranges) (edges_of (grown flags flag starts edges) n)
old-filled words first end depth begin flag flags starts old_edges edges old_ranges ranges n next within =
    let old = next.draft.nodes n within in
    let done = next.known in
    rests-at-stay words old_ranges next.a.more ranges n next.a.ranges_are (omega arith)
    ∙ next.draft.filled n within
    ∙ ap (λ xs. empty_word (get_or flags n false) ++ xs)
    (along-same (rests_at words old_ranges) (rests_at words ranges) (edges_of (trie flags starts old_edges) n) (λ k here.
    sym (rests-at-stay words old_ranges next.a.more ranges (get_or (edges_of (trie flags starts old_edges) n) k (0, 0)).1 next.a.ranges_are (old.known k here)))
    ∙ ap (words_along (rests_at words ranges)) (sym (old-edges words first end depth begin flag flags starts old_edges edges old_ranges ranges n next within)))
    ∙ ap (λ b. empty_word b ++ words_along (rests_at words ranges) (edges_of (grown flags flag starts edges) n))
    (sym (get_or_append_left flags (flag ∷ []) false n within))

-- what holds of the old nodes and of the new one holds of all
each-node : (P : ℕ → Type 0) (flags : List Bool) (flag : Bool) → ((n : ℕ) → n < length flags → P n) → P (length flags)
    → (n : ℕ) → n < length (flags ++ flag ∷ []) → P n
each-node P flags flag old new n within =
    elim (cases_lt n (length flags)) [
      | inl less ↦ old n less
      | inr least ↦
          let e : length flags ≡ n = omega (arith, length_push flags flag) in
          subst P e new
    ]

-- the node stands
pub node-added : (words : Words) (first end depth begin : ℕ) (flag : Bool) (flags : List Bool) (starts : List ℕ)
    (old_edges edges : List (ℕ × ℕ)) (old_ranges ranges : List (ℕ × ℕ × ℕ))
    → IsNext words first end depth begin flag flags starts old_edges edges old_ranges ranges
    → IsDraft words ranges (trie (flags ++ flag ∷ []) (starts ++ length edges ∷ []) edges)
node-added words first end depth begin flag flags starts old_edges edges old_ranges ranges next =
    let a = next.a in
    let d = next.draft in
    let count : length ranges ≡ length old_ranges + length a.more = ap length a.ranges_are ∙ length-append old_ranges a.more in
    record {
      done = omega (arith, next.known, length_push flags flag);
      total = omega (arith, d.total, length_push flags flag, length_push starts (length edges));
      last = get_or_push starts (length edges) 0 (length (flags ++ flag ∷ [])) (omega (arith, d.total, length_push flags flag));
      some = omega (arith, d.some);
      root = ap (λ l. get_or l 0 (0, 0, 0)) a.ranges_are ∙ get_or_append_left old_ranges a.more (0, 0, 0) 0 d.some ∙ d.root;
      ranges_are = λ n within. append-at (IsRange words) (0, 0, 0) old_ranges a.more ranges a.ranges_are n within (d.ranges_are n) a.groups;
      somes = λ n late within. append-at (λ (r : ℕ × ℕ × ℕ). r.0 < r.1) (0, 0, 0) old_ranges a.more ranges a.ranges_are n within (d.somes n late) a.somes;
      nodes = each-node (IsNode (length ranges) (grown flags flag starts edges)) flags flag
          (λ n within. old-node words first end depth begin flag flags starts old_edges edges old_ranges ranges n next within)
          (new-node words first end depth begin flag flags starts old_edges edges old_ranges ranges next);
      filled = each-node (λ n. rests_at words ranges n ≡ empty_word (get_or (flags ++ flag ∷ []) n false)
          ++ words_along (rests_at words ranges) (edges_of (grown flags flag starts edges) n)) flags flag
          (λ n within. old-filled words first end depth begin flag flags starts old_edges edges old_ranges ranges n next within)
          (new-filled words first end depth begin flag flags starts old_edges edges old_ranges ranges next);
    }

-- and less is left
pub node-owes : (words : Words) (first end depth begin : ℕ) (flag : Bool) (flags : List Bool) (starts : List ℕ)
    (old_edges edges : List (ℕ × ℕ)) (old_ranges ranges : List (ℕ × ℕ × ℕ))
    → IsNext words first end depth begin flag flags starts old_edges edges old_ranges ranges
    → left words ranges (length (flags ++ flag ∷ [])) < left words old_ranges (length flags)
node-owes words first end depth begin flag flags starts old_edges edges old_ranges ranges next =
    let a = next.a in
    let count : length (flags ++ flag ∷ []) ≡ length flags + 1 = length_push flags flag in
    let before : left words old_ranges (length flags) ≡ 1 + total (rests words depth first (end - first)) + owed words (drop (length flags + 1) old_ranges)
    = ap (owed words) (drop_more old_ranges (length flags) (0, 0, 0) next.known)
    ∙ ap (λ r. 1 + total (rests_of words r) + owed words (drop (length flags + 1) old_ranges)) next.range in
    let after : left words ranges (length (flags ++ flag ∷ [])) ≡ owed words (drop (length flags + 1) old_ranges) + owed words a.more
    = ap (λ n. owed words (drop n ranges)) count
    ∙ ap (λ rs. owed words (drop (length flags + 1) rs)) a.ranges_are
    ∙ ap (owed words) (drop-append-le (length flags + 1) old_ranges a.more (omega (arith, next.known)))
    ∙ owed-append words (drop (length flags + 1) old_ranges) a.more in
    let begun : total (rests words depth first (end - first)) ≡ total (empty_word flag) + total (rests words depth begin (end - begin))
    = ap total next.begun.words_are ∙ total-append (empty_word flag) (rests words depth begin (end - begin)) in
    let owes = a.owes in
    omega arith

-- where all nodes stand, the draft is a trie
pub draft-trie : (words : Words) (ranges : List (ℕ × ℕ × ℕ)) (t : Trie) → IsDraft words ranges t → length ranges ≤ length t.flags → IsTrie t
draft-trie words ranges t d all =
    let done = d.done in
    let some = d.some in
    let e : length ranges ≡ length t.flags = omega arith in
    record {
      root = omega arith;
      total = d.total;
      nodes = λ n within. subst (λ count. IsNode count t n) e (d.nodes n within);
    }

pub draft-words : (words : Words) (ranges : List (ℕ × ℕ × ℕ)) (t : Trie) → IsDraft words ranges t → length ranges ≤ length t.flags
    → words_from t 0 ≡ words
draft-words words ranges t d all =
    words-filled t (rests_at words ranges) (draft-trie words ranges t d all) d.filled
    ∙ ap (rests_of words) d.root
    ∙ rests-all words 0 (length words - 0) (omega arith)
