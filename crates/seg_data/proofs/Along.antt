-- The words along edges, and what follows a code point in them.
use Rattle.std.proofs.Common.{◌≡◌, ℕ, zero, suc, ◌+◌, ◌<◌, ◌≤◌, Bool, true, false, cond, eqb, ltb, List, [], ◌∷◌, ◌++◌, length, map, get_or, refl, sym, ap, ◌∙◌, inl, inr, arith}
use Rattle.std.proofs.lemmas.Bool.{cases_lt, eq-eqb, ne_eqb, lt-ltb}
use Rattle.std.proofs.lemmas.List.{append-nil, append_assoc, length-append, length-map}
use Rattle.seg_data.specs.WordSets.{Words, tails_after, has_empty, has_nonempty}
use Rattle.seg_data.specs.Trie.{empty_word, words_along, AreEdgesRising, IsFirstFrom}

pub along-same : (f g : ℕ → Words) (edges : List (ℕ × ℕ))
    → ((k : ℕ) → k < length edges → f (get_or edges k (0, 0)).1 ≡ g (get_or edges k (0, 0)).1) → words_along f edges ≡ words_along g edges
along-same f g [] same = refl
along-same f g (edge ∷ edges) same =
    ap (λ words. map (λ word. edge.0 ∷ word) words ++ words_along f edges) (same 0 (omega arith))
    ∙ ap (λ words. map (λ word. edge.0 ∷ word) (g edge.1) ++ words) (along-same f g edges (λ k within. same (suc k) (omega arith)))

pub along-append : (f : ℕ → Words) (xs ys : List (ℕ × ℕ)) → words_along f (xs ++ ys) ≡ words_along f xs ++ words_along f ys
along-append f [] ys = refl
along-append f (edge ∷ xs) ys =
    ap (λ words. map (λ word. edge.0 ∷ word) (f edge.1) ++ words) (along-append f xs ys)
    ∙ sym (append_assoc (map (λ word. edge.0 ∷ word) (f edge.1)) (words_along f xs) (words_along f ys))

-- where each edge leads to a word, there are words along edges
pub along-some : (f : ℕ → Words) (edges : List (ℕ × ℕ)) → 0 < length edges
    → ((k : ℕ) → k < length edges → 0 < length (f (get_or edges k (0, 0)).1)) → 0 < length (words_along f edges)
along-some f [] any some = absurd (omega arith)
along-some f (edge ∷ edges) any some =
    let here : 0 < length (f edge.1) = some 0 (omega arith) in
    omega (arith, here, length-append (map (λ word. edge.0 ∷ word) (f edge.1)) (words_along f edges), length-map (f edge.1) (λ word. edge.0 ∷ word))

extended-empty : (code_point : ℕ) (words rest : Words) → has_empty (map (λ word. code_point ∷ word) words ++ rest) ≡ has_empty rest
extended-empty code_point [] rest = refl
extended-empty code_point (word ∷ words) rest = extended-empty code_point words rest

along-empty : (f : ℕ → Words) (edges : List (ℕ × ℕ)) → has_empty (words_along f edges) ≡ false
along-empty f [] = refl
along-empty f (edge ∷ edges) = extended-empty edge.0 (f edge.1) (words_along f edges) ∙ along-empty f edges

-- the empty word is not along edges
pub node-empty : (flag : Bool) (f : ℕ → Words) (edges : List (ℕ × ℕ)) → has_empty (empty_word flag ++ words_along f edges) ≡ flag
node-empty true f edges = refl
node-empty false f edges = along-empty f edges

extended-nonempty : (code_point : ℕ) (words rest : Words) → 0 < length words
    → has_nonempty (map (λ word. code_point ∷ word) words ++ rest) ≡ true
extended-nonempty code_point [] rest some = absurd (omega arith)
extended-nonempty code_point (word ∷ words) rest some = refl

along-nonempty : (f : ℕ → Words) (edges : List (ℕ × ℕ))
    → ((k : ℕ) → k < length edges → 0 < length (f (get_or edges k (0, 0)).1)) → has_nonempty (words_along f edges) ≡ ltb 0 (length edges)
along-nonempty f [] some = refl
along-nonempty f (edge ∷ edges) some =
    extended-nonempty edge.0 (f edge.1) (words_along f edges) (some 0 (omega arith))
    ∙ sym (lt-ltb 0 (length (edge ∷ edges)) (omega arith))

-- the others are: where each edge leads to a word, there are some if there are edges
pub node-nonempty : (flag : Bool) (f : ℕ → Words) (edges : List (ℕ × ℕ))
    → ((k : ℕ) → k < length edges → 0 < length (f (get_or edges k (0, 0)).1))
    → has_nonempty (empty_word flag ++ words_along f edges) ≡ ltb 0 (length edges)
node-nonempty true f edges some = along-nonempty f edges some
node-nonempty false f edges some = along-nonempty f edges some

tails-append : (code_point : ℕ) (xs ys : Words) → tails_after code_point (xs ++ ys) ≡ tails_after code_point xs ++ tails_after code_point ys
tails-append code_point [] ys = refl
tails-append code_point ([] ∷ xs) ys = tails-append code_point xs ys
tails-append code_point ((first ∷ rest) ∷ xs) ys =
    elim (eqb first code_point) as (λ b. cond b (rest ∷ tails_after code_point (xs ++ ys)) (tails_after code_point (xs ++ ys))
    ≡ cond b (rest ∷ tails_after code_point xs) (tails_after code_point xs) ++ tails_after code_point ys) [
      | true ↦ ap (λ words. rest ∷ words) (tails-append code_point xs ys)
      | false ↦ tails-append code_point xs ys
    ]

tails-own : (code_point : ℕ) (words : Words) → tails_after code_point (map (λ word. code_point ∷ word) words) ≡ words
tails-own code_point [] = refl
tails-own code_point (word ∷ words) =
    ap (λ b. cond b (word ∷ tails_after code_point (map (λ w. code_point ∷ w) words)) (tails_after code_point (map (λ w. code_point ∷ w) words)))
    (eq-eqb code_point code_point refl)
    ∙ ap (λ later. word ∷ later) (tails-own code_point words)

tails-other : (code_point other : ℕ) (words : Words) → eqb other code_point ≡ false → tails_after code_point (map (λ word. other ∷ word) words) ≡ []
tails-other code_point other [] differs = refl
tails-other code_point other (word ∷ words) differs =
    ap (λ b. cond b (word ∷ tails_after code_point (map (λ w. other ∷ w) words)) (tails_after code_point (map (λ w. other ∷ w) words))) differs
    ∙ tails-other code_point other words differs

pub tails-node : (flag : Bool) (code_point : ℕ) (words : Words) → tails_after code_point (empty_word flag ++ words) ≡ tails_after code_point words
tails-node true code_point words = refl
tails-node false code_point words = refl

-- no edge has the code point
none-along : (f : ℕ → Words) (code_point : ℕ) (edges : List (ℕ × ℕ))
    → ((k : ℕ) → k < length edges → eqb (get_or edges k (0, 0)).0 code_point ≡ false) → tails_after code_point (words_along f edges) ≡ []
none-along f code_point [] differ = refl
none-along f code_point (edge ∷ edges) differ =
    tails-append code_point (map (λ word. edge.0 ∷ word) (f edge.1)) (words_along f edges)
    ∙ ap (λ words. words ++ tails_after code_point (words_along f edges)) (tails-other code_point edge.0 (f edge.1) (differ 0 (omega arith)))
    ∙ none-along f code_point edges (λ k within. differ (suc k) (omega arith))

-- one edge has it
one-along : (f : ℕ → Words) (code_point : ℕ) (edges : List (ℕ × ℕ)) (place : ℕ) → place < length edges
    → (get_or edges place (0, 0)).0 ≡ code_point
    → ((k : ℕ) → k < length edges → (k ≡ place → ⊥) → eqb (get_or edges k (0, 0)).0 code_point ≡ false)
    → tails_after code_point (words_along f edges) ≡ f (get_or edges place (0, 0)).1
one-along f code_point [] place within same differ = absurd (omega arith)
one-along f code_point (edge ∷ edges) zero within same differ =
    tails-append code_point (map (λ word. edge.0 ∷ word) (f edge.1)) (words_along f edges)
    ∙ ap (λ words. words ++ tails_after code_point (words_along f edges))
    (ap (λ first. tails_after code_point (map (λ word. first ∷ word) (f edge.1))) same ∙ tails-own code_point (f edge.1))
    ∙ ap (λ words. f edge.1 ++ words) (none-along f code_point edges (λ k below. differ (suc k) (omega arith) (λ e. absurd (omega arith))))
    ∙ append-nil (f edge.1)
one-along f code_point (edge ∷ edges) (suc place) within same differ =
    tails-append code_point (map (λ word. edge.0 ∷ word) (f edge.1)) (words_along f edges)
    ∙ ap (λ words. words ++ tails_after code_point (words_along f edges))
    (tails-other code_point edge.0 (f edge.1) (differ 0 (omega arith) (λ e. absurd (omega arith))))
    ∙ one-along f code_point edges place (omega arith) same (λ k below other. differ (suc k) (omega arith) (λ e. other (omega arith)))

-- the first edge that isn't below the code point has it
pub edge-found : (f : ℕ → Words) (code_point : ℕ) (edges : List (ℕ × ℕ)) (place : ℕ) → AreEdgesRising edges → IsFirstFrom edges code_point place
    → place < length edges → (get_or edges place (0, 0)).0 ≡ code_point
    → tails_after code_point (words_along f edges) ≡ f (get_or edges place (0, 0)).1
edge-found f code_point edges place rising first within same =
    one-along f code_point edges place within same (λ k below other. ne_eqb (get_or edges k (0, 0)).0 code_point (λ equal.
    elim (cases_lt k place) [
      | inl less ↦ let before = first.before k less in omega arith
      | inr least ↦ let above = rising place k (omega arith) below in omega arith
    ]))

-- no edge has it
pub edge-missing : (f : ℕ → Words) (code_point : ℕ) (edges : List (ℕ × ℕ)) (place : ℕ) → AreEdgesRising edges → IsFirstFrom edges code_point place
    → (place < length edges → (get_or edges place (0, 0)).0 ≡ code_point → ⊥)
    → tails_after code_point (words_along f edges) ≡ []
edge-missing f code_point edges place rising first missing =
    none-along f code_point edges (λ k below. ne_eqb (get_or edges k (0, 0)).0 code_point (λ equal.
    elim (cases_lt k place) [
      | inl less ↦ let before = first.before k less in omega arith
      | inr least ↦ elim (cases_lt place k) [
        | inl more ↦ let above = rising place k more below in let after = first.after place (omega arith) (omega arith) in omega arith
        | inr most ↦
            let e : place ≡ k = omega arith in
            missing (omega arith) (ap (λ i. (get_or edges i (0, 0)).0) e ∙ equal)
      ]
    ]))

-- halving: what is below the middle's code point
pub all-before : (edges : List (ℕ × ℕ)) (code_point middle : ℕ) → AreEdgesRising edges → middle < length edges
    → (get_or edges middle (0, 0)).0 < code_point → (k : ℕ) → k < middle + 1 → (get_or edges k (0, 0)).0 < code_point
all-before edges code_point middle rising within low k below =
    elim (cases_lt k middle) [
      | inl less ↦ let up = rising k middle less within in omega arith
      | inr least ↦
          let e : k ≡ middle = omega arith in
          rw e low
    ]

pub all-after : (edges : List (ℕ × ℕ)) (code_point middle : ℕ) → AreEdgesRising edges
    → code_point ≤ (get_or edges middle (0, 0)).0 → (k : ℕ) → middle ≤ k → k < length edges → code_point ≤ (get_or edges k (0, 0)).0
all-after edges code_point middle rising high k above within =
    elim (cases_lt middle k) [
      | inl less ↦ let up = rising middle k less within in omega arith
      | inr least ↦
          let e : k ≡ middle = omega arith in
          rw e high
    ]
