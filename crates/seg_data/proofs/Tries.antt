-- The words of a trie, node by node.
use Rattle.std.proofs.Common.{◌≡◌, ℕ, zero, suc, ◌+◌, ◌-◌, ◌<◌, ◌≤◌, true, false, ltb, List, [], ◌++◌, length, take, drop, get_or, refl, sym, ap, ◌∙◌, arith}
use Rattle.std.proofs.lemmas.Bool.Decides.{nat_tests}
use Rattle.std.specs.Prelude.{Option}
use Rattle.std.specs.Option.{option_map_or}
use Rattle.std.proofs.lemmas.List.{length-take-le, length-drop, get_or_read}
use Rattle.seg_data.specs.WordSets.{Words, has_empty, has_nonempty, tails_after}
use Rattle.seg_data.specs.Trie.{Trie, edges_of, empty_word, words_along, words_below, words_from, IsNode, IsTrie}
use Rattle.seg_data.proofs.Along.{along-same, along-some, node-empty, node-nonempty, tails-node}

pub edges-count : (count : ℕ) (t : Trie) (node : ℕ) → IsNode count t node
    → length (edges_of t node) ≡ get_or t.starts (node + 1) 0 - get_or t.starts node 0
edges-count count t node is =
    length-take-le (get_or t.starts (node + 1) 0 - get_or t.starts node 0) (drop (get_or t.starts node 0) t.edges)
    (omega (arith, is.order, is.within, length-drop (get_or t.starts node 0) t.edges))

-- any bound that is high enough gives the same words
below-same : (t : Trie) → IsTrie t → (a b node : ℕ) → node < length t.flags → length t.flags ≤ node + a → length t.flags ≤ node + b
    → words_below t a node ≡ words_below t b node
unfolding words_below
below-same t is zero b node within enough also = absurd (omega arith)
below-same t is (suc a) zero node within enough also = absurd (omega arith)
below-same t is (suc a) (suc b) node within enough also =
    ap (λ words. empty_word (get_or t.flags node false) ++ words) (along-same (words_below t a) (words_below t b) (edges_of t node) (λ k here.
    let later = (is.nodes node within).later k here in
    let known = (is.nodes node within).known k here in
    below-same t is a b (get_or (edges_of t node) k (0, 0)).1 known (omega arith) (omega arith)))

-- the words from a node: the empty one if the node is a word, and those along its edges
pub words-are : (t : Trie) (node : ℕ) → IsTrie t → node < length t.flags
    → words_from t node ≡ empty_word (get_or t.flags node false) ++ words_along (words_from t) (edges_of t node)
unfolding words_from words_below
words-are t node is within =
    ap (λ words. empty_word (get_or t.flags node false) ++ words) (along-same (words_below t (length t.flags)) (words_below t (suc (length t.flags))) (edges_of t node) (λ k here.
    let later = (is.nodes node within).later k here in
    let known = (is.nodes node within).known k here in
    below-same t is (length t.flags) (suc (length t.flags)) (get_or (edges_of t node) k (0, 0)).1 known (omega arith) (omega arith)))

-- each node but the root leads to a word
below-some : (t : Trie) → IsTrie t → (bound node : ℕ) → 0 < node → node < length t.flags → length t.flags ≤ node + bound
    → 0 < length (words_below t bound node)
unfolding words_below
below-some t is zero node late within enough = absurd (omega arith)
below-some t is (suc bound) node late within enough =
    elim (get_or t.flags node false) as (λ flag. get_or t.flags node false ≡ flag → 0 < length (empty_word flag ++ words_along (words_below t bound) (edges_of t node))) [
      | true ↦ λ same. omega arith
      | false ↦ λ same.
          let one = is.nodes node within in
          let leads = one.leads late same in
          along-some (words_below t bound) (edges_of t node) (omega (arith, leads, edges-count (length t.flags) t node one)) (λ k here.
          let later = one.later k here in
          let known = one.known k here in
          below-some t is bound (get_or (edges_of t node) k (0, 0)).1 (omega arith) known (omega arith))
    ] refl

from-some : (t : Trie) (node : ℕ) → IsTrie t → 0 < node → node < length t.flags → 0 < length (words_from t node)
unfolding words_from
from-some t node is late within = below-some t is (suc (length t.flags)) node late within (omega arith)

-- a node is a word where the empty word is among its words
pub node-is-word : (t : Trie) (node : ℕ) → IsTrie t → node < length t.flags → get_or t.flags node false ≡ has_empty (words_from t node)
node-is-word t node is within =
    sym (ap has_empty (words-are t node is within) ∙ node-empty (get_or t.flags node false) (words_from t) (edges_of t node))

tests-agree : (count start end : ℕ) → count ≡ end - start → ltb 0 count ≡ ltb start end
tests-agree count start end same = grind (arith, nat_tests)

-- it has edges where a longer word is
pub node-goes-on : (t : Trie) (node : ℕ) → IsTrie t → node < length t.flags
    → ltb (get_or t.starts node 0) (get_or t.starts (node + 1) 0) ≡ has_nonempty (words_from t node)
node-goes-on t node is within =
    let one = is.nodes node within in
    sym (ap has_nonempty (words-are t node is within)
    ∙ node-nonempty (get_or t.flags node false) (words_from t) (edges_of t node) (λ k here.
    let later = one.later k here in
    let known = one.known k here in
    from-some t (get_or (edges_of t node) k (0, 0)).1 is (omega arith) known)
    ∙ tests-agree (length (edges_of t node)) (get_or t.starts node 0) (get_or t.starts (node + 1) 0) (edges-count (length t.flags) t node one))

-- words that meet the same equations are the trie's
pub filled-words : (t : Trie) (f : ℕ → Words) → IsTrie t
    → ((node : ℕ) → node < length t.flags → f node ≡ empty_word (get_or t.flags node false) ++ words_along f (edges_of t node))
    → (bound node : ℕ) → node < length t.flags → length t.flags ≤ node + bound → f node ≡ words_below t bound node
unfolding words_below
filled-words t f is filled zero node within enough = absurd (omega arith)
filled-words t f is filled (suc bound) node within enough =
    filled node within
    ∙ ap (λ words. empty_word (get_or t.flags node false) ++ words) (along-same f (words_below t bound) (edges_of t node) (λ k here.
    let later = (is.nodes node within).later k here in
    let known = (is.nodes node within).known k here in
    filled-words t f is filled bound (get_or (edges_of t node) k (0, 0)).1 known (omega arith)))

pub words-filled : (t : Trie) (f : ℕ → Words) → IsTrie t
    → ((node : ℕ) → node < length t.flags → f node ≡ empty_word (get_or t.flags node false) ++ words_along f (edges_of t node))
    → words_from t 0 ≡ f 0
unfolding words_from
words-filled t f is filled = sym (filled-words t f is filled (suc (length t.flags)) 0 is.root (omega arith))

-- what the edges of a node tell of a code point
pub node-target : (t : Trie) (code_point node start end : ℕ) (edges : List (ℕ × ℕ)) (result : Option ℕ) → IsTrie t → node < length t.flags
    → start ≡ get_or t.starts node start → end ≡ get_or t.starts (node + 1) end → edges ≡ take (end - start) (drop start t.edges)
    → tails_after code_point (words_along (words_from t) edges) ≡ option_map_or (words_from t) result []
    → option_map_or (words_from t) result [] ≡ tails_after code_point (words_from t node)
node-target t code_point node start end edges result is within here next same found =
    let first : start ≡ get_or t.starts node 0 = get_or_read t.starts node start (omega (arith, is.total)) here 0 in
    let last : end ≡ get_or t.starts (node + 1) 0 = get_or_read t.starts (node + 1) end (omega (arith, is.total)) next 0 in
    let all : edges ≡ edges_of t node
    = same ∙ ap (λ n. take (end - n) (drop n t.edges)) first ∙ ap (λ n. take (n - get_or t.starts node 0) (drop (get_or t.starts node 0) t.edges)) last in
    sym (ap (tails_after code_point) (words-are t node is within)
    ∙ tails-node (get_or t.flags node false) code_point (words_along (words_from t) (edges_of t node))
    ∙ ap (λ xs. tails_after code_point (words_along (words_from t) xs)) (sym all) ∙ found)

pub node-tests : (t : Trie) (node start end : ℕ) → IsTrie t → node < length t.flags
    → start ≡ get_or t.starts node start → end ≡ get_or t.starts (node + 1) end → ltb start end ≡ has_nonempty (words_from t node)
node-tests t node start end is within here next =
    let first : start ≡ get_or t.starts node 0 = get_or_read t.starts node start (omega (arith, is.total)) here 0 in
    let last : end ≡ get_or t.starts (node + 1) 0 = get_or_read t.starts (node + 1) end (omega (arith, is.total)) next 0 in
    ap (λ n. ltb n end) first ∙ ap (ltb (get_or t.starts node 0)) last ∙ node-goes-on t node is within
