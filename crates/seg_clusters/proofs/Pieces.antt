-- The pieces of a list of code points are its only ones.
use Rattle.std.proofs.Common.{◌≡◌, ◌≢◌, ℕ, zero, suc, ◌+◌, ◌<◌, ◌≤◌, Bool, true, false, cond, Some, List, [], ◌∷◌, ◌++◌, length, take, drop, slice_get, refl, sym, ap, ◌∙◌, subst, arith}
use Rattle.std.specs.List.{prefix_len}
use Rattle.std.proofs.lemmas.Bool.{eq-eqb, eqb-true}
use Rattle.std.proofs.lemmas.List.{length-drop, take-append-drop, take-map}
use Rattle.std.proofs.lemmas.Option.{same_Some, none-some}
use Rattle.std.proofs.Math.Seq.{take-append_seam, drop-append_seam}
use Rattle.seg_text.specs.Items.{Item, Text, rest_after, text_before, code_points, prefix_length}
use Rattle.seg_text.proofs.Places.{code_points-drop}
use Rattle.seg_data.specs.declared.provider.ComplexScript.{ComplexScript}
use Rattle.seg_data.specs.declared.provider.ComplexScript.TheVariants.{None, Myanmar, ChineseOrJapanese, Khmer, Lao, Thai}
use Rattle.seg_clusters.specs.Scripts.{script_of, script_number, has_script, HaveScript, IsPiece, Differ, joined_pieces, ArePieces, piece_length, pieces_within, pieces}

-- a script is told by its number
pub same-number : (a b : ComplexScript) → script_number a ≡ script_number b → a ≡ b
same-number None None same = refl
same-number None b same = absurd (omega arith)
same-number Myanmar Myanmar same = refl
same-number Myanmar b same = absurd (omega arith)
same-number ChineseOrJapanese ChineseOrJapanese same = refl
same-number ChineseOrJapanese b same = absurd (omega arith)
same-number Khmer Khmer same = refl
same-number Khmer b same = absurd (omega arith)
same-number Lao Lao same = refl
same-number Lao b same = absurd (omega arith)
same-number Thai Thai same = refl
same-number Thai b same = absurd (omega arith)

pub has-from : (script : ComplexScript) (code_point : ℕ) → script_of code_point ≡ script → has_script script code_point ≡ true
has-from script code_point is = eq-eqb _ _ (ap script_number is)

has-is : (script : ComplexScript) (code_point : ℕ) → has_script script code_point ≡ true → script_of code_point ≡ script
has-is script code_point has = same-number _ _ (eqb-true _ _ has)

-- the code points don't go on with this script
abbrev Stops : ComplexScript → List ℕ → Type 0
Stops script [] = Unit {0}
Stops script (code_point ∷ code_points) = has_script script code_point ≡ false

prefix-has : (script : ComplexScript) (code_points : List ℕ) → HaveScript script (take (prefix_len (has_script script) code_points) code_points)
prefix-has script [] = tt
prefix-has script (code_point ∷ code_points) = on (has_script script code_point) (has-is script code_point) (prefix-has script code_points)
  where
    rest : ℕ
    rest = prefix_len (has_script script) code_points

    on : (b : Bool) → (b ≡ true → script_of code_point ≡ script) → HaveScript script (take rest code_points)
        → HaveScript script (take (cond b (1 + rest) 0) (code_point ∷ code_points))
    on true is later = let one : 1 + rest ≡ suc rest = omega arith in rw one (is refl, later)
    on false is later = tt

prefix-stops : (script : ComplexScript) (code_points : List ℕ) → Stops script (drop (prefix_len (has_script script) code_points) code_points)
prefix-stops script [] = tt
prefix-stops script (code_point ∷ code_points) = on (has_script script code_point) refl (prefix-stops script code_points)
  where
    rest : ℕ
    rest = prefix_len (has_script script) code_points

    on : (b : Bool) → has_script script code_point ≡ b → Stops script (drop rest code_points)
        → Stops script (drop (cond b (1 + rest) 0) (code_point ∷ code_points))
    on true is later = let one : 1 + rest ≡ suc rest = omega arith in rw one later
    on false is later = is

prefix-whole : (script : ComplexScript) (piece others : List ℕ) → HaveScript script piece → Stops script others
    → prefix_len (has_script script) (piece ++ others) ≡ length piece
prefix-whole script [] [] have stops = refl
prefix-whole script [] (other ∷ others) have stops = rw stops refl
prefix-whole script (code_point ∷ piece) others have stops =
    rw (has-from script code_point have.0) (omega (arith, prefix-whole script piece others have.1 stops))

pub piece-some : (first : ℕ) (rest : List ℕ) → 0 < piece_length (first ∷ rest)
piece-some first rest = rw (has-from (script_of first) first refl) (omega arith)

fewer : (n most : ℕ) (first : ℕ) (rest : List ℕ) → 0 < n → length (first ∷ rest) ≤ suc most → length (drop n (first ∷ rest)) ≤ most
fewer n most first rest some bound = omega (arith, length-drop n (first ∷ rest))

pieces-nil : pieces [] ≡ []
unfolding pieces pieces_within
pieces-nil = refl

-- more pieces than the code points that there are change nothing
pieces-more : (most more : ℕ) (code_points : List ℕ) → length code_points ≤ most → length code_points ≤ more
    → pieces_within most code_points ≡ pieces_within more code_points
unfolding pieces_within
pieces-more zero zero code_points bound other = refl
pieces-more zero (suc more) [] bound other = refl
pieces-more zero (suc more) (first ∷ rest) bound other = absurd (omega arith)
pieces-more (suc most) zero [] bound other = refl
pieces-more (suc most) zero (first ∷ rest) bound other = absurd (omega arith)
pieces-more (suc most) (suc more) [] bound other = refl
pieces-more (suc most) (suc more) (first ∷ rest) bound other =
    let n = piece_length (first ∷ rest) in
    ap (λ (later : List (List ℕ)). take n (first ∷ rest) ∷ later)
    (pieces-more most more (drop n (first ∷ rest)) (fewer n most first rest (piece-some first rest) bound) (fewer n more first rest (piece-some first rest) other))

-- the first piece, and then those of what is left
pieces-next : (first : ℕ) (rest : List ℕ)
    → pieces (first ∷ rest) ≡ take (piece_length (first ∷ rest)) (first ∷ rest) ∷ pieces (drop (piece_length (first ∷ rest)) (first ∷ rest))
unfolding pieces pieces_within
pieces-next first rest =
    let n = piece_length (first ∷ rest) in
    ap (λ (later : List (List ℕ)). take n (first ∷ rest) ∷ later)
    (pieces-more (length rest) (length (drop n (first ∷ rest))) (drop n (first ∷ rest)) (fewer n (length rest) first rest (piece-some first rest) (omega arith)) (omega arith))

-- they are pieces

head-has : (script : ComplexScript) (n first : ℕ) (rest : List ℕ) → 0 < n → HaveScript script (take n (first ∷ rest)) → script_of first ≡ script
head-has script zero first rest some have = absurd (omega arith)
head-has script (suc n) first rest some have = have.0

head-some : (n first : ℕ) (rest : List ℕ) → 0 < n → take n (first ∷ rest) ≢ []
head-some zero first rest some none = absurd (omega arith)
head-some (suc n) first rest some none = absurd cc

first-differs : (first : ℕ) (rest : List ℕ) (others : List (List ℕ)) (next : List ℕ)
    → ArePieces (drop (piece_length (first ∷ rest)) (first ∷ rest)) others → slice_get others 0 ≡ Some next
    → Differ (take (piece_length (first ∷ rest)) (first ∷ rest)) next
first-differs first rest [] next are is script have has = absurd (none-some _ is)
first-differs first rest ([] ∷ others) next are is script have has = absurd (are.each.0.0 refl)
first-differs first rest ((other ∷ piece) ∷ others) next are is script have has =
    let stops : has_script (script_of first) other ≡ false = subst (Stops (script_of first)) (sym are.whole) (prefix-stops (script_of first) (first ∷ rest)) in
    let own : script_of first ≡ script = head-has script (piece_length (first ∷ rest)) first rest (piece-some first rest) have in
    let its : HaveScript script (other ∷ piece) = subst (HaveScript script) (sym (same_Some _ _ is)) has in
    let goes : has_script (script_of first) other ≡ true = has-from (script_of first) other (its.0 ∙ sym own) in
    absurd cc

pieces-on : (first : ℕ) (rest : List ℕ) (others : List (List ℕ))
    → ArePieces (drop (piece_length (first ∷ rest)) (first ∷ rest)) others
    → ArePieces (first ∷ rest) (take (piece_length (first ∷ rest)) (first ∷ rest) ∷ others)
pieces-on first rest others are = record {
  whole = ap (λ (later : List ℕ). take n (first ∷ rest) ++ later) are.whole ∙ take-append-drop n (first ∷ rest);
  each = ((head-some n first rest (piece-some first rest), (script_of first, prefix-has (script_of first) (first ∷ rest))), are.each);
  differ = apart;
}
  where
    n : ℕ
    n = piece_length (first ∷ rest)

    apart : (k : ℕ) (piece next : List ℕ) → slice_get (take n (first ∷ rest) ∷ others) k ≡ Some piece
        → slice_get (take n (first ∷ rest) ∷ others) (suc k) ≡ Some next → Differ piece next
    apart zero piece next here later = subst (λ (piece : List ℕ). Differ piece next) (same_Some _ _ here) (first-differs first rest others next are later)
    apart (suc k) piece next here later = are.differ k piece next here later

are-within : (most : ℕ) (code_points : List ℕ) → length code_points ≤ most → ArePieces code_points (pieces code_points)
are-within most [] bound =
    rw pieces-nil (record { whole = refl; each = tt; differ = λ k piece next here later. absurd (none-some _ here) })
are-within zero (first ∷ rest) bound = absurd (omega arith)
are-within (suc most) (first ∷ rest) bound =
    let n = piece_length (first ∷ rest) in
    rw (pieces-next first rest) (pieces-on first rest _ (are-within most (drop n (first ∷ rest)) (fewer n most first rest (piece-some first rest) bound)))

pub pieces-are : (code_points : List ℕ) → ArePieces code_points (pieces code_points)
pieces-are code_points = are-within (length code_points) code_points (omega arith)

-- and nothing else is

pieces-rest : (piece : List ℕ) (found : List (List ℕ)) (code_points : List ℕ) → ArePieces code_points (piece ∷ found) → ArePieces (joined_pieces found) found
pieces-rest piece found code_points are = record {
  whole = refl;
  each = are.each.1;
  differ = λ k piece next here later. are.differ (suc k) piece next here later;
}

own-script : (first : ℕ) (piece : List ℕ) → IsPiece (first ∷ piece) → HaveScript (script_of first) (first ∷ piece)
own-script first piece (some, (script, have)) = subst (λ (s : ComplexScript). HaveScript s (first ∷ piece)) (sym have.0) have

stops-after : (first : ℕ) (piece : List ℕ) (found : List (List ℕ)) (code_points : List ℕ) → ArePieces code_points ((first ∷ piece) ∷ found)
    → Stops (script_of first) (joined_pieces found)
stops-after first piece [] code_points are = tt
stops-after first piece ([] ∷ found) code_points are = absurd (are.each.1.0.0 refl)
stops-after first piece ((other ∷ next) ∷ found) code_points are = on (has_script (script_of first) other) refl
  where
    on : (b : Bool) → has_script (script_of first) other ≡ b → has_script (script_of first) other ≡ false
    on false is = is
    on true is =
        absurd (are.differ 0 (first ∷ piece) (other ∷ next) refl refl (script_of first) (own-script first piece are.each.0)
        (subst (λ (s : ComplexScript). HaveScript s (other ∷ next)) (has-is (script_of first) other is) (own-script other next are.each.1.0)))

pub pieces-only : (code_points : List ℕ) (found : List (List ℕ)) → ArePieces code_points found → found ≡ pieces code_points
pieces-only code_points [] are = rw (← are.whole) (sym pieces-nil)
pieces-only code_points ([] ∷ found) are = absurd (are.each.0.0 refl)
pieces-only code_points ((first ∷ piece) ∷ found) are =
    let all = (first ∷ piece) ++ joined_pieces found in
    let count : piece_length all ≡ length (first ∷ piece) =
    prefix-whole (script_of first) (first ∷ piece) (joined_pieces found) (own-script first piece are.each.0) (stops-after first piece found code_points are) in
    let next : pieces all ≡ take (length (first ∷ piece)) all ∷ pieces (drop (length (first ∷ piece)) all) =
    pieces-next first (piece ++ joined_pieces found) ∙ ap (λ n. take n all ∷ pieces (drop n all)) count in
    let same : pieces all ≡ (first ∷ piece) ∷ found =
    next ∙ ap (λ (taken : List ℕ). taken ∷ pieces (drop (length (first ∷ piece)) all)) (take-append_seam (first ∷ piece) (joined_pieces found))
    ∙ ap (λ (rest : List ℕ). (first ∷ piece) ∷ pieces rest) (drop-append_seam (first ∷ piece) (joined_pieces found))
    ∙ ap (λ (rest : List (List ℕ)). (first ∷ piece) ∷ rest) (sym (pieces-only (joined_pieces found) found (pieces-rest (first ∷ piece) found code_points are))) in
    sym same ∙ ap pieces are.whole

-- the pieces of a text: the one that was given, and then those of what is left

pieces-at : (items : List Item) → 0 < piece_length (code_points items)
    → pieces (code_points items)
    ≡ code_points (take (piece_length (code_points items)) items) ∷ pieces (code_points (drop (piece_length (code_points items)) items))
pieces-at [] some = absurd (omega (arith, some))
pieces-at (item ∷ items) some =
    let n = piece_length (code_points (item ∷ items)) in
    pieces-next item.1 (code_points items)
    ∙ ap (λ (piece : List ℕ). piece ∷ pieces (drop n (code_points (item ∷ items)))) (take-map (λ (item : Item). item.1) n (item ∷ items))
    ∙ ap (λ (rest : List ℕ). code_points (take n (item ∷ items)) ∷ pieces rest) (sym (code_points-drop n (item ∷ items)))

pub pieces-given : (script : ComplexScript) (before piece after : Text) (item : Item) (rest : List Item)
    → before.items ≡ item ∷ rest → script ≡ script_of item.1
    → piece ≡ text_before (prefix_length (has_script script) before) before
    → after ≡ rest_after (prefix_length (has_script script) before) before
    → pieces (code_points before.items) ≡ code_points piece.items ∷ pieces (code_points after.items)
pieces-given script before piece after item rest is own given left =
    let count : prefix_length (has_script script) before ≡ piece_length (code_points before.items) =
    ap (λ script. prefix_length (has_script script) before) own
    ∙ ap (λ (items : List Item). prefix_len (has_script (script_of item.1)) (code_points items)) is
    ∙ sym (ap (λ (items : List Item). piece_length (code_points items)) is) in
    pieces-at before.items (rw is (piece-some item.1 (code_points rest)))
    ∙ ap (λ n. code_points (take n before.items) ∷ pieces (code_points (drop n before.items))) (sym count)
    ∙ ap (λ (text : Text). code_points text.items ∷ pieces (code_points (drop (prefix_length (has_script script) before) before.items))) (sym given)
    ∙ ap (λ (text : Text). code_points piece.items ∷ pieces (code_points text.items)) (sym left)

pub pieces-none : (items : List Item) → items ≡ [] → pieces (code_points items) ≡ []
pieces-none items none = rw none pieces-nil
