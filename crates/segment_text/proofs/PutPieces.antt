-- Pieces that are put into a buffer one behind another.
use Rattle.std.proofs.Common.{◌≡◌, ℕ, ◌+◌, ◌≤◌, List, [], ◌∷◌, ◌++◌, length, set, take, refl, sym, ap, ◌∙◌, arith, append_assoc, length-set, length-take-le, take-take}
use Rattle.std.proofs.Math.Seq.{take-append-add}
use Rattle.std.proofs.lemmas.Grind.{take-set_at}
use Rattle.std.proofs.lemmas.List.{take_more_set}
use Rattle.std.proofs.lemmas.Simd.{take_more_put_chunk}
use Rattle.std.proofs.lemmas.Slice.{take-put_mid}
use borrow.Rule.Slice.PartMut.{put_mid}
use lib.Lanes.{put_chunk}

-- of more bytes that stand behind others the first
fewer : (at len n : ℕ) (xs ys piece : List ℕ) → len ≤ n → at ≤ length xs → take (at + n) ys ≡ take at xs ++ piece → take (at + len) ys ≡ take at xs ++ take len piece
fewer at len n xs ys piece few room is =
    sym (take-take (at + len) (at + n) ys (omega (arith, few)))
    ∙ ap (λ (zs : List ℕ). take (at + len) zs) is
    ∙ ap (λ (k : ℕ). take (k + len) (take at xs ++ piece)) (sym (length-take-le at xs room))
    ∙ take-append-add (take at xs) piece len

-- a piece of which the first bytes count, behind what stands there
pub put-piece : (at len k : ℕ) (object piece put : List ℕ) → put ≡ piece → len ≤ length piece → at + length piece ≤ length object
    → take (at + len) (put_mid at k object put) ≡ take at object ++ take len piece
put-piece at len k object piece put is short room =
    rw is (
    fewer at len (length piece) object (put_mid at k object piece) piece short (omega (arith, room))
    (take-put_mid at k object piece (at + length piece) refl (omega (arith, room))))

-- a piece that is copied at once
pub put-whole : (at len n : ℕ) (object piece : List ℕ) → len ≤ n → n ≤ length piece → at + n ≤ length object
    → take (at + len) (put_chunk at object (take n piece)) ≡ take at object ++ take len piece
put-whole at len n object piece few short room =
    let long : length (take n piece) ≡ n = length-take-le n piece short in
    fewer at len n object (put_chunk at object (take n piece)) (take n piece) few (omega (arith, room))
    (take_more_put_chunk at object (take n piece) (at + n) (omega (arith, long)) room)
    ∙ ap (λ (ys : List ℕ). take at object ++ ys) (take-take len n piece few)

-- two bytes
pub put-two : (at one other : ℕ) (object : List ℕ) → at + 2 ≤ length object → take (at + 2) (set (set object at one) (at + 1) other) ≡ take at object ++ one ∷ other ∷ []
put-two at one other object room =
    take-set_at (set object at one) (at + 1) (at + 2) other (omega arith) (omega (arith, room, length-set object at one))
    ∙ ap (λ (ys : List ℕ). ys ++ other ∷ []) (take_more_set object at one (omega (arith, room)))
    ∙ append_assoc (take at object) (one ∷ []) (other ∷ [])
