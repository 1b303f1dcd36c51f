-- The table of the states that are listed.
use Rattle.std.proofs.Common.{◌≡◌, ℕ, zero, suc, ◌+◌, ◌<◌, ◌++◌, Bool, true, false, List, [], ◌∷◌, length, replicate, get_or, refl, sym, ap, ◌∙◌, subst, inl, inr, arith}
use Rattle.std.specs.Prelude.{Contains}
use Rattle.std.proofs.Math.ListN.{set, length-set}
use Rattle.std.proofs.lemmas.Bool.{cases_lt, cases_eq, false≢true}
use Rattle.std.proofs.lemmas.List.{length-replicate, length-append, get_or-replicate, get_or_past, get_or-set_other}
use Rattle.std.proofs.lemmas.List.Elements.{Contains-append_left, Contains-push}
use Rattle.seg_machine.specs.Search.{free, IsTable}

-- a list of one value reads as that value everywhere
pub replicate-reads : {X : Type 0} (n k : ℕ) (x : X) → get_or (replicate n x) k x ≡ x
replicate-reads n k x =
    elim (cases_lt k n) [
      | inl within ↦ get_or-replicate n k x x within
      | inr past ↦ get_or_past (replicate n x) k x (let long = length-replicate n x in omega arith)
    ]

free-replicate : (n : ℕ) → free (replicate n false) ≡ n
unfolding free
free-replicate zero = refl
free-replicate (suc n) = ap suc (free-replicate n)

pub table-start : (n : ℕ) → IsTable (replicate n false) []
table-start n = record {
  room = let all = free-replicate n in let long = length-replicate n false in omega arith;
  listed = λ state is. absurd (false≢true (sym (replicate-reads n state false) ∙ is));
}

-- one more is taken
free-set : (found : List Bool) (i : ℕ) → i < length found → get_or found i false ≡ false → free (set found i true) + 1 ≡ free found
unfolding free
free-set [] i within is = absurd (omega arith)
free-set (false ∷ found) zero within is = omega arith
free-set (true ∷ found) zero within is = cc
free-set (false ∷ found) (suc i) within is = let rest = free-set found i (omega arith) is in omega arith
free-set (true ∷ found) (suc i) within is = free-set found i (omega arith) is

pub table-room : (known : List Bool) (states : List ℕ) (i : ℕ) → IsTable known states → i < length known → get_or known i false ≡ false → length states < length known
table-room known states i table within is = let one = free-set known i within is in let room = table.room in omega arith

pub table-push : (known : List Bool) (states : List ℕ) (state : ℕ) → IsTable known states → state < length known
    → get_or known state false ≡ false → IsTable (set known state true) (states ++ state ∷ [])
table-push known states state table within is = record {
  room =
      let one = free-set known state within is in
      let room = table.room in
      let long = length-set known state true in
      let more = length-append states (state ∷ []) in
      omega arith;
  listed = λ other there.
      elim (cases_eq other state) [
        | inl same ↦ subst (Contains (states ++ state ∷ [])) (sym same) (Contains-push states state)
        | inr apart ↦ Contains-append_left states (state ∷ []) other (table.listed other (sym (get_or-set_other known state other true false apart) ∙ there))
      ];
}
