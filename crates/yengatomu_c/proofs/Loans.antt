-- That C can keep its promise: who owns a box can lend it, cut a loan in two, join them, and end the whole loan, which gives the box back. No code does it.
use mathlib.Core.List.{[], ◌∷◌}
use Prim.Native.Nat.{ℕ}
use seplogic.Ra.Ura.{Ura}
use base.Fraction.{full_share}
use base.Fml.{Fml, Lft, Share, Incl-refl, ftrue, fsep, flft, flent}
use base.Logic.{SProp, ent, sep, emp, ex, id⊢}
use base.Share
use contract.BorrowLft.{⊑_static}
use denote.Memory.{lone}
use denote.RawPtr.{Ptr, lies_at}
use denote.Struct.Lending.{lent_at, lent_at_shr_laws, Lends-lies}
use mir.Raw.{raw as bare}
use types.Kit.{‵, ◌⊛◌, later, await, ◌$◌, !, qed, move, drop, use0, use1, use2, show, split, fsplit, fjoin, updating, now, done}
use types.Logic.{Logic, sem}
use types.Tokens.{lft_new, lft_end, bor_new, lent_back}
use Rattle.std.specs.Global.{Global}
use Rattle.std.specs.Prelude.{true, false, Some}
use Rattle.std_heap.specs.contracts.GlobalAllocator.TheImpl.{ghosts}
use Rattle.yengatomu_c.specs.Owned.{owned, loan_owns}
use Rattle.yengatomu_segmenter.specs.contracts.segmenter.Segmenter.{the_row as T}
use Rattle.yengatomu_segmenter.proofs.segmenter.Segmenter.TheLaws.{the_row_laws as L}

-- what the lender keeps: the box comes back when the lifetime has ended, with the right to free its block
abbrev pub debt : Global → Ptr → T.Denot → ℕ → Fml
debt alloc at x α = fsep (flent (α ∷ []) (lies_at T full_share at x)) (ghosts.dealloc_token alloc (bare (lone T.mir)) at)

module _ {M : Type 1} {𝓤 : Ura M} (𝓛 : Logic 𝓤) (alloc : Global) (at : Ptr) (x : T.Denot) where
  open 𝓛 use {H}

  abbrev Lent : ℕ → SProp 𝓤
  Lent α = sep 𝓤 (sem 𝓛 (owned alloc at true (Some x))) (sep 𝓤 (sem 𝓛 (loan_owns at (Some x) (α ∷ []) full_share)) (sem 𝓛 (debt alloc at x α)))

  pub lends : ent 𝓤 (sem 𝓛 (owned alloc at false (Some x))) (H.⇛ (ex 𝓤 Lent))
  lends = qed 𝓛 (‵ (fsep (lies_at T full_share at x) (ghosts.dealloc_token alloc (bare (lone T.mir)) at)) ∷ []) {P = H.⇛ (ex 𝓤 Lent)} (
      updating ! $ fsplit ! $ lft_new ! tt (λ α. move ! (1 ∷ []) $ bor_new ! tt (α ∷ []) $ move ! (0 ∷ 2 ∷ []) $
      -- [the borrow; the token; the lender's side; the right to free]
      use2 𝓛 (later (‵ (lent_at T at x (α ∷ [])) ⊛ ‵ (flft (α ∷ []) full_share))) (Lends-lies 𝓛 T T.lives at x (L.shares 𝓛 x) (α ∷ []) ((α ∷ [], full_share) ∷ []) (⊑_static (α ∷ [])) (Incl-refl (α ∷ []))) $ await ! tt $ split ! $
      fjoin ! $ move ! (1 ∷ 2 ∷ []) $ fjoin ! $ move ! (1 ∷ 0 ∷ []) $ use0 𝓛 (‵ ftrue) (id⊢ 𝓤 (emp 𝓤)) $ now ! $ show ! Lent α $ done !))

  pub ends : (α : ℕ) → ent 𝓤 (Lent α) (H.⇛ (sem 𝓛 (owned alloc at false (Some x))))
  ends α = qed 𝓛 (‵ (owned alloc at true (Some x)) ∷ (‵ (fsep (lent_at T at x (α ∷ [])) (flft (α ∷ []) full_share)) ⊛ ‵ (debt alloc at x α)) ∷ []) {P = H.⇛ (sem 𝓛 (owned alloc at false (Some x)))} (
      updating ! $ drop ! $ split ! $ fsplit ! $ drop ! $ lft_end ! tt $ move ! (1 ∷ []) $ fsplit ! $ move ! (2 ∷ 0 ∷ []) $ lent_back ! tt $ fjoin ! $ now ! $ done !)

module _ {M : Type 1} {𝓤 : Ura M} (𝓛 : Logic 𝓤) (at : Ptr) (x : T.Denot) (life : Lft) (q : Share) where
  abbrev Two : SProp 𝓤
  Two = sep 𝓤 (sem 𝓛 (loan_owns at (Some x) life (Share.left q))) (sem 𝓛 (loan_owns at (Some x) life (Share.right q)))

  pub cut : ent 𝓤 (sem 𝓛 (loan_owns at (Some x) life q)) Two
  cut = qed 𝓛 (‵ (fsep (lent_at T at x life) (flft life q)) ∷ []) {P = Two} (
      fsplit ! $ use1 𝓛 (‵ (lent_at T at x life) ⊛ ‵ (lent_at T at x life)) ((lent_at_shr_laws T L.shr_laws at x).contraction M 𝓤 𝓛 life) $ split ! $
      move ! (2 ∷ []) $ use1 𝓛 (‵ (flft life (Share.left q)) ⊛ ‵ (flft life (Share.right q))) (𝓛.lfts.lft_split life q) $ split ! $
      move ! (2 ∷ 0 ∷ []) $ fjoin ! $ move ! (2 ∷ 1 ∷ []) $ fjoin ! $ move ! (1 ∷ 0 ∷ []) $ done !)

  pub join : ent 𝓤 Two (sem 𝓛 (loan_owns at (Some x) life q))
  join = qed 𝓛 (‵ (fsep (lent_at T at x life) (flft life (Share.left q))) ∷ ‵ (fsep (lent_at T at x life) (flft life (Share.right q))) ∷ []) {P = sem 𝓛 (loan_owns at (Some x) life q)} (
      fsplit ! $ move ! (2 ∷ []) $ fsplit ! $ drop ! $ move ! (2 ∷ 0 ∷ []) $ use2 𝓛 (‵ (flft life q)) (𝓛.lfts.lft_join life q) $ move ! (1 ∷ []) $ fjoin ! $ done !)
