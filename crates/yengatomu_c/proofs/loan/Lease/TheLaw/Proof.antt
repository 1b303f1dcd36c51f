-- A `&` to a lease lends what is in the box: while it lasts, the lease keeps the loan's lifetime from ending.
use mathlib.Core.List.{[], ◌∷◌, ◌++◌}
use seplogic.Ra.Ura.{Ura}
use base.Before.{before}
use base.Fml.{Lft, Share, Fml, flft, fbor, fshr_bor}
use base.Logic.{ent, sep, wand, apply∗}
use contract.BorrowLft.{meet_⊑_left}
use denote.Param.Shared.{copy_shared}
use denote.RawPtr.{Ptr}
use denote.Sharing.{ShrLaws, beside}
use denote.Struct.Field.{RawPtr-field}
use denote.Struct.Laws.{RawPtr-copy}
use denote.Struct.Lending.{lent_at, lent_at_shr_laws, Lends, Lends-both, of_Lends}
use types.Kit.{‵, ◌⊛◌, raw, later, await, ◌$◌, !, qed, move, drop, use0, use1, use2, split, fsplit, updating, now, done}
use types.Logic.{Logic, sem, lfts}
use types.Na.{before-Incl, before_lent}
use types.Tokens.{bor_fracture}
use Rattle.yengatomu_c.specs.Owned.{lease_owns, lease_shares}
use Rattle.yengatomu_segmenter.specs.contracts.segmenter.Segmenter.{the_row as T}
use Rattle.yengatomu_segmenter.proofs.segmenter.Segmenter.TheLaws.{the_row_laws as L}
use Rattle.yengatomu_c.specs.contracts.loan.Lease as C
use Rattle.yengatomu_c.proofs.loan.Lease.TheLaw.Statement.{statement}

laws : (at : Ptr) (x : T.Denot) → ShrLaws (lent_at T at x)
laws = lent_at_shr_laws T L.shr_laws

module _ {M : Type 1} {𝓤 : Ura M} (𝓛 : Logic 𝓤) where
  open 𝓛 use {H, A}

  -- what can be had twice is taken out
  kept : (P : Fml) → ent 𝓤 (sem 𝓛 P) (sep 𝓤 (sem 𝓛 P) (sem 𝓛 P)) → (l : Lft) → Lends 𝓛 P (λ _. P) l
  kept P twice l κ ts inc sp = qed 𝓛 (‵ (fbor κ P) ∷ raw (lfts 𝓛 ts) ∷ []) {P = H.⇛ (sep 𝓤 (sem 𝓛 P) (lfts 𝓛 ts))} (
      updating ! $ use2 𝓛 (later (‵ P ⊛ raw (wand 𝓤 (sem 𝓛 P) (H.⇛ (sep 𝓤 (A.bor κ P) (lfts 𝓛 ts)))))) (𝓛.more.bor_acc_by κ ts P sp) $ await ! tt $ split ! $
      use1 𝓛 (‵ P ⊛ ‵ P) twice $ split ! $ move ! (0 ∷ 2 ∷ []) $
      use2 𝓛 (later (‵ (fbor κ P) ⊛ raw (lfts 𝓛 ts))) (apply∗ 𝓤 (sem 𝓛 P) (H.⇛ (sep 𝓤 (A.bor κ P) (lfts 𝓛 ts)))) $ await ! tt $ split ! $ drop ! $ move ! (1 ∷ 0 ∷ []) $ now ! $ done !)

  -- a token that is borrowed is shared out
  token : (ν : Lft) (s : Share) (l : Lft) → Lends 𝓛 (flft ν s) (λ κ. fshr_bor κ (λ q. flft ν q)) l
  token ν s l κ ts inc sp = qed 𝓛 (‵ (fbor κ (flft ν s)) ∷ raw (lfts 𝓛 ts) ∷ []) {P = H.⇛ (sep 𝓤 (sem 𝓛 (fshr_bor κ (λ q. flft ν q))) (lfts 𝓛 ts))} (
      updating ! $ bor_fracture ! tt (λ q. flft ν q) s $ now ! $ done !)

  lasting : (at : Ptr) (x : T.Denot) (life : Lft) (share : Share) (l : Lft) → Lends 𝓛 (lease_owns at x life share) (lease_shares at x) l
  lasting at x life share l κ ts inc sp = qed 𝓛 (‵ (fbor κ (lease_owns at x life share)) ∷ raw (lfts 𝓛 ts) ∷ []) {P = H.⇛ (sep 𝓤 (sem 𝓛 (lease_shares at x κ)) (lfts 𝓛 ts))} (
      updating ! $ use2 𝓛 (later (‵ (beside (λ _. lent_at T at x life) (λ κ'. fshr_bor κ' (λ q. flft life q)) κ) ⊛ raw (lfts 𝓛 ts)))
      (Lends-both 𝓛 (lent_at T at x life) (flft life share) (λ _. lent_at T at x life) (λ κ'. fshr_bor κ' (λ q. flft life q)) l (kept (lent_at T at x life) ((laws at x).contraction M 𝓤 𝓛 life) l) (token life share l) κ ts inc sp) $
      await ! tt $ split ! $ fsplit ! $ move ! (1 ∷ []) $
      use0 𝓛 (‵ (before (life ++ κ) life)) (before-Incl 𝓛 (life ++ κ) life (meet_⊑_left life κ)) $ move ! (1 ∷ 0 ∷ []) $ use2 𝓛 (‵ (before κ life)) (before_lent 𝓛 κ life life) $
      use2 𝓛 (‵ (lease_shares at x κ)) ((laws at x).mono M 𝓤 𝓛 κ life) $ now ! $ done !)

pub shares : statement
shares = of_Lends C.struct C.the_codes C.the_heap C.the_lent (λ d p. laws d.at d.segmenter) (copy_shared RawPtr-field RawPtr-copy, tt) (λ M 𝓤 𝓛 d p. lasting 𝓛 d.at d.segmenter d.life d.share C.the_row.lives)
