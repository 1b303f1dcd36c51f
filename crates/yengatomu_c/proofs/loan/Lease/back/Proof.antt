-- `back` lets the pointer go, and the loan owns what the lease owned.
use mathlib.Core.Path.{refl}
use mathlib.Core.List.{List, [], ◌∷◌, ◌++◌}
use seplogic.Ra.Ura.{Ura}
use mir.Val.{Val, vstruct, of_list}
use base.Logic.{SProp, ent, id⊢, emp}
use prog.Memory.{Memory}
use prog.Routine.{Routine}
use prog.Wp.{Calls, Loops, WpFn, Tables}
use types.Logic.{Logic}
use types.Kit.{‵, raw, ◌⊛◌, prop, ◌$◌, ◌∵◌, !, qed, move, keep, use1, split, fsplit, fjoin, fpick, feq_l, regoal, suffices, done}
use types.Part.{agg}
use types.Run.{enter, returns, no_more}
use types.ByLocal.{alloc_all, pass_all, free_all, look_at, sets}
use contract.Monad.{Fun}
use contract.Running.{tables, tables_of}
use sound.WpLaws.{WpFn-mono}
use denote.Exit.{yes}
use denote.Param.{layout}
use denote.RattleType.{owns}
use denote.Struct.Struct.{as_fields}
use denote.RawPtr.{RawPtr, ptr_val}
use denote.Signature.{plain, types_at}
use denote.Steps.{nothing}
use denote.Triple.Clauses.{Clauses}
use denote.Triple.Entry.{alive}
use denote.Triple.Spec.{triple_of}
use denote.Triple.Table.{entered}
use denote.Triple.Walked.{says, Stays, stay_dropped, walk_of, ends_at, Goes-dropped, walk_Meets}
use Rattle.std.specs.Prelude.{Some}
use Rattle.yengatomu_c.specs.Owned.{loan_owns}
use Rattle.yengatomu_c.specs.contracts.loan.Loan as Loan
use Rattle.yengatomu_c.specs.contracts.loan.Lease as Lease
use Rattle.yengatomu_c.proofs.Shapes.{Ptr-Good, none, one, none_made}
use Rattle.yengatomu_c.specs.contracts.loan.Lease.back as F
use Rattle.yengatomu_c.specs.contracts.loan.Lease.back.Key.{name as #self}
use Rattle.yengatomu_c.proofs.loan.Lease.back.Statement as stated
use Rattle.yengatomu_c.proofs.loan.Lease.back.Code as code

abbrev stayed : Stays (F.ended).signature.params (F.ended).kept
stayed = (stay_dropped (plain (λ _. Lease.the_row)) yes, tt)

module _ {M : Type 1} {𝓤 : Ura M} (𝓛 : Logic 𝓤) (at_mem : Memory → SProp 𝓤) (run : Routine → Fun 𝓤) where
  open 𝓛 use {H}

  abbrev held : Clauses 𝓤 F.ended
  held = F.clauses 𝓛 at_mem run

  module _ (C : Calls 𝓤 H) (Λ : Loops 𝓤 H) (z : (walk_of 𝓛 F.ended stayed held).Ghost) where
    abbrev Post : Val → SProp 𝓤
    Post = (walk_of 𝓛 F.ended stayed held).post z

    abbrev toks : SProp 𝓤
    toks = alive 𝓛 (F.ended).signature z.0.0 z.0.1

    walks : ent 𝓤 ((walk_of 𝓛 F.ended stayed held).pre z) (WpFn 𝓤 H C Λ code.function ((walk_of 𝓛 F.ended stayed held).args z) Post)
    walks =
        let l = z.0.3.0 in
        let made : Loan.the_row.Denot = record { at = l.at; held = Some l.segmenter; life = l.life; share = l.share } in
        qed 𝓛 ((raw toks ⊛ ‵ (owns (types_at (F.ended).signature.params z.0.0) z.0.3 z.0.4)) ∷ raw (emp 𝓤) ∷ []) ∵
        split ! $ move ! (1 ∷ []) $ fsplit ! $ fsplit ! $ fpick ! (λ vss. fsplit ! $ feq_l ! (λ is. fsplit ! $ feq_l ! (λ is₀.
        regoal ! (λ (us : List Val). prop (WpFn 𝓤 H C Λ code.function (us ++ []) Post)) is refl $
        regoal ! (λ (ps : List Val). prop (WpFn 𝓤 H C Λ code.function (vstruct (of_list (ps ++ [])) ∷ []) Post)) is₀ refl $
        keep ! (1 ∷ 3 ∷ []) $
        enter ! C Λ code.function (one (ptr_val l.at) ∷ []) Post $ alloc_all ! (λ ls. pass_all ! refl (as_fields (layout RawPtr ∷ []) (ptr_val l.at ∷ []) (Ptr-Good l.at, tt), tt) $
        sets ! (agg ! (no_more !)) refl (tt, tt) $ use1 𝓛 (‵ (loan_owns l.at (Some l.segmenter) l.life l.share)) (id⊢ 𝓤 _) $ none_made ! $ fjoin ! $
        returns ! (look_at ! 0 refl) $ free_all ! refl $
        suffices ! _ (ends_at 𝓛 F.ended stayed held z none made (tt, tt) (tt, tt)) $ says ! refl $
        nothing ! $ nothing ! $ fjoin ! $ move ! (2 ∷ 0 ∷ 1 ∷ []) $ done !))))

pub back_spec : {M : Type 1} → stated.statement M
unfolding tables_of
back_spec 𝓤 𝓛 𝓜 𝓡 wired =
    let 𝓣 : Tables 𝓤 𝓛.H = tables_of 𝓤 𝓛.H 𝓜 (tables 𝓤 𝓛.H 𝓜 𝓡 𝓡.env) in
    entered 𝓤 𝓛.H (triple_of 𝓛 F.signature (F.spec 𝓛 𝓜.mem 𝓡.returns)) 𝓣.C 𝓣.Λ #self code.function (code.unfolded 𝓤 𝓛.H 𝓜 𝓡 wired)
    (walk_Meets 𝓛 F.ended stayed (Goes-dropped 𝓛 0 (plain (λ _. Lease.the_row)) yes (λ κs x f. refl), tt) (F.clauses 𝓛 𝓜.mem 𝓡.returns) (WpFn 𝓤 𝓛.H 𝓣.C 𝓣.Λ code.function) (WpFn-mono 𝓤 𝓛.H 𝓛.laws 𝓣 code.function)
    (walks 𝓛 𝓜.mem 𝓡.returns 𝓣.C 𝓣.Λ))
