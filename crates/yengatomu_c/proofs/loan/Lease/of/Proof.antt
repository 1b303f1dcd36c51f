-- `of` puts the pointer beside what the loan owns.
use mathlib.Core.Path.{◌≡◌, refl, sym, ap, ◌∙◌}
use mathlib.Core.List.{List, [], ◌∷◌, ◌++◌}
use mathlib.Core.Bool.{true, true≢false}
use seplogic.Ra.Ura.{Ura}
use mir.Val.{Val}
use base.Logic.{SProp, ent, id⊢}
use prog.Memory.{Memory}
use prog.Routine.{Routine}
use prog.Wp.{Calls, Loops, WpFn, Tables}
use types.Logic.{Logic}
use types.Kit.{Item, ‵, raw, ◌⊛◌, prop, ◌$◌, ◌∵◌, !, qed, by, move, keep, use1, split, fsplit, fjoin, feq_i, feq_l, regoal, rewrite, suffices, done}
use types.Part.{agg}
use types.Run.{enter, returns, of_opd, and_then, no_more}
use types.ByLocal.{alloc_all, pass_all, free_all, look_at, get, sets}
use contract.Monad.{Fun, fact}
use contract.Running.{tables, tables_of}
use sound.WpLaws.{WpFn-mono}
use denote.Exit.{yes}
use denote.Param.{layout}
use denote.RattleType.{owns}
use denote.Struct.Struct.{as_fields}
use denote.RawPtr.{Ptr, RawPtr, ptr_val}
use denote.Signature.{plain, types_at}
use denote.Steps.{nothing, heard}
use denote.Triple.Clauses.{Clauses}
use denote.Triple.Entry.{alive}
use denote.Triple.Spec.{triple_of}
use denote.Triple.Table.{entered}
use denote.Triple.Walked.{says, Stays, stay_dropped, walk_of, ends_at, Goes-dropped, walk_Meets}
use Rattle.std.specs.Prelude.{Option, Some, None}
use Rattle.yengatomu_c.specs.Owned.{is_held, lease_owns, loan_owns}
use Rattle.yengatomu_segmenter.specs.contracts.segmenter.Segmenter as Seg
use Rattle.yengatomu_c.specs.contracts.loan.Loan as Loan
use Rattle.yengatomu_c.specs.contracts.loan.Lease as Lease
use Rattle.yengatomu_c.proofs.Shapes.{Ptr-Good, none, one, none_had, one_made}
use Rattle.yengatomu_c.specs.contracts.loan.Lease.of as F
use Rattle.yengatomu_c.specs.contracts.loan.Lease.of.Key.{name as #self}
use Rattle.yengatomu_c.proofs.loan.Lease.of.Statement as stated
use Rattle.yengatomu_c.proofs.loan.Lease.of.Code as code

abbrev stayed : Stays (F.ended).signature.params (F.ended).kept
stayed = (stay_dropped (plain (λ _. RawPtr)) yes, (stay_dropped (plain (λ _. Loan.the_row)) yes, tt))

module _ {M : Type 1} {𝓤 : Ura M} (𝓛 : Logic 𝓤) (at_mem : Memory → SProp 𝓤) (run : Routine → Fun 𝓤) where
  open 𝓛 use {H}

  abbrev held : Clauses 𝓤 F.ended
  held = F.clauses 𝓛 at_mem run

  module _ (C : Calls 𝓤 H) (Λ : Loops 𝓤 H) (z : (walk_of 𝓛 F.ended stayed held).Ghost) where
    abbrev Post : Val → SProp 𝓤
    Post = (walk_of 𝓛 F.ended stayed held).post z

    abbrev toks : SProp 𝓤
    toks = alive 𝓛 (F.ended).signature z.0.0 z.0.1

    abbrev Asked : Type 0
    Asked = (z.0.3.0 ≡ z.0.3.1.0.at) × (is_held z.0.3.1.0.held ≡ true)

    abbrev Had : List (Item 𝓤)
    Had = raw toks ∷ ‵ (owns (types_at (F.ended).signature.params z.0.0) z.0.3 z.0.4) ∷ []

    abbrev Runs : SProp 𝓤
    Runs = WpFn 𝓤 H C Λ code.function ((walk_of 𝓛 F.ended stayed held).args z) Post

    -- by what is lent
    walk_at : (o : Option Seg.the_row.Denot) → z.0.3.1.0.held ≡ o → Asked → ent 𝓤 (types.Kit.⋆ 𝓛 Had) Runs
    walk_at None same asked = absurd (true≢false (sym (ap is_held (sym same) ∙ asked.1)))
    walk_at (Some x) same asked =
        let p : Ptr = z.0.3.0 in let l = z.0.3.1.0 in
        let made : Lease.the_row.Denot = record { at = p; segmenter = x; life = l.life; share = l.share } in
        qed 𝓛 Had ∵ move ! (1 ∷ []) $
        fsplit ! $ feq_l ! (λ is₀. fsplit ! $ fsplit ! $ none_had ! z.0.4.1.0 (λ is₁.
        regoal ! (λ (us : List Val). prop (WpFn 𝓤 H C Λ code.function (us ++ (z.0.4.1.0 ++ [])) Post)) is₀ refl $
        regoal ! (λ (us : List Val). prop (WpFn 𝓤 H C Λ code.function ((ptr_val p ∷ []) ++ (us ++ [])) Post)) is₁ refl $
        rewrite ! 0 (λ (o : Option Seg.the_row.Denot). ‵ (loan_owns l.at o l.life l.share)) same refl $
        rewrite ! 0 (λ (q : Ptr). ‵ (loan_owns q (Some x) l.life l.share)) (sym asked.0) refl $ use1 𝓛 (‵ (lease_owns p x l.life l.share)) (id⊢ 𝓤 _) $
        keep ! (0 ∷ 2 ∷ []) $
        enter ! C Λ code.function (ptr_val p ∷ none ∷ []) Post $ alloc_all ! (λ ls. pass_all ! refl (Ptr-Good p, ((tt, tt), tt)) $
        sets ! (of_opd ! (get ! refl)) refl (Ptr-Good p) $ sets ! (agg ! (and_then ! (get ! refl) (no_more !))) refl (as_fields (layout RawPtr ∷ []) (ptr_val p ∷ []) (Ptr-Good p, tt)) $
        feq_i ! (List Val) (ptr_val p ∷ []) (ptr_val p ∷ []) refl $ one_made ! RawPtr p (ptr_val p) $ fjoin ! $
        returns ! (look_at ! 0 refl) $ free_all ! refl $
        suffices ! _ (ends_at 𝓛 F.ended stayed held z (one (ptr_val p)) made (tt, (tt, tt)) (tt, (tt, tt))) $ says ! (λ i. record { at = sym asked.0 i; held = same i; life = l.life; share = l.share }) $
        nothing ! $ nothing ! $ fjoin ! $ nothing ! $ fjoin ! $ move ! (2 ∷ 0 ∷ 1 ∷ []) $ done !)))

    walks : ent 𝓤 ((walk_of 𝓛 F.ended stayed held).pre z) Runs
    walks =
        qed 𝓛 ((raw toks ⊛ ‵ (owns (types_at (F.ended).signature.params z.0.0) z.0.3 z.0.4)) ∷ raw (fact 𝓤 Asked) ∷ []) ∵
        move ! (1 ∷ []) $ heard ! Asked (λ asked. split ! $ by ! (walk_at z.0.3.1.0.held refl asked))

pub of_spec : {M : Type 1} → stated.statement M
unfolding tables_of
of_spec 𝓤 𝓛 𝓜 𝓡 wired =
    let 𝓣 : Tables 𝓤 𝓛.H = tables_of 𝓤 𝓛.H 𝓜 (tables 𝓤 𝓛.H 𝓜 𝓡 𝓡.env) in
    entered 𝓤 𝓛.H (triple_of 𝓛 F.signature (F.spec 𝓛 𝓜.mem 𝓡.returns)) 𝓣.C 𝓣.Λ #self code.function (code.unfolded 𝓤 𝓛.H 𝓜 𝓡 wired)
    (walk_Meets 𝓛 F.ended stayed (Goes-dropped 𝓛 0 (plain (λ _. RawPtr)) yes (λ κs x f. refl), (Goes-dropped 𝓛 0 (plain (λ _. Loan.the_row)) yes (λ κs x f. refl), tt)) (F.clauses 𝓛 𝓜.mem 𝓡.returns) (WpFn 𝓤 𝓛.H 𝓣.C 𝓣.Λ code.function) (WpFn-mono 𝓤 𝓛.H 𝓛.laws 𝓣 code.function)
    (walks 𝓛 𝓜.mem 𝓡.returns 𝓣.C 𝓣.Λ))
