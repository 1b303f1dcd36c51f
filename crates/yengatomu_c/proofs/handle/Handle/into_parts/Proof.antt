-- `into_parts` moves two fields, and what they own goes with them.
use mathlib.Core.Path.{◌≡◌, refl, sym}
use mathlib.Core.List.{List, [], ◌∷◌, ◌++◌}
use mathlib.Core.Bool.{true, true≢false}
use seplogic.Ra.Ura.{Ura}
use mir.Val.{Val, vstruct, of_list}
use base.Logic.{SProp, ent, id⊢}
use base.Fml.{ftrue, fsep}
use prog.Memory.{Memory}
use prog.Routine.{Routine}
use prog.Wp.{WpFn, Tables}
use types.Logic.{Logic}
use contract.Monad.{Fun, fact}
use contract.Running.{tables, tables_of}
use sound.WpLaws.{WpFn-mono}
use types.Kit.{Item, ‵, raw, ◌⊛◌, prop, ◌$◌, ◌∵◌, !, qed, by, move, keep, drop, regoal, rewrite, use1, join, split, fsplit, fjoin, fpick, feq_i, feq_l, suffices, done}
use types.Part.{whole, sub, agg}
use types.Run.{stop, fld, no_more, and_then, of_opd, returns, enter}
use types.ByLocal.{alloc_all, pass_all, free_all, look_at, get, get_in, sets}
use denote.Exit.{yes}
use denote.Param.{layout}
use denote.RawPtr.{Ptr, RawPtr, ptr_val}
use denote.Signature.{type_at}
use denote.Steps.{nothing, heard}
use denote.Struct.Struct.{as_fields}
use Rattle.std.specs.Prelude.{Bool, Option, Some, None, false}
use Rattle.std.specs.Box.Ownership.{box_owns}
use denote.Triple.Spec.{triple_of}
use denote.Triple.Table.{entered}
use denote.Triple.Walked.{says, Stays, stay_dropped, walk_of, ends_at, walk_Meets}
use Rattle.std.proofs.alloc.Calls.{token, handle_tells, Goes-blank}
use Rattle.std_alloc.proofs.BoxSteps.Form.{R, P}
use Rattle.std_heap.specs.contracts.Global as Heap
use Rattle.yengatomu_c.specs.Owned.{owned, is_held}
use Rattle.yengatomu_segmenter.specs.contracts.segmenter.Segmenter as Seg
use Rattle.yengatomu_c.specs.contracts.handle.Handle as Handle
use Rattle.yengatomu_c.specs.contracts.handle.Holds as Holds
use Rattle.yengatomu_c.proofs.AsBox.{E, FromHandle as From}
use Rattle.yengatomu_c.proofs.Shapes.{Ptr-Good, one, two, two_made}
use Rattle.yengatomu_c.specs.contracts.handle.Handle.into_parts as F
use Rattle.yengatomu_c.specs.contracts.handle.Handle.into_parts.Key.{name as #self}
use Rattle.yengatomu_c.proofs.handle.Handle.into_parts.Statement as stated
use Rattle.yengatomu_c.proofs.handle.Handle.into_parts.Code as code

abbrev stayed : Stays (F.ended).signature.params (F.ended).kept
stayed = (stay_dropped From yes, tt)

module _ {M : Type 1} {𝓤 : Ura M} (𝓛 : Logic 𝓤) (at_mem : Memory → SProp 𝓤) (run : Routine → Fun 𝓤) (𝓣 : Tables 𝓤 𝓛.H) where
  open 𝓛 use {H}

  module _ (z : (walk_of 𝓛 F.ended stayed (F.clauses 𝓛 at_mem run)).Ghost) where
    abbrev Post : Val → SProp 𝓤
    Post = (walk_of 𝓛 F.ended stayed (F.clauses 𝓛 at_mem run)).post z

    abbrev Runs : List Val → SProp 𝓤
    Runs us = WpFn 𝓤 H 𝓣.C 𝓣.Λ code.function us Post

    abbrev Had : List (Item 𝓤)
    Had = (‵ ftrue ⊛ ‵ (fsep (Handle.the_row.own_val z.0.3.0 z.0.4.0) ftrue)) ∷ []

    -- by what is held
    walk_at : (o : Option Seg.the_row.Denot) → z.0.3.0.holds.held ≡ o → is_held o ≡ true → z.0.3.0.holds.lent ≡ false → ent 𝓤 (types.Kit.⋆ 𝓛 Had) (Runs (z.0.4.0 ++ []))
    walk_at None same none mine = absurd (true≢false (sym none))
    walk_at (Some x) same _ mine =
        let h = z.0.3.0 in let p : Ptr = h.at in let a = h.holds.alloc in
        let To = type_at (F.signature).result tt in
        let made : To.Denot = record { ptr = p; alloc = a; value = x } in
        qed 𝓛 Had ∵ split ! $ drop ! $ fsplit ! $
        fpick ! (λ vss. fsplit ! $ feq_l ! (λ is. fsplit ! $ feq_l ! (λ is₀. fsplit ! $ fsplit ! $ fpick ! (λ wss. fsplit ! $ feq_l ! (λ js. fsplit ! $ handle_tells E.al ! a wss.0 (λ hv ks fa.
        regoal ! (λ (us : List Val). prop (Runs (us ++ []))) is refl $
        regoal ! (λ (ps : List Val). prop (Runs (vstruct (of_list (ps ++ (vss.1.0 ++ []))) ∷ []))) is₀ refl $
        regoal ! (λ (hs : List Val). prop (Runs (vstruct (of_list (ptr_val p ∷ (hs ++ []))) ∷ []))) js refl $
        regoal ! (λ (gs : List Val). prop (Runs (vstruct (of_list (ptr_val p ∷ (vstruct (of_list (gs ++ [])) ∷ []))) ∷ []))) ks refl $
        keep ! (2 ∷ 0 ∷ []) $ use1 𝓛 (‵ (owned a h.holds.at h.holds.lent h.holds.held)) (id⊢ 𝓤 _) $
        rewrite ! 0 (λ (o : Option Seg.the_row.Denot). ‵ (owned a h.holds.at h.holds.lent o)) same refl $
        rewrite ! 0 (λ (l : Bool). ‵ (owned a h.holds.at l (Some x))) mine refl $
        rewrite ! 0 (λ (q : Ptr). ‵ (owned a q false (Some x))) (sym h.same) refl $ use1 𝓛 (‵ (box_owns (token E.al a) (R E) p x)) (id⊢ 𝓤 _) $
        move ! (1 ∷ []) $ use1 𝓛 (‵ ((P E).own_val a (hv ∷ []))) (id⊢ 𝓤 _) $ feq_i ! (List Val) (ptr_val p ∷ []) (ptr_val p ∷ []) refl $ use1 𝓛 (‵ (RawPtr.own_val p (ptr_val p ∷ []))) (id⊢ 𝓤 _) $
        two_made ! RawPtr (P E) p a (ptr_val p) hv $ fjoin ! $ use1 𝓛 (‵ (To.own_val made (two (ptr_val p) hv ∷ []))) (id⊢ 𝓤 _) $
        let inner = as_fields (layout Heap.the_row ∷ []) (hv ∷ []) (fa, tt) in
        enter ! 𝓣.C 𝓣.Λ code.function (two (ptr_val p) (one hv) ∷ []) _ $ alloc_all ! (λ ls. pass_all ! refl (as_fields (layout RawPtr ∷ layout Holds.the_row ∷ []) (ptr_val p ∷ one hv ∷ []) (Ptr-Good p, (inner, tt)), tt) $
        sets ! (of_opd ! (get_in ! (fld ! refl (stop !)) (sub ! 0 refl (whole !)))) refl (Ptr-Good p) $ sets ! (of_opd ! (get_in ! (fld ! refl (stop !)) (sub ! 1 refl (whole !)))) refl inner $
        sets ! (of_opd ! (get_in ! (fld ! refl (stop !)) (sub ! 0 refl (whole !)))) refl fa $ sets ! (of_opd ! (get ! refl)) refl (Ptr-Good p) $
        sets ! (agg ! (and_then ! (get ! refl) (and_then ! (get ! refl) (no_more !)))) refl (as_fields (layout RawPtr ∷ layout Heap.the_row ∷ []) (ptr_val p ∷ hv ∷ []) (Ptr-Good p, (fa, tt))) $ returns ! (look_at ! 0 refl) $ free_all ! refl $
        suffices ! _ (ends_at 𝓛 F.ended stayed (F.clauses 𝓛 at_mem run) z (two (ptr_val p) hv) made ((tt, (tt, tt)), tt) (tt, tt)) $ says ! same $
        nothing ! $ nothing ! $ fjoin ! $ join ! $ nothing ! $ join ! $ done !)))))))

  walk : (z : (walk_of 𝓛 F.ended stayed (F.clauses 𝓛 at_mem run)).Ghost)
      → ent 𝓤 ((walk_of 𝓛 F.ended stayed (F.clauses 𝓛 at_mem run)).pre z) (WpFn 𝓤 H 𝓣.C 𝓣.Λ code.function (z.0.4.0 ++ []) ((walk_of 𝓛 F.ended stayed (F.clauses 𝓛 at_mem run)).post z))
  walk z =
      let Asked : Type 0 = (is_held z.0.3.0.holds.held ≡ true) × (z.0.3.0.holds.lent ≡ false) in
      qed 𝓛 ((‵ ftrue ⊛ ‵ (fsep (Handle.the_row.own_val z.0.3.0 z.0.4.0) ftrue)) ∷ raw (fact 𝓤 Asked) ∷ []) ∵ move ! (1 ∷ []) $
      heard ! Asked (λ asked. by ! (walk_at z z.0.3.0.holds.held refl asked.0 asked.1))

pub into_parts_spec : {M : Type 1} → stated.statement M
unfolding tables_of
into_parts_spec 𝓤 𝓛 𝓜 𝓡 wired =
    let 𝓣 : Tables 𝓤 𝓛.H = tables_of 𝓤 𝓛.H 𝓜 (tables 𝓤 𝓛.H 𝓜 𝓡 𝓡.env) in
    entered 𝓤 𝓛.H (triple_of 𝓛 F.signature (F.spec 𝓛 𝓜.mem 𝓡.returns)) 𝓣.C 𝓣.Λ #self code.function (code.unfolded 𝓤 𝓛.H 𝓜 𝓡 wired)
    (walk_Meets 𝓛 F.ended stayed (Goes-blank 𝓛 0 From yes (λ κs x f. tt), tt) (F.clauses 𝓛 𝓜.mem 𝓡.returns) (WpFn 𝓤 𝓛.H 𝓣.C 𝓣.Λ code.function) (WpFn-mono 𝓤 𝓛.H 𝓛.laws 𝓣 code.function)
    (walk 𝓛 𝓜.mem 𝓡.returns 𝓣))
