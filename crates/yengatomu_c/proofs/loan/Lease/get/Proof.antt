-- `get` reads the pointer through the `&`, and lends what a `&` to the lease lends.
use mathlib.Core.Path.{refl}
use Prim.Native.Nat.{ℕ, zero, suc, ◌+◌}
use mathlib.Core.List.{List, [], ◌∷◌}
use seplogic.Ra.Ura.{Ura}
use mir.Syntax.{Body, named, place, copy, assign, rv_opd, seq, return}
use mir.Val.{Val, vptr}
use base.Logic.{SProp, ent, sep, emp, via, fst∗}
use base.Fml.{Lft, Share, Fml, ftrue, fhide, flft}
use prog.Wp.{Calls, Loops, WpFn, Tables}
use types.Logic.{Logic, sem}
use sound.WpLaws.{WpFn-mono}
use types.Kit.{at_ret, ‵, ◌⊛◌, ◌$◌, ◌∵◌, !, qed, by, move, keep, use1, drop, split, join, fsplit, fjoin, feq_i, raw, suffices, frame, done}
use types.Run.{look, init, forget, stop, hop, fld, from, load, of_opd, assigns, assigns_last, first, blocks, exec, returns, enter, alloc1, alloc0, params1, pass1, pass0, free1, free0, addr}
use prog.Memory.{Memory}
use prog.Routine.{Routine}
use contract.Monad.{Fun, fact}
use types.ByLocal.{env}
use denote.Exit.{yes}
use denote.RattleType.{RattleType, RowLaws, owns}
use denote.Memory.{hidden_shr}
use denote.Opens.{shr_dup, unhide, hide}
use denote.RawPtr.{RawPtr, block_of, count_of, InBlock, ptr_row_laws}
use denote.Ref.{Bor, ShrRef, shr_vals, shr_Tells}
use denote.Signature.{plain}
use denote.Steps.{heard, nothing}
use denote.Struct.Struct.{Struct, Struct-row_laws}
use denote.Struct.Owning.{shape, to}
use denote.Struct.Lending.{in_block_says, lent_out}
use denote.Triple.Entry.{on_entry}
use denote.Triple.Spec.{Meets, triple_of}
use denote.Triple.Walked.{says, Stays, stay_none_ref, walk_of, ends_at, walked, Goes-none_ref, walk_Meets}
use contract.Running.{tables, tables_of}
use denote.Triple.Table.{entered}
use Rattle.std_alloc.proofs.Words.{pointer_in, pointer_out}
use Rattle.yengatomu_segmenter.specs.contracts.segmenter.Segmenter as Seg
use Rattle.yengatomu_c.specs.contracts.loan.Lease as Lease
use Rattle.yengatomu_c.proofs.loan.Lease.TheLaws as lease
use Rattle.yengatomu_c.specs.contracts.loan.Lease.get as F
use Rattle.yengatomu_c.specs.contracts.loan.Lease.get.Key.{name as #self}
use Rattle.yengatomu_c.proofs.loan.Lease.get.Statement as stated
use Rattle.yengatomu_c.proofs.loan.Lease.get.Code as code

abbrev rest : Body
rest = seq (assign (place 0 []) (rv_opd (copy (place 2 [])))) return

abbrev B : RattleType
B = Lease.the_row

abbrev R : RattleType
R = Seg.the_row

abbrev Words : RattleType
Words = Struct (shape Lease.the_type)

words_laws : RowLaws Words
words_laws = Struct-row_laws (shape Lease.the_type) (ptr_row_laws, tt)

abbrev stayed : Stays (F.ended).signature.params (F.ended).kept
stayed = (stay_none_ref (0 ∷ []) tt (plain (λ _. B)) yes, tt)

module _ {M : Type 1} {𝓤 : Ura M} (𝓛 : Logic 𝓤) (at_mem : Memory → SProp 𝓤) (run : Routine → Fun 𝓤) where
  open 𝓛 use {H, A}

  module _ (κ : Lft) (q : Share) (b o : ℕ) (d : B.Denot) where
    abbrev self : Bor B.Denot
    self = record { ref_ptr = (b, o); now = d }

    abbrev bound : (walk_of 𝓛 F.ended stayed (F.clauses 𝓛 at_mem run)).Ghost
    bound = (((κ, tt), (q, tt), tt, (self, tt), (vptr b o ∷ [], tt)), tt)

    abbrev Post : Val → SProp 𝓤
    Post = (walk_of 𝓛 F.ended stayed (F.clauses 𝓛 at_mem run)).post bound

    abbrev at : ℕ × ℕ
    at = (block_of d.at, count_of d.at)

    abbrev fields : Words.Denot
    fields = to Lease.the_type d

    abbrev S : Fml
    S = hidden_shr Words κ fields b o

    shows_ptr : ent 𝓤 (sem 𝓛 S) (sep 𝓤 (sem 𝓛 (hidden_shr RawPtr κ d.at b (o + 0))) (sem 𝓛 S))
    shows_ptr = qed 𝓛 (‵ S ∷ []) ∵ shr_dup ! Words words_laws fields b o κ $ unhide ! $ fsplit ! $ fsplit ! $ hide ! $ keep ! (0 ∷ 3 ∷ []) $ done !

    exits : ent 𝓤 (sep 𝓤 (A.lft κ q) (sep 𝓤 (sem 𝓛 (hidden_shr B κ d b o)) (sem 𝓛 (hidden_shr R κ d.segmenter at.0 at.1)))) (Post (vptr at.0 at.1))
    exits =
        qed 𝓛 (‵ (flft κ q) ∷ ‵ (hidden_shr B κ d b o) ∷ ‵ (hidden_shr R κ d.segmenter at.0 at.1) ∷ []) ∵
        suffices ! _ (ends_at 𝓛 F.ended stayed (F.clauses 𝓛 at_mem run) bound (vptr at.0 at.1) (record { ref_ptr = at; now = d.segmenter }) (tt, tt) (tt, tt)) $ says ! refl $
        nothing ! $ move ! (1 ∷ 0 ∷ []) $ join ! $ frame ! $ feq_i ! (List Val) (vptr b o ∷ []) (vptr b o ∷ []) refl $ fjoin ! $ nothing ! $ move ! (1 ∷ 0 ∷ []) $ fjoin ! $ frame ! $ feq_i ! (List Val) (vptr at.0 at.1 ∷ []) (vptr at.0 at.1 ∷ []) refl $ fjoin ! $ done !

    module _ (C : Calls 𝓤 H) (Λ : Loops 𝓤 H) where
      walk : ent 𝓤 (on_entry 𝓛 F.signature (κ, tt) (q, tt) (self, tt) (vptr b o ∷ [], tt)) (WpFn 𝓤 H C Λ code.function (vptr b o ∷ []) Post)
      walk =
          qed 𝓛 ((‵ (flft κ q) ⊛ ‵ ftrue) ∷ ‵ (owns (ShrRef (named 0) κ B ∷ []) (self, tt) (vptr b o ∷ [], tt)) ∷ []) ∵ enter ! C Λ code.function (vptr b o ∷ []) _ $
          alloc1 ! (λ l₀. alloc1 ! (λ l₁. alloc1 ! (λ l₂. alloc0 ! $ params1 ! $ pass1 ! (init ! 2 refl (tt, tt)) $ pass0 ! $
          let En = env code.function.locals (λ i. elim i [ zero ↦ l₀ | suc j ↦ elim j [ zero ↦ l₁ | suc _ ↦ l₂ ] ]) in
          move ! (7 ∷ []) $
          fsplit ! $ fsplit ! $ drop ! $ shr_dup ! B lease.the_row_laws.shr_laws d b o κ $
          use1 𝓛 (‵ (hidden_shr Words κ fields b o) ⊛ ‵ (fhide (Lease.the_lent d d.at κ))) (lent_out 𝓛 Lease.struct Lease.the_codes Lease.the_heap Lease.the_lent κ d b o) $ split ! $
          move ! (1 ∷ []) $
          unhide ! $ fsplit ! $ use1 𝓛 (raw (fact 𝓤 (InBlock d.at))) (in_block_says 𝓛 d.at) $ heard ! (InBlock d.at) (λ inb. hide ! $
          move ! (10 ∷ []) $
          split ! $
          move ! (3 ∷ 0 ∷ []) $
          first ! $ blocks ! $
          pointer_in ! tt d.at inb b (o + 0) shows_ptr (λ q'.
          assigns_last ! (addr ! (from ! (hop ! (look ! 10 refl) (fld ! refl (hop ! (look ! 1 refl) (stop !)))))) (from ! (stop !)) (init ! 8 refl (tt, tt)) $
          exec ! C Λ En rest (at_ret En Post) $
          pointer_out ! tt d.at inb b (o + 0) $
          assigns ! (of_opd ! (load ! (from ! (stop !)) (look ! 6 refl))) (from ! (stop !)) (init ! 10 refl (tt, tt)) $
          returns ! (look ! 10 refl) $
          forget ! 6 refl $ forget ! 8 refl $ forget ! 10 refl $ move ! (10 ∷ 11 ∷ []) $ free1 ! $ move ! (8 ∷ 9 ∷ []) $ free1 ! $ move ! (6 ∷ 7 ∷ []) $ free1 ! $ free0 ! $
          keep ! (0 ∷ 4 ∷ 3 ∷ []) $
          by ! exits)))))

  meets : (𝓣 : Tables 𝓤 H) → Meets 𝓛 F.signature (WpFn 𝓤 H 𝓣.C 𝓣.Λ code.function) (F.spec 𝓛 at_mem run)
  meets 𝓣 =
      walk_Meets 𝓛 F.ended stayed (Goes-none_ref 𝓛 1 (0 ∷ []) tt (plain (λ _. B)) yes, tt) (F.clauses 𝓛 at_mem run) (WpFn 𝓤 H 𝓣.C 𝓣.Λ code.function) (WpFn-mono 𝓤 H 𝓛.laws 𝓣 code.function)
      (walked 𝓛 F.ended stayed (F.clauses 𝓛 at_mem run) (WpFn 𝓤 H 𝓣.C 𝓣.Λ code.function) (λ κs. (shr_vals, tt)) (λ κs. (shr_Tells (named 0) κs.0 B, tt))
      (λ κs qs bounds a g are. via 𝓤 _ (fst∗ 𝓤 _ (emp 𝓤)) (walk κs.0 qs.0 a.0.ref_ptr.0 a.0.ref_ptr.1 a.0.now 𝓣.C 𝓣.Λ)))

pub get_spec : {M : Type 1} → stated.statement M
unfolding tables_of
get_spec 𝓤 𝓛 𝓜 𝓡 wired =
    let 𝓣 : Tables 𝓤 𝓛.H = tables_of 𝓤 𝓛.H 𝓜 (tables 𝓤 𝓛.H 𝓜 𝓡 𝓡.env) in
    entered 𝓤 𝓛.H (triple_of 𝓛 F.signature (F.spec 𝓛 𝓜.mem 𝓡.returns)) 𝓣.C 𝓣.Λ #self code.function (code.unfolded 𝓤 𝓛.H 𝓜 𝓡 wired) (meets 𝓛 𝓜.mem 𝓡.returns 𝓣)
