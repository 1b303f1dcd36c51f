use Rattle.std.proofs.Common.{◌∙◌, ap, arith, length, refl, sym}
use Rattle.seg_memo.proofs.Memoised.{made-memo, parts-fit, sets-made, states-made, made-ahead, read-by}
use Rattle.seg_machine.specs.Machine.{Machine}
use Rattle.seg_machine.specs.Tailored.{machine_of, parts_of}
use Rattle.seg_memo.proofs.memo.«MemoBreakIterator+I+CountedTransitions».try_new.Goals as goal

pub invariant_of-result : goal.invariant_of-result
invariant_of-result g c = (
  λ off. (refl, refl),
  read-by (parts_of c.parts-parts.result) _ _ _ (c.new.ensures.states ∙ ap length c.machine-2.ensures.states ∙ ap (λ (m : Machine). length m.states) (sym c.parts-parts.ensures)),
  record {
    rest = ap (g.I.Cursor.text) c.fork-rest.ensures;
    memo = made-memo (machine_of c.args.machine) (parts_of c.parts-parts.result) _ _ _ _ _ _ _ c.parts-parts.ensures c.facts.ensures (c.new.ensures.transitions ∙ c.machine-2.ensures.transitions)
        (states-made (machine_of c.args.machine) _ (c.states-states.ensures ∙ c.machine.ensures.states)) (sets-made _ _ c.facts.ensures c.num_lookaheads-sets.ensures)
        c.in-Some.ensures.0 (omega (arith, c.in-Some.ensures.1, c.in-Ok.ensures.exact)) c.new-2.ensures.unknown c.new-2.ensures.has c.new.ensures.count;
    ahead = made-ahead (parts_of c.parts-parts.result) _ (g.I.Cursor.text c.fork-after.result) (g.I.Cursor.text c.args.text) _ _ _ (ap (g.I.Cursor.text) c.fork-after.ensures) c.next_symbol-symbol.ensures.symbol
        c.next_symbol-symbol.ensures.place c.next_symbol-symbol.ensures.rest;
  },
)

pub next_symbol-symbol-requires : goal.next_symbol-symbol-requires
next_symbol-symbol-requires g c κs within =
    let fits = parts-fit (machine_of c.args.machine) (parts_of c.parts-parts.result) (g.I.Cursor.text c.fork-after.result).items c.facts.ensures (rw c.fork-after.ensures c.in-Some.ensures.0) in
    (within, (refl, (refl, (omega arith, fits))))
