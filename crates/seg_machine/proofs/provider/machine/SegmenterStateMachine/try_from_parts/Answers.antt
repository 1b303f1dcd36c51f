use Rattle.std.proofs.lemmas.Result.{err_from_is_err_and}
use Rattle.seg_machine.specs.Machine.{machine}
use Rattle.seg_machine.proofs.Machines.{checked-from}
use Rattle.seg_machine.proofs.provider.machine.SegmenterStateMachine.try_from_parts.Goals as goal

pub returns-in_err-check_parts-clause-rejected : goal.returns-in_err-check_parts-clause-rejected
returns-in_err-check_parts-clause-rejected c =
    let p = err_from_is_err_and c.from_residual.result c.from_residual.ensures.1 in
    rw (p.1, p.2, ← c.as_slice.ensures.value, ← c.as_slice-2.ensures.value, ← c.as_slice-3.ensures.value) c.in_err-check_parts.ensures.rejected

pub invariant_of-result : goal.invariant_of-result
invariant_of-result c = (
  checked-from _ (rw (← c.as_slice.ensures.value, ← c.as_slice-2.ensures.value, ← c.as_slice-3.ensures.value) c.in_ok-check_parts.ensures.accepted),
  rw (← c.as_slice-4.ensures.value) c.marks_of-marks.ensures,
)

pub returns-clause-stall_free : goal.returns-clause-stall_free
returns-clause-stall_free c =
    (checked-from _ (rw (← c.as_slice.ensures.value, ← c.as_slice-2.ensures.value, ← c.as_slice-3.ensures.value) c.in_ok-check_parts.ensures.accepted)).stall_free

pub returns-clause-checked : goal.returns-clause-checked
returns-clause-checked c =
    checked-from _ (rw (← c.as_slice.ensures.value, ← c.as_slice-2.ensures.value, ← c.as_slice-3.ensures.value) c.in_ok-check_parts.ensures.accepted)

pub marks_of-marks-requires : goal.marks_of-marks-requires
marks_of-marks-requires c =
    let parts =
    machine c.args.symbols c.args.states.items c.args.transitions.items c.args.num_lookaheads c.args.pseudo_symbol_shift c.args.pseudo_symbol_map.items in
    let checked =
    checked-from parts (rw (← c.as_slice.ensures.value, ← c.as_slice-2.ensures.value, ← c.as_slice-3.ensures.value) c.in_ok-check_parts.ensures.accepted) in
    rw (c.as_slice-4.ensures.value) checked.few_states
