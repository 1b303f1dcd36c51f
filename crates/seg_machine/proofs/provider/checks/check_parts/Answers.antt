use Rattle.std.proofs.lemmas.Bool.{iff_false}
use Rattle.seg_data.specs.declared.provider.DataError.TheVariants.{SymbolOutOfRange, TooManyLookaheads, LookaheadOutOfRange, EndCycle, Stalls}
use Rattle.seg_data.proofs.Lowest.{lowest-from, faultless-from}
use Rattle.seg_machine.specs.Machine.{machine}
use Rattle.seg_machine.specs.MachineFaults.{HasMachineFault}
use Rattle.seg_machine.proofs.Machines.{below-12, below-13, below-14, below-15, below-16, below-17, below-18, below-19, below-20, some-from, stray-there, bounded-from}
use Rattle.seg_machine.proofs.Bare.{cycle-full, stall-full}
use Rattle.seg_machine.proofs.provider.checks.check_parts.Goals as goal

pub returns-then-has_stray_symbol-clause-rejected : goal.returns-then-has_stray_symbol-clause-rejected
returns-then-has_stray_symbol-clause-rejected c =
    let m = machine c.args.symbols.now c.args.states.now c.args.transitions.now c.args.num_lookaheads c.args.shift c.args.map.now in
    let b12 = below-12 m (some-from _ _ c.is_empty.ensures c.if-is_empty.false) c.if-states-gt-MAX_STATES.false in
    let b13 = below-13 m b12 (iff_false c.has_wrong_size.ensures c.if-has_wrong_size.false) in
    let b14 = below-14 m b13 (iff_false c.leads_past.ensures c.if-leads_past.false) in
    lowest-from (HasMachineFault m) SymbolOutOfRange b14
    (stray-there m (c.has_stray_symbol.ensures.0 c.if-has_stray_symbol.true))

pub returns-then-num_lookaheads-gt-MAX_LOOKAHEADS-clause-rejected : goal.returns-then-num_lookaheads-gt-MAX_LOOKAHEADS-clause-rejected
returns-then-num_lookaheads-gt-MAX_LOOKAHEADS-clause-rejected c =
    let m = machine c.args.symbols.now c.args.states.now c.args.transitions.now c.args.num_lookaheads c.args.shift c.args.map.now in
    let b12 = below-12 m (some-from _ _ c.is_empty.ensures c.if-is_empty.false) c.if-states-gt-MAX_STATES.false in
    let b13 = below-13 m b12 (iff_false c.has_wrong_size.ensures c.if-has_wrong_size.false) in
    let b14 = below-14 m b13 (iff_false c.leads_past.ensures c.if-leads_past.false) in
    let b15 = below-15 m b14 (iff_false c.has_stray_symbol.ensures c.if-has_stray_symbol.false) in
    lowest-from (HasMachineFault m) TooManyLookaheads b15 c.if-num_lookaheads-gt-MAX_LOOKAHEADS.true

pub returns-then-names_past-clause-rejected : goal.returns-then-names_past-clause-rejected
returns-then-names_past-clause-rejected c =
    let m = machine c.args.symbols.now c.args.states.now c.args.transitions.now c.args.num_lookaheads c.args.shift c.args.map.now in
    let b12 = below-12 m (some-from _ _ c.is_empty.ensures c.if-is_empty.false) c.if-states-gt-MAX_STATES.false in
    let b13 = below-13 m b12 (iff_false c.has_wrong_size.ensures c.if-has_wrong_size.false) in
    let b14 = below-14 m b13 (iff_false c.leads_past.ensures c.if-leads_past.false) in
    let b15 = below-15 m b14 (iff_false c.has_stray_symbol.ensures c.if-has_stray_symbol.false) in
    let b16 = below-16 m b15 c.if-num_lookaheads-gt-MAX_LOOKAHEADS.false in
    lowest-from (HasMachineFault m) LookaheadOutOfRange b16 (c.names_past.ensures.0 c.if-names_past.true)

pub has_end_cycle-requires : goal.has_end_cycle-requires
has_end_cycle-requires c =
    let m = machine c.args.symbols.now c.args.states.now c.args.transitions.now c.args.num_lookaheads c.args.shift c.args.map.now in
    record {
      bounded = bounded-from m (some-from _ _ c.is_empty.ensures c.if-is_empty.false) c.if-states-gt-MAX_STATES.false
          (iff_false c.has_wrong_size.ensures c.if-has_wrong_size.false) (iff_false c.leads_past.ensures c.if-leads_past.false)
          c.if-num_lookaheads-gt-MAX_LOOKAHEADS.false (iff_false c.names_past.ensures c.if-names_past.false);
    }

pub is_stall_free-requires : goal.is_stall_free-requires
is_stall_free-requires c =
    let m = machine c.args.symbols.now c.args.states.now c.args.transitions.now c.args.num_lookaheads c.args.shift c.args.map.now in
    record {
      bounded = bounded-from m (some-from _ _ c.is_empty.ensures c.if-is_empty.false) c.if-states-gt-MAX_STATES.false
          (iff_false c.has_wrong_size.ensures c.if-has_wrong_size.false) (iff_false c.leads_past.ensures c.if-leads_past.false)
          c.if-num_lookaheads-gt-MAX_LOOKAHEADS.false (iff_false c.names_past.ensures c.if-names_past.false);
    }

pub returns-then-has_end_cycle-clause-rejected : goal.returns-then-has_end_cycle-clause-rejected
returns-then-has_end_cycle-clause-rejected c =
    let m = machine c.args.symbols.now c.args.states.now c.args.transitions.now c.args.num_lookaheads c.args.shift c.args.map.now in
    let b12 = below-12 m (some-from _ _ c.is_empty.ensures c.if-is_empty.false) c.if-states-gt-MAX_STATES.false in
    let b13 = below-13 m b12 (iff_false c.has_wrong_size.ensures c.if-has_wrong_size.false) in
    let b14 = below-14 m b13 (iff_false c.leads_past.ensures c.if-leads_past.false) in
    let b15 = below-15 m b14 (iff_false c.has_stray_symbol.ensures c.if-has_stray_symbol.false) in
    let b16 = below-16 m b15 c.if-num_lookaheads-gt-MAX_LOOKAHEADS.false in
    let b17 = below-17 m b16 (iff_false c.names_past.ensures c.if-names_past.false) in
    lowest-from (HasMachineFault m) EndCycle b17 (cycle-full m (c.has_end_cycle.ensures.0 c.if-has_end_cycle.true))

pub returns-then-not-is_stall_free-clause-rejected : goal.returns-then-not-is_stall_free-clause-rejected
returns-then-not-is_stall_free-clause-rejected c =
    let m = machine c.args.symbols.now c.args.states.now c.args.transitions.now c.args.num_lookaheads c.args.shift c.args.map.now in
    let b12 = below-12 m (some-from _ _ c.is_empty.ensures c.if-is_empty.false) c.if-states-gt-MAX_STATES.false in
    let b13 = below-13 m b12 (iff_false c.has_wrong_size.ensures c.if-has_wrong_size.false) in
    let b14 = below-14 m b13 (iff_false c.leads_past.ensures c.if-leads_past.false) in
    let b15 = below-15 m b14 (iff_false c.has_stray_symbol.ensures c.if-has_stray_symbol.false) in
    let b16 = below-16 m b15 c.if-num_lookaheads-gt-MAX_LOOKAHEADS.false in
    let b17 = below-17 m b16 (iff_false c.names_past.ensures c.if-names_past.false) in
    let b18 = below-18 m b17 (iff_false c.has_end_cycle.ensures c.if-has_end_cycle.false) in
    lowest-from (HasMachineFault m) Stalls b18 (stall-full m (c.is_stall_free.ensures.stalls c.if-not-is_stall_free.true))

pub returns-clause-accepted : goal.returns-clause-accepted
returns-clause-accepted c =
    let m = machine c.args.symbols.now c.args.states.now c.args.transitions.now c.args.num_lookaheads c.args.shift c.args.map.now in
    let b12 = below-12 m (some-from _ _ c.is_empty.ensures c.if-is_empty.false) c.if-states-gt-MAX_STATES.false in
    let b13 = below-13 m b12 (iff_false c.has_wrong_size.ensures c.if-has_wrong_size.false) in
    let b14 = below-14 m b13 (iff_false c.leads_past.ensures c.if-leads_past.false) in
    let b15 = below-15 m b14 (iff_false c.has_stray_symbol.ensures c.if-has_stray_symbol.false) in
    let b16 = below-16 m b15 c.if-num_lookaheads-gt-MAX_LOOKAHEADS.false in
    let b17 = below-17 m b16 (iff_false c.names_past.ensures c.if-names_past.false) in
    let b18 = below-18 m b17 (iff_false c.has_end_cycle.ensures c.if-has_end_cycle.false) in
    let b19 = below-19 m b18 (c.is_stall_free.ensures.free c.if-not-is_stall_free.false) in
    faultless-from (HasMachineFault m) (below-20 m b19)
