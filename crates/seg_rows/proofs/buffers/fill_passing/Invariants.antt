use Rattle.std.proofs.Common.{◌≤◌, length}
use Rattle.seg_machine.specs.Tailored.{machine_of}
use Rattle.seg_rows.proofs.Passing.{IsPassing}
use Rattle.seg_rows.proofs.buffers.fill_passing.Given as goal

abbrev pub invariant-items : goal.invariant-items
invariant-items g l = record {
  passing : IsPassing (machine_of l.machine) (g.T.CodePointTest.passes l.test) (g.I.Cursor.text l.text) l.initial.places l.initial.marks l.done l.places l.marks l.row (g.I.Cursor.text l.after);
  within : l.done ≤ l.room;
}

abbrev pub decreases-items : goal.decreases-items
decreases-items g l = length (g.I.Cursor.text l.after).items
