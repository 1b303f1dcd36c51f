use Rattle.std.proofs.Common.{◌<◌, length}
use Rattle.seg_machine.specs.Tailored.{machine_of}
use Rattle.seg_rows.proofs.Filling.{IsFilling, left_over}
use Rattle.seg_rows.proofs.buffers.fill_places.Given as goal

abbrev pub invariant-loop-rest : goal.invariant-loop-rest
invariant-loop-rest g l = record {
  filling : IsFilling (machine_of l.machine) (g.I.Cursor.text l.fn.filled.rest) (g.I.Cursor.text l.rest) l.fn.filled.count l.initial.places (length l.initial.places)
      l.count l.places l.row (g.I.Cursor.text l.after);
  room : l.count < length l.initial.places;
}

abbrev pub decreases-loop-rest : goal.decreases-loop-rest
decreases-loop-rest g l =
    left_over (length l.initial.places) l.count (length (g.I.Cursor.text l.fn.filled.rest).items) (length (g.I.Cursor.text l.after).items)
