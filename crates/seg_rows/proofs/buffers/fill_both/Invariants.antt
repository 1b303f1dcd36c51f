use Rattle.std.proofs.Common.{◌<◌, length, min}
use Rattle.seg_text.specs.declared.boundary.Boundary.{Boundary}
use Rattle.seg_machine.specs.Tailored.{machine_of}
use Rattle.seg_rows.proofs.Filling.{IsAppended, IsFilling, left_over}
use Rattle.seg_rows.proofs.buffers.fill_both.Given as goal

abbrev pub invariant-loop-rest : goal.invariant-loop-rest
invariant-loop-rest g l = record {
  filling : IsFilling (machine_of l.machine) (g.I.Cursor.text l.fn.filled.rest) (g.I.Cursor.text l.rest) l.fn.filled.count l.initial.places
      (min (length l.initial.places) (length l.initial.marks)) l.done l.places l.row (g.I.Cursor.text l.after);
  marks : IsAppended (λ (b : Boundary). b.status) l.fn.filled.count l.initial.marks filling.given l.done l.marks;
  some : l.done < min (length l.initial.places) (length l.initial.marks);
}

abbrev pub decreases-loop-rest : goal.decreases-loop-rest
decreases-loop-rest g l =
    left_over (min (length l.initial.places) (length l.initial.marks)) l.done (length (g.I.Cursor.text l.fn.filled.rest).items)
    (length (g.I.Cursor.text l.after).items)
