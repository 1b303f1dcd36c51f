use Rattle.std.proofs.lemmas.Bool.{iff_false}
use Rattle.seg_machine.proofs.Machines.{text_symbols-from}
use Rattle.seg_machine.proofs.tailored_machine.TailoredMachineBorrowed.try_new.Goals as goal

pub from_parts-requires-clause-symbols : goal.from_parts-requires-clause-symbols
from_parts-requires-clause-symbols c =
    rw (c.pseudo_symbol_map.ensures, c.replacing.ensures)
    (λ code_point. text_symbols-from _ code_point (iff_false c.has_stray_symbol.ensures c.if-has_stray_symbol.false))
