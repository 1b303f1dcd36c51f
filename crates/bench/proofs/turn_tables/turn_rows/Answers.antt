use Rattle.std.proofs.Common.{List, ◌++◌, ◌∙◌, ap, sym}
use Rattle.seg_pairs.specs.declared.provider.pairs.BreakState.{BreakState}
use Rattle.bench.specs.Rows.{row, rows}
use Rattle.bench.specs.TurnTables.{turn_entry}
use Rattle.bench.proofs.Rows.{rows-next}
use Rattle.bench.proofs.turn_tables.turn_rows.Goals as goal

pub loop-left-init : goal.loop-left-init
unfolding rows
loop-left-init c = c.new-entries.ensures.items

pub loop-left-preserved : goal.loop-left-preserved
loop-left-preserved c =
    c.in_ok-push_row.ensures
    ∙ ap (λ (entries : List BreakState). entries ++ row turn_entry c.loop-left.left 71) c.loop-left.invariant
    ∙ sym (rows-next turn_entry 71 c.loop-left.left)
