use Rattle.seg_pairs.proofs.Rows.{rows}
use Rattle.seg_pairs.proofs.laws.small_tables_find.Goals as goal

pub returns : goal.returns
returns c = record {
  back_to_saved = rows.back_to_saved;
  to_end = rows.to_end;
  back_to_intermediate = rows.back_to_intermediate;
  back_to_first = rows.back_to_first;
  state_reached = rows.state_reached;
}
