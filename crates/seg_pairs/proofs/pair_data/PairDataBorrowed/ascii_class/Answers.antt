use Rattle.std.proofs.Common.{◌∙◌, sym, ap}
use Rattle.seg_pairs.specs.PairTable.{table_in}
use Rattle.seg_pairs.proofs.Pairs.{class-table, class-below}
use Rattle.seg_pairs.proofs.pair_data.PairDataBorrowed.ascii_class.Goals as goal

pub returns-in-None-clause-value : goal.returns-in-None-clause-value
returns-in-None-clause-value c = (rw c.property_table.ensures at c.get_ascii.ensures) ∙ sym (class-table _ _ _ (ap table_in c.in-None.is))

pub returns-in-None-clause-below : goal.returns-in-None-clause-below
returns-in-None-clause-below c = class-below _ _ _ c.facts.ensures (rw c.property_table.ensures at c.get_ascii.ensures)
