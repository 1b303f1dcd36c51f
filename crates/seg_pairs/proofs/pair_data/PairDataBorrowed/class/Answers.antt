use Rattle.std.proofs.Common.{◌∙◌, sym, ap}
use Rattle.std.proofs.lemmas.Bool.{iff_false}
use Rattle.seg_pairs.specs.PairTable.{table_in}
use Rattle.seg_pairs.proofs.Pairs.{class-table, class-override, class-zero, class-below, override-below, not-other}
use Rattle.seg_pairs.proofs.pair_data.PairDataBorrowed.class.Goals as goal

pub returns-in_default-clause-value : goal.returns-in_default-clause-value
returns-in_default-clause-value c =
    (rw c.property_table.ensures at c.get32.ensures) ∙ sym (class-table _ _ _ (ap table_in c.in_default.is))

pub returns-in_default-clause-below : goal.returns-in_default-clause-below
returns-in_default-clause-below c = class-below _ _ _ c.facts.ensures (rw c.property_table.ensures at c.get32.ensures)

pub returns-then-overrides_by-clause-value : goal.returns-then-overrides_by-clause-value
returns-then-overrides_by-clause-value c =
    let read = rw c.property_table_override.ensures at c.get32-class.ensures in
    read ∙ sym (class-override _ _ _ _ (ap table_in c.in-Some.is) (rw read at (c.overrides_by.ensures.0 c.if-overrides_by.true)))

pub returns-then-overrides_by-clause-below : goal.returns-then-overrides_by-clause-below
returns-then-overrides_by-clause-below c =
    let read = rw c.property_table_override.ensures at c.get32-class.ensures in
    rw read (override-below c.args.self.table.now _ _ _ c.args.self.fits (ap table_in c.in-Some.is) (rw read at (c.overrides_by.ensures.0 c.if-overrides_by.true)))

pub returns-clause-value : goal.returns-clause-value
returns-clause-value c =
    let read = rw c.property_table_override.ensures at c.get32-class.ensures in
    (rw c.property_table-2.ensures at c.get32-2.ensures) ∙ sym (class-zero _ _ _ _ (ap table_in c.in-Some.is) (sym read ∙ not-other _ (iff_false c.overrides_by.ensures c.if-overrides_by.false)))

pub returns-clause-below : goal.returns-clause-below
returns-clause-below c = class-below _ _ _ c.facts.ensures (rw c.property_table-2.ensures at c.get32-2.ensures)
