use Rattle.std.proofs.Common.{◌≡◌, None, refl, sym, ◌∙◌, subst}
use Rattle.seg_data.specs.Faults.{IsFaultless}
use Rattle.seg_pairs.specs.PairData.{HasPairDataFault}
use Rattle.seg_pairs.specs.PairTable.{PairTable, pair_table}
use Rattle.bench.specs.PairTables.{cluster_table}
use Rattle.bench.proofs.PairFaults.{clusters-sound, clusters-never-rejected}
use Rattle.bench.proofs.pair_tables.cluster_table.Goals as goal

pub unreachable-requires-in_default-try_from_parts : goal.unreachable-requires-in_default-try_from_parts
unreachable-requires-in_default-try_from_parts c =
    let parts : pair_table c.in-Ok.classes c.in_ok-entries.entries.items c.new-statuses.result.items 6 3 4 5 127 ≡ cluster_table =
    rw (c.in-Ok.ensures.accepted.0, c.in_ok-from_slice.ensures.items, c.in_ok-entries.ensures.items, c.new-statuses.ensures.items) refl in
    clusters-never-rejected _ parts _ c.in_default-try_from_parts.ensures.rejected

pub returns-clause-sound : goal.returns-clause-sound
returns-clause-sound c =
    let parts : pair_table c.in-Ok.classes c.in_ok-entries.entries.items c.new-statuses.result.items 6 3 4 5 127 ≡ cluster_table =
    rw (c.in-Ok.ensures.accepted.0, c.in_ok-from_slice.ensures.items, c.in_ok-entries.ensures.items, c.new-statuses.ensures.items) refl in
    subst (λ (t : PairTable). IsFaultless (HasPairDataFault t None)) (sym (c.in-Ok-try_from_parts.ensures.accepted.0 ∙ parts)) clusters-sound
