use Rattle.std.proofs.Common.{◌≡◌, refl, sym, ◌∙◌, subst}
use Rattle.icu_segmenter.specs.LineEngine.TheVariants.{Classic}
use Rattle.icu_segmenter.specs.LineRules.{HasLineTableFault}
use Rattle.seg_data.specs.Faults.{IsFaultless}
use Rattle.seg_pairs.specs.PairTable.{PairTable, pair_table}
use Rattle.bench.specs.LineTables.{line_table}
use Rattle.bench.specs.PairTables.{cluster_table}
use Rattle.bench.proofs.LineFaults.{lines-never-rejected, lines-sound}
use Rattle.bench.proofs.line_tables.line_table.Goals as goal

pub unreachable-requires-in_default-try_from_parts : goal.unreachable-requires-in_default-try_from_parts
unreachable-requires-in_default-try_from_parts c =
    let parts : pair_table c.in-Ok.classes c.in_ok-entries.entries.items c.new-statuses.result.items 57 54 55 56 46 ≡ line_table =
    rw (c.in-Ok.ensures.accepted.0, c.in_ok-from_slice.ensures.items, c.in_ok-entries.ensures, c.new-statuses.ensures.items) refl in
    lines-never-rejected _ parts _ c.in_default-try_from_parts.ensures.rejected

pub returns-clause-sound : goal.returns-clause-sound
returns-clause-sound c =
    let parts : pair_table c.in-Ok.classes c.in_ok-entries.entries.items c.new-statuses.result.items 57 54 55 56 46 ≡ line_table =
    rw (c.in-Ok.ensures.accepted.0, c.in_ok-from_slice.ensures.items, c.in_ok-entries.ensures, c.new-statuses.ensures.items) refl in
    subst (λ (t : PairTable). IsFaultless (HasLineTableFault Classic t cluster_table)) (sym (c.in-Ok-try_from_parts.ensures.accepted.0 ∙ parts)) lines-sound
