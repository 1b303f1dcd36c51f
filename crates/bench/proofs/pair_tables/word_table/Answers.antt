use Rattle.std.proofs.Common.{◌≡◌, None, refl, sym, ◌∙◌, subst}
use Rattle.seg_data.specs.Faults.{IsFaultless}
use Rattle.seg_pairs.specs.PairTable.{PairTable, pair_table}
use Rattle.seg_words.specs.Words.{HasWordTableFault}
use Rattle.bench.specs.PairTables.{cluster_table, word_table}
use Rattle.bench.proofs.PairFaults.{words-never-rejected}
use Rattle.bench.proofs.WordFaults.{words-sound}
use Rattle.bench.proofs.pair_tables.word_table.Goals as goal

pub unreachable-requires-in_default-try_from_parts : goal.unreachable-requires-in_default-try_from_parts
unreachable-requires-in_default-try_from_parts c =
    let parts : pair_table c.in-Ok.classes c.in_ok-entries.entries.items c.in_ok-statuses.statuses.items 6 3 4 5 3 ≡ word_table =
    rw (c.in-Ok.ensures.accepted.0, c.in_ok-from_slice.ensures.items, c.in_ok-entries.ensures.items, c.in_ok-statuses.ensures.items) refl in
    words-never-rejected _ parts _ c.in_default-try_from_parts.ensures.rejected

pub returns-clause-sound : goal.returns-clause-sound
returns-clause-sound c =
    let parts : pair_table c.in-Ok.classes c.in_ok-entries.entries.items c.in_ok-statuses.statuses.items 6 3 4 5 3 ≡ word_table =
    rw (c.in-Ok.ensures.accepted.0, c.in_ok-from_slice.ensures.items, c.in_ok-entries.ensures.items, c.in_ok-statuses.ensures.items) refl in
    subst (λ (t : PairTable). IsFaultless (HasWordTableFault t None cluster_table)) (sym (c.in-Ok-try_from_parts.ensures.accepted.0 ∙ parts)) words-sound
