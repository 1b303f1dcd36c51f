-- Stretches by either rules.
use Rattle.std.proofs.Common.{ℕ, List, ◌∷◌, length}
use Rattle.std.specs.Prelude.{Option}
use Rattle.seg_text.specs.Boundaries.{HasRestart, IsCover, HasProgress, HasEndAlone}
use Rattle.seg_text.proofs.Covers.{covers-list}
use Rattle.seg_text.proofs.Restarts.{restarts}
use Rattle.seg_data.specs.Table.{Table}
use Rattle.seg_machine.specs.Machine.{Machine}
use Rattle.seg_machine.specs.MachineFaults.{IsChecked}
use Rattle.seg_machine.specs.Pick.{machine_stretch}
use Rattle.seg_machine.proofs.Segmentations.{machine-going, machine-alone, machine-within}
use Rattle.seg_pairs.specs.Breaks.{table_stretch}
use Rattle.seg_pairs.specs.PairTable.{PairTable}
use Rattle.seg_pairs.proofs.Engine.{table-going, table-alone, table-within}
use Rattle.seg_clusters.specs.Rules.{Rules, first_stretch, boundaries_by}
use Rattle.seg_clusters.specs.Rules.Rules.{ByTable, ByMachine}

pub going : (rules : Rules) → HasProgress (first_stretch rules)
going (ByTable t overriding) = table-going t overriding
going (ByMachine m) = machine-going m

alone : (rules : Rules) (x : ℕ) (xs : List ℕ) → HasEndAlone (first_stretch rules (x ∷ xs))
alone (ByTable t overriding) = table-alone t overriding
alone (ByMachine m) = machine-alone m

pub restarts-by : (rules : Rules) → HasRestart (boundaries_by rules)
restarts-by rules = restarts (first_stretch rules) (going rules) (alone rules)

-- the boundaries of a list cover it

pub table-covers : (t : PairTable) (overriding : Option Table) (code_points : List ℕ)
    → IsCover 0 (length code_points) (boundaries_by (ByTable t overriding) code_points)
table-covers t overriding code_points = covers-list (table_stretch t overriding) (table-within t overriding) code_points

pub machine-covers : (m : Machine) → IsChecked m → (code_points : List ℕ) → IsCover 0 (length code_points) (boundaries_by (ByMachine m) code_points)
machine-covers m checked code_points = covers-list (machine_stretch m) (machine-within m checked) code_points
