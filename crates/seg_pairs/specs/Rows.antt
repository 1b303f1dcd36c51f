-- Small tables whose boundaries are known: class 1 is x and 2 is y, 3 and 4 are composites.
use Rattle.std.specs.Prelude.{ℕ, List, [], ◌∷◌}
use Rattle.seg_text.specs.declared.boundary.Boundary.{Boundary}
use Rattle.seg_text.specs.Boundaries.{later_boundaries}
use Rattle.seg_data.specs.Table.{table}
use Rattle.seg_pairs.specs.declared.provider.pairs.BreakState.{BreakState}
use Rattle.seg_pairs.specs.declared.provider.pairs.BreakState.TheVariants.{Break, Keep, NoMatch, Index}
use Rattle.seg_pairs.specs.PairTable.{PairTable, pair_table}
use Rattle.seg_pairs.specs.Breaks.{class_stretch}

-- the boundaries of some classes, each with its class: each class has itself as its status
abbrev pub breaks_of : PairTable → List ℕ → List Boundary
breaks_of t classes = later_boundaries (class_stretch t) classes

-- x y leads to 3, y of 3 to `then`, and y of 4 to nothing; classes after the start are apart
abbrev pub retreat_table : BreakState → PairTable
retreat_table then = pair_table (table [] 0)
    (Keep ∷ Keep ∷ Keep ∷ Keep ∷ Keep ∷ Keep ∷ Keep
    ∷ Keep ∷ Keep ∷ Index 3 ∷ Keep ∷ Keep ∷ Keep ∷ Keep
    ∷ Keep ∷ Keep ∷ Keep ∷ Keep ∷ Keep ∷ Keep ∷ Keep
    ∷ Keep ∷ Keep ∷ then ∷ Keep ∷ Keep ∷ Keep ∷ Keep
    ∷ Keep ∷ Keep ∷ NoMatch ∷ Keep ∷ Keep ∷ Keep ∷ Keep
    ∷ Break ∷ Break ∷ Break ∷ Keep ∷ Keep ∷ Keep ∷ Keep
    ∷ Keep ∷ Keep ∷ Keep ∷ Keep ∷ Keep ∷ Keep ∷ Keep ∷ [])
    (1 ∷ 2 ∷ 3 ∷ 4 ∷ []) 7 2 5 6 127

-- x y leads to 3, of which y leads to nothing and x breaks; y y breaks
abbrev pub composite_table : PairTable
composite_table = pair_table (table [] 0)
    (Keep ∷ Keep ∷ Keep ∷ Keep ∷ Keep ∷ Keep
    ∷ Keep ∷ Keep ∷ Index 3 ∷ Keep ∷ Keep ∷ Keep
    ∷ Keep ∷ Keep ∷ Break ∷ Keep ∷ Keep ∷ Keep
    ∷ Keep ∷ Break ∷ NoMatch ∷ Keep ∷ Keep ∷ Keep
    ∷ Break ∷ Break ∷ Break ∷ Keep ∷ Keep ∷ Keep
    ∷ Keep ∷ Keep ∷ Keep ∷ Keep ∷ Keep ∷ Keep ∷ [])
    (1 ∷ 2 ∷ 3 ∷ []) 6 2 4 5 127
