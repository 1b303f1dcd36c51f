-- The boundaries that small tables find, by computing them.
use Rattle.std.proofs.Common.{◌≡◌, [], ◌∷◌, refl}
use Rattle.seg_pairs.specs.declared.provider.pairs.BreakState.TheVariants.{Index, Intermediate}
use Rattle.seg_pairs.specs.PairTable.{entry_of}
use Rattle.seg_text.specs.Boundaries.{boundary, later_boundaries, later_boundaries_within}
use Rattle.seg_pairs.specs.Breaks.{class_stretch}
use Rattle.seg_pairs.specs.Rows.{breaks_of, retreat_table, composite_table}
use Rattle.seg_pairs.specs.Verdict.{verdict, named_verdict}
use Rattle.seg_pairs.specs.Walk.{walk, namings}

pub record Rows : Type 0 where
  pub back_to_saved : breaks_of (retreat_table (Index 4)) (1 ∷ 2 ∷ 2 ∷ 2 ∷ []) ≡ boundary 1 1 ∷ boundary 4 2 ∷ []
  pub to_end : breaks_of (retreat_table (Index 4)) (1 ∷ 2 ∷ 2 ∷ []) ≡ boundary 3 4 ∷ []
  pub back_to_intermediate : breaks_of (retreat_table (Intermediate 4)) (1 ∷ 2 ∷ 2 ∷ 2 ∷ []) ≡ boundary 2 1 ∷ boundary 4 2 ∷ []
  pub back_to_first : breaks_of composite_table (1 ∷ 2 ∷ 2 ∷ []) ≡ boundary 1 1 ∷ boundary 2 2 ∷ boundary 3 2 ∷ []
  pub state_reached : breaks_of composite_table (1 ∷ 2 ∷ 1 ∷ []) ≡ boundary 2 3 ∷ boundary 3 1 ∷ []

pub rows : Rows
unfolding later_boundaries later_boundaries_within class_stretch verdict named_verdict walk namings entry_of
rows = record {
  back_to_saved = refl;
  to_end = refl;
  back_to_intermediate = refl;
  back_to_first = refl;
  state_reached = refl;
}
