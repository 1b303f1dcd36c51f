-- The boundaries that small machines find, by computing them.
use Rattle.std.proofs.Common.{◌≡◌, [], ◌∷◌, refl}
use Rattle.seg_text.specs.Boundaries.{boundary, later_boundaries, later_boundaries_within}
use Rattle.seg_data.specs.Table.{value_of}
use Rattle.seg_machine.specs.Machine.{replaced, symbol_and_script, step, run, scan, state_at}
use Rattle.seg_machine.specs.Pick.{last_step, first_condition, pick, machine_stretch}
use Rattle.seg_machine.specs.Rows.{letter_boundaries, condition_at_end, condition_on_own_name, accepted_two_past_end, accepted_from_start, start_accepts, named_past_end}

-- the rows
pub record Rows : Type 0 where
  pub condition_at_end_3 : letter_boundaries condition_at_end 3 ≡ boundary 0 0 ∷ boundary 3 1 ∷ []
  pub own_name_1 : letter_boundaries condition_on_own_name 1 ≡ boundary 0 0 ∷ boundary 1 0 ∷ []
  pub own_name_2 : letter_boundaries condition_on_own_name 2 ≡ boundary 0 0 ∷ boundary 1 1 ∷ boundary 2 0 ∷ []
  pub own_name_3 : letter_boundaries condition_on_own_name 3 ≡ boundary 0 0 ∷ boundary 1 1 ∷ boundary 2 1 ∷ boundary 3 0 ∷ []
  pub two_past_end_2 : letter_boundaries accepted_two_past_end 2 ≡ boundary 0 0 ∷ boundary 2 0 ∷ []
  pub from_start_3 : letter_boundaries accepted_from_start 3 ≡ boundary 0 0 ∷ boundary 3 0 ∷ []
  pub start_3 : letter_boundaries start_accepts 3 ≡ boundary 0 0 ∷ boundary 3 0 ∷ []
  pub named_past_end_2 : letter_boundaries named_past_end 2 ≡ boundary 0 0 ∷ boundary 2 1 ∷ []

pub rows : Rows
unfolding replaced later_boundaries later_boundaries_within machine_stretch pick last_step first_condition scan run step state_at symbol_and_script value_of
rows = record {
  condition_at_end_3 = refl;
  own_name_1 = refl;
  own_name_2 = refl;
  own_name_3 = refl;
  two_past_end_2 = refl;
  from_start_3 = refl;
  start_3 = refl;
  named_past_end_2 = refl;
}
