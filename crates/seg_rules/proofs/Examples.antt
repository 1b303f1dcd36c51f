-- Where small rules break, computed.
use Rattle.std.specs.Prelude.{◌≡◌, [], ◌∷◌}
use Rattle.std.proofs.Common.{refl}
use Rattle.seg_text.specs.Boundaries.{boundary}
use Rattle.seg_rules.specs.RowRules.{flow, no_flags, is_full, once}
use Rattle.seg_rules.specs.Patterns.{flags as flags_of}
use Rattle.seg_rules.specs.Plain.{right_fits, first_row, is_base, bases_before, bases_after, plain_verdict, plain_places}
use Rattle.seg_rules.specs.Examples.{letter, space, mark, flag, line_end, small_places}

pub record Breaks : Type 0 where
  pub letters : small_places (letter ∷ letter ∷ space ∷ letter ∷ []) ≡ boundary 2 0 ∷ boundary 3 0 ∷ boundary 4 0 ∷ []
  pub marks : small_places (letter ∷ mark ∷ letter ∷ mark ∷ []) ≡ boundary 4 0 ∷ []
  pub alone : small_places (space ∷ mark ∷ mark ∷ letter ∷ []) ≡ boundary 1 0 ∷ boundary 4 0 ∷ []
  pub flags : small_places (flag ∷ flag ∷ mark ∷ flag ∷ flag ∷ flag ∷ []) ≡ boundary 3 0 ∷ boundary 5 0 ∷ boundary 6 0 ∷ []
  pub statuses : small_places (letter ∷ line_end ∷ mark ∷ []) ≡ boundary 1 0 ∷ boundary 2 1 ∷ boundary 3 0 ∷ []

pub breaks : Breaks
unfolding flow no_flags is_full once flags_of right_fits first_row is_base bases_before bases_after plain_verdict plain_places
breaks = record {
  letters = refl;
  marks = refl;
  alone = refl;
  flags = refl;
  statuses = refl;
}
