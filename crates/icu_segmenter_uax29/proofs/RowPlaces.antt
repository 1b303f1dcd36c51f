-- A machine whose boundaries are the places of rows has those of a rule of the kit, where the rows are that rule.
use Rattle.std.proofs.Common.{◌≡◌, ℕ, suc, ◌-◌, Bool, true, false, cond, not, ◌==◌, List, [], ◌∷◌, refl, sym, ap, ◌∙◌}
use Rattle.unicode_segmentation.specs.Segments.{Rule}
use Rattle.seg_text.specs.declared.boundary.Boundary.{Boundary}
use Rattle.seg_text.specs.Boundaries.{boundary, offsets}
use Rattle.seg_machine.specs.Machine.{Machine, symbols_of}
use Rattle.seg_rules.specs.Plain.{plain_places, plain_verdict}
use Rattle.seg_rules.specs.RowRules.{RowRules}
use Rattle.icu_segmenter_uax29.specs.Following.{FollowsRules}
use Rattle.icu_segmenter_uax29.proofs.Boundaries.{EndsAre, HasEnds}
use Rattle.icu_segmenter_uax29.proofs.Ends.{break_places, ends-cut}

-- between code points, by their symbols, the rows join just where the rule doesn't break
abbrev pub RowsAre : Rule → RowRules → Machine → Type 0
RowsAre rule rules m =
    (c d : ℕ) (before after : List ℕ)
    → (plain_verdict rules (symbols_of m (c ∷ before)) (symbols_of m (d ∷ after)) == 0) ≡ not (rule (c ∷ before) (d ∷ after))

offset-here : (joins breaks : Bool) (n status : ℕ) (later : List Boundary) → joins ≡ not breaks
    → offsets (cond joins later (boundary n status ∷ later)) ≡ cond breaks (n ∷ offsets later) (offsets later)
offset-here joins true n status later is = ap (λ b. offsets (cond b later (boundary n status ∷ later))) is
offset-here joins false n status later is = ap (λ b. offsets (cond b later (boundary n status ∷ later))) is

module _ (rule : Rule) (rules : RowRules) (m : Machine) (ends : HasEnds rule) (at_end : rules.at_end ≡ 0) (are : RowsAre rule rules m) where
  joins-are : (c : ℕ) (before cs : List ℕ) → (plain_verdict rules (symbols_of m (c ∷ before)) (symbols_of m cs) == 0) ≡ not (rule (c ∷ before) cs)
  unfolding plain_verdict
  joins-are c before [] = ap (λ n. suc n == 0) at_end ∙ sym (ap not (ends.end c before))
  joins-are c before (d ∷ ds) = are c d before ds

  places-are : (k : ℕ) (before cs : List ℕ) → offsets (plain_places rules k (symbols_of m before) (symbols_of m cs)) ≡ break_places rule before k cs
  unfolding plain_places break_places
  places-are k before [] = refl
  places-are k before (c ∷ cs) =
      let here = plain_verdict rules (symbols_of m (c ∷ before)) (symbols_of m cs) in
      let later = places-are (suc k) (c ∷ before) cs in
      offset-here (here == 0) (rule (c ∷ before) cs) (suc k) (here - 1) (plain_places rules (suc k) (symbols_of m (c ∷ before)) (symbols_of m cs)) (joins-are c before cs)
      ∙ ap (λ places. cond (rule (c ∷ before) cs) (suc k ∷ places) places) later

  -- Law: the boundaries of a machine that follows the rows are 0 and the ends of the pieces that the rule cuts
  pub ends-follow : FollowsRules rules m → EndsAre rule m
  ends-follow follows cs = ap offsets (follows cs) ∙ ap (λ places. 0 ∷ places) (places-are 0 [] cs ∙ sym (ends-cut rule ends.end cs [] 0))
