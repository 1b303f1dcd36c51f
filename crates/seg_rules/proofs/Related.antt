-- Configurations of a relation.
use Rattle.std.specs.Prelude.{◌≡◌, ℕ, zero, suc, ◌<◌, Bool, true, false, ◌||◌, ◌&&◌, ◌==◌, not, nat_lt, if◌then◌else◌, List, [], ◌∷◌, length, get_or}
use Rattle.std.proofs.Common.{arith, refl, ap, ◌∙◌}
use Rattle.seg_rules.specs.declared.certificate.Configuration.{Configuration}
use Rattle.seg_rules.specs.RowRules.{RowRules}
use Rattle.seg_rules.specs.Check.{Plan, Tables, among, goes_on, moved_place, same_configuration, get}
use Rattle.seg_rules.specs.Planned.{enters_plain, is_verdict, kept_of, stops_plain}
use Rattle.seg_rules.proofs.Bits.{once_is}
use Rattle.seg_rules.proofs.TableLemmas.{number-is}

pub or-right-true : (a b : Bool) → b ≡ true → (a || b) ≡ true
or-right-true true b h = refl
or-right-true false b h = h

or-left-true : (a b : Bool) → a ≡ true → (a || b) ≡ true
or-left-true true b h = refl
or-left-true false b h = let no : false ≡ true = h in cc

pub among-at : (c : Configuration) (group : List Configuration) (i : ℕ) (d : Configuration) → i < length group → same_configuration c (get_or group i d) ≡ true
    → among c group ≡ true
unfolding among
among-at c [] i d within same = absurd (omega (arith, within))
among-at c (e ∷ group) zero d within same = or-left-true _ _ same
among-at c (e ∷ group) (suc i) d within same = or-right-true _ _ (among-at c group i d (omega (arith, within)) same)

module _ (rules : RowRules) (t : Tables) (plan : Plan) (relation : List (List Configuration)) where
  -- the check of a step, with nothing worked out ahead
  pub goes-plain : (c : Configuration) (before q doubt older newest : ℕ)
      → goes_on rules t plan relation c before q (suc doubt) older newest
      ≡ (if q == 255 then stops_plain c older newest else enters_plain rules t plan relation c before q (suc doubt) older newest)
  unfolding goes_on
  goes-plain c before q doubt older newest =
      number-is older _ ∙ number-is newest _ ∙ number-is (kept_of older newest) _ ∙ once_is (is_verdict (kept_of older newest)) _
      ∙ number-is (moved_place older newest c.last) _
      ∙ ap (λ b. if q == 255 then stops_plain c older newest else not (q == 0) && (nat_lt older 3 || newest == 0) && b)
      (number-is (moved_place older newest c.named) _ ∙ once_is (not (is_verdict (kept_of older newest)) && not (get 0 t.owes before == 0)) _)

  pub goes-decided : (c : Configuration) (before q older newest : ℕ) → goes_on rules t plan relation c before q 0 older newest ≡ true
  unfolding goes_on
  goes-decided c before q older newest = refl

  pub goes-from : (c : Configuration) (before q doubt older newest : ℕ) → 0 < doubt
      → goes_on rules t plan relation c before q doubt older newest
      ≡ (if q == 255 then stops_plain c older newest else enters_plain rules t plan relation c before q doubt older newest)
  goes-from c before q zero older newest some = absurd (omega (arith, some))
  goes-from c before q (suc doubt) older newest some = goes-plain c before q doubt older newest
