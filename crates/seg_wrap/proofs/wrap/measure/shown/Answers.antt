use Rattle.std.proofs.Common.{◌≡◌, ℕ, ◌<◌, ◌≤◌, ◌↔◌, Bool, true, false, Some, None, Result, Ok, Err, OnOk, IsOk, refl}
use Rattle.std.specs.Prelude.{nat_lt}
use Rattle.std.specs.Result.{result_ok}
use Rattle.std.proofs.lemmas.Bool.{ltb-true, ltb-false}
use Rattle.seg_wrap.proofs.Cells.{showing-full, showing-next}
use Rattle.seg_wrap.proofs.wrap.measure.shown.Goals as goal

pushed : {T E : Type 0} (result : Result T E) (given : T) (P : Type 0) → OnOk result P → Some given ≡ result_ok result → P
pushed (Ok x) given P holds is = holds
pushed (Err e) given P holds is = cc

full : {T E : Type 0} (result : Result T E) (size room : ℕ) → (IsOk result ↔ (size ≤ room)) → None ≡ result_ok result → room < size
full (Ok x) size room fits is = cc
full (Err e) size room fits is = by (nat_lt room size) refl
  where
    by : (b : Bool) → nat_lt room size ≡ b → room < size
    by true is = ltb-true room size is
    by false is = let none : false ≡ true = fits.1 (ltb-false room size is) in cc

pub items-preserved : goal.items-preserved
items-preserved g c =
    showing-next _ _ _ _ _ _ _ c.items.invariant c.in-Some.ensures.gives c.character_of.ensures
    (pushed c.try_push.result _ _ c.try_push.ensures.ok c.in_ok-ok.ensures.value)

pub returns-in_err-ok-clause-none : goal.returns-in_err-ok-clause-none
returns-in_err-ok-clause-none g c none =
    showing-full _ _ (g.I.Cursor.text c.next_item.new.self) _ _ _ _ c.items.invariant c.in-Some.ensures.gives c.character_of.ensures
    (full c.try_push.result _ _ c.try_push.ensures.variant c.in_err-ok.ensures.value)
