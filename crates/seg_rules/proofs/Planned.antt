-- The plan of a machine: where its states lead and what they accept.
use Rattle.std.specs.Prelude.{◌≡◌, ℕ, zero, suc, ◌+◌, ◌-◌, ◌<◌, ◌==◌, ◌&&◌, Bool, false, if◌then◌else◌, Option, Some, None, [], length}
use Rattle.std.proofs.Common.{arith, refl, sym, ap, ◌∙◌, inl, inr}
use Rattle.std.proofs.lemmas.Bool.{cond-true, cond-false}
use Rattle.std.proofs.lemmas.Option.{none-some, same_Some}
use Rattle.seg_machine.specs.Machine.{Machine, state_at, step}
use Rattle.seg_rules.specs.Check.{Plan, ends, get}
use Rattle.seg_rules.specs.Planned.{accept_by, next_by, next_number, plan_of, values}
use Rattle.seg_machine.specs.declared.provider.Acceptance.{Acceptance}
use Rattle.seg_machine.specs.declared.provider.Acceptance.TheVariants.{Continue}
use Rattle.seg_rules.proofs.Claims.{get-mapped}
use Rattle.seg_rules.proofs.Soundness.{bool-cases}

values-at : {X : Type 0} (e : X) (from many : ℕ) (f : ℕ → X) (i : ℕ) → i < many → get e (values from many f) i ≡ f (from + i)
unfolding values get
values-at e from zero f i less = absurd (omega (arith, less))
values-at e from (suc many) f zero less = let same : from ≡ from + 0 = omega arith in ap f same
values-at e from (suc many) f (suc i) less =
    let same : suc from + i ≡ from + suc i = omega arith in
    values-at e (suc from) many f i (omega (arith, less)) ∙ ap f same

-- where a symbol leads
pub next-is : (m : Machine) (n q x : ℕ) → q < length m.states → x < suc n → get 255 (get [] (plan_of m n).nexts q) x ≡ next_number (step m q x)
next-is m n q x within small =
    let from_q : 0 + q ≡ q = omega arith in
    let from_x : 0 + x ≡ x = omega arith in
    ap (λ row. get 255 row x) (values-at [] 0 (length m.states) (λ q. values 0 (suc n) (λ x. next_by m q x)) q within ∙ ap (λ q. values 0 (suc n) (λ x. next_by m q x)) from_q)
    ∙ values-at 255 0 (suc n) (λ x. next_by m q x) x small ∙ ap (next_by m q) from_x

next-some : (next to : ℕ) → (if next == 255 then None else Some next) ≡ Some to → (to == 255) ≡ false
next-some next to is =
    elim (bool-cases (next == 255)) [
      | inl none ↦ absurd (none-some to (sym (cond-true (next == 255) None (Some next) none) ∙ is))
      | inr some ↦ ap (λ n. n == 255) (sym (same_Some _ _ (sym (cond-false (next == 255) None (Some next) some) ∙ is))) ∙ some
    ]

-- a state that is led to isn't 255
pub step-some : (m : Machine) (q x to : ℕ) → step m q x ≡ Some to → (to == 255) ≡ false
unfolding step
step-some m q x to is = next-some _ to is

-- what the check of the end says where it leads to a state that accepts this
abbrev pub after_end : Plan → ℕ → ℕ → (ℕ × ℕ × Bool) → ℕ → ℕ → ℕ → ℕ → ℕ → Bool
after_end plan fuel next accept last status named place wanted =
    if accept.0 == 0
    then ends plan fuel next last status named place wanted
    else (if accept.0 == 1
    then ends plan fuel next 4 accept.1 (if accept.2 then 4 else named) place wanted
    else (if named == 0 then ends plan fuel next last status named place wanted else named == place && accept.1 == wanted))

abbrev ends_by : Plan → ℕ → ℕ → (ℕ × ℕ × Bool) → ℕ → ℕ → ℕ → ℕ → ℕ → Bool
ends_by plan fuel next accept last status named place wanted =
    if next == 255 then last == place && status == wanted else after_end plan fuel next accept last status named place wanted

ends-plain : (plan : Plan) (fuel q last status named place wanted : ℕ) → ends plan (suc fuel) q last status named place wanted
    ≡ ends_by plan fuel (get 255 (get [] plan.nexts q) 0) (get (0, 0, false) plan.accepts (get 255 (get [] plan.nexts q) 0)) last status named place wanted
unfolding ends
ends-plain plan fuel q last status named place wanted = refl

ends-less : (plan : Plan) (fuel q last status named place wanted : ℕ) → 0 < fuel → ends plan fuel q last status named place wanted
    ≡ ends_by plan (fuel - 1) (get 255 (get [] plan.nexts q) 0) (get (0, 0, false) plan.accepts (get 255 (get [] plan.nexts q) 0)) last status named place wanted
ends-less plan zero q last status named place wanted some = absurd (omega (arith, some))
ends-less plan (suc fuel) q last status named place wanted some =
    let less : fuel ≡ suc fuel - 1 = omega arith in
    let next = get 255 (get [] plan.nexts q) 0 in
    ends-plain plan fuel q last status named place wanted
    ∙ ap (λ fuel. ends_by plan fuel next (get (0, 0, false) plan.accepts next) last status named place wanted) less

-- the end leads nowhere
pub ends-stop : (m : Machine) (n fuel q last status named place wanted : ℕ) → 0 < fuel → q < length m.states → step m q 0 ≡ None
    → ends (plan_of m n) fuel q last status named place wanted ≡ (last == place && status == wanted)
ends-stop m n fuel q last status named place wanted some within stops =
    let plan = plan_of m n in
    let nowhere = next-is m n q 0 within (omega arith) ∙ ap next_number stops in
    ends-less plan fuel q last status named place wanted some
    ∙ ap (λ next. ends_by plan (fuel - 1) next (get (0, 0, false) plan.accepts next) last status named place wanted) nowhere

-- it leads to a state
pub ends-next : (m : Machine) (n fuel q last status named place wanted next : ℕ) (r : Acceptance × Option ℕ) → 0 < fuel → q < length m.states
    → step m q 0 ≡ Some next → next < length m.states → r ≡ state_at m next
    → ends (plan_of m n) fuel q last status named place wanted ≡ after_end (plan_of m n) (fuel - 1) next (accept_by r) last status named place wanted
unfolding state_at
ends-next m n fuel q last status named place wanted next r some within leads there is =
    let plan = plan_of m n in
    let to = next-is m n q 0 within (omega arith) ∙ ap next_number leads in
    let accept = sym (get-mapped accept_by (0, 0, false) m.states next (Continue, None) there) ∙ ap accept_by (sym is) in
    ends-less plan fuel q last status named place wanted some
    ∙ ap (λ next. ends_by plan (fuel - 1) next (get (0, 0, false) plan.accepts next) last status named place wanted) to
    ∙ cond-false (next == 255) _ _ (step-some m q 0 next leads)
    ∙ ap (λ accept. after_end plan (fuel - 1) next accept last status named place wanted) accept
