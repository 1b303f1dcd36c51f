use Rattle.std.proofs.Common.{◌≡◌, ◌+◌, ◌<◌, ℕ, suc, Bool, [], arith, sym, ap, ◌∙◌}
use Rattle.seg_machine.specs.Tailored.{machine_of}
use Rattle.seg_rules.specs.declared.relation.Owed.{Owed}
use Rattle.seg_rules.specs.Check.{get, goes_on}
use Rattle.seg_rules.specs.Given.{tables_of}
use Rattle.seg_rules.specs.Planned.{glues_at, newest_at, next_number, plan_of, read_at, relation_of}
use Rattle.seg_rules.proofs.Planned.{next-is}
use Rattle.seg_rules.proofs.relation.goes_right.Goals as goal

pub returns : goal.returns
returns c = λ rules n less yes.
    let m = machine_of c.args.scans.now.machine in
    let t = tables_of rules n c.args.scans.now.certificate in
    let plan = plan_of m n in
    let relation = relation_of c.args.scans.now.certificate in
    let d = c.args.c in
    let j = c.args.j in
    let same : j + 1 ≡ suc j = omega arith in
    let small : j + 1 < suc n = omega (arith, less) in
    let next = ap next_number c.next_state-next.ensures.value ∙ sym (next-is m n c.args.state (j + 1) c.requires.state small)
    ∙ ap (λ x. get 255 (get [] plan.nexts c.args.state) x) same in
    let there = get 255 (get [] plan.nexts c.args.state) (suc j) in
    let before = c.move_at.ensures rules n in
    let to = get 0 (get [] t.moves d.before) j in
    let after : Bool → ℕ → Owed = λ glues x. record { doubt = read_at t d.doubt glues x; older = read_at t d.older glues x; newest = read_at t (newest_at t d) glues x } in
    let owed : c.owed_after-owed.result ≡ after (glues_at t d) (suc j) = c.owed_after-owed.ensures rules n small ∙ ap (λ glues. after glues (j + 1)) (c.glues.ensures rules n)
    ∙ ap (after (glues_at t d)) same in
    let goes : ℕ → ℕ → Owed → Bool = λ before next owed. goes_on rules t plan relation d before next owed.doubt owed.older owed.newest in
    sym (ap (λ before. goes before (next_number c.next_state-next.result) c.owed_after-owed.result) before ∙ ap (λ next. goes to next c.owed_after-owed.result) next ∙ ap (goes to there) owed)
    ∙ c.goes_on.ensures rules n yes
