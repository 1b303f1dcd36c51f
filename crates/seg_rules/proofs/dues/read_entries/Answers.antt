use Rattle.std.proofs.Common.{Some, ◌≡◌, ◌+◌, ◌-◌, ◌<◌, length, arith, refl, sym, subst, drop}
use Rattle.seg_rules.specs.Given.{rules_of}
use Rattle.seg_rules.specs.RowRules.{onto}
use Rattle.seg_rules.specs.Claims.{IsPart}
use Rattle.seg_rules.proofs.Claims.{read_by, read-none, read-step, decided-last}
use Rattle.seg_rules.proofs.dues.read_entries.Goals as goal

pub loop-i-init : goal.loop-i-init
loop-i-init c =
    let rules = rules_of c.args.rules.now in (
      omega arith,
      subst (IsPart rules c.args.claim.now (Some (record { matched = 0; otherwise = c.args.otherwise }))) (sym (read-none rules c.args.read.glues c.args.read.symbol c.args.entries.now c.args.otherwise (length c.args.entries.now) refl))
          (decided-last rules c.args.claim.now c.args.otherwise),
    )

pub loop-i-preserved : goal.loop-i-preserved
loop-i-preserved c =
    let rules = rules_of c.args.rules.now in
    let at = c.loop-i.i - 1 in
    let next : c.loop-i.i ≡ at + 1 = omega arith in
    let within : at < length c.args.entries.now = omega arith in
    let before = subst (λ n. IsPart rules c.args.claim.now c.loop-i.owed (read_by rules c.args.read.glues c.args.read.symbol (drop n c.args.entries.now) c.args.otherwise)) next c.loop-i.invariant.1 in (
      omega arith,
      subst (IsPart rules c.args.claim.now c.put_reading-owed.result) (sym (read-step rules c.args.read.glues c.args.read.symbol c.args.entries.now c.args.otherwise at _ within))
          (subst (λ reading. IsPart rules c.args.claim.now c.put_reading-owed.result (onto reading (read_by rules c.args.read.glues c.args.read.symbol (drop (at + 1) c.args.entries.now) c.args.otherwise)))
          c.in_ok-reading.ensures.0 (c.put_reading-owed.ensures rules _ c.in_ok-reading.ensures.1 before)),
    )
