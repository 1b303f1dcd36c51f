use Rattle.std.proofs.Common.{◌≡◌, ◌+◌, suc, true, All, arith, sym, ◌∙◌, subst}
use Rattle.seg_rules.specs.Given.{rules_of}
use Rattle.seg_rules.specs.Places.{stands_for}
use Rattle.seg_rules.specs.Planned.{accept_by}
use Rattle.seg_rules.proofs.check.passes.Goals as goal

pub returns : goal.returns
returns c = λ yes.
    let rules = rules_of c.args.rules.now in
    let next : c.args.scans.now.symbols + 1 ≡ suc c.args.scans.now.symbols = omega arith in record {
      some = c.requires.some;
      count = sym c.requires.symbol ∙ next;
      fit = subst (All (λ state. stands_for state (accept_by state) ≡ true)) (c.states.ensures ∙ c.machine.ensures.states) (c.states_fit.ensures c.if-not-states_fit.false);
      tables = c.tables_hold.ensures c.if-not-tables_hold.false;
      start = c.may_begin.ensures c.if-not-may_begin.false;
      begins = c.each_begins.ensures c.if-not-each_begins.false;
      groups = c.groups_hold.ensures rules c.requires.at_end yes;
    }
