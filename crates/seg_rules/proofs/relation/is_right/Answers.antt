use Rattle.seg_rules.proofs.relation.is_right.Goals as goal

pub returns : goal.returns
returns c = λ rules at yes.
    let n = c.args.scans.now.symbols in
    let numbers = c.has_numbers.ensures rules n c.if-not-has_numbers.false in record {
      doubt = numbers.0;
      older = numbers.1.0;
      newest = numbers.1.1;
      ends = c.ends_right.ensures rules n at c.if-not-ends_right.false;
      goes = c.each_goes.ensures rules yes;
    }
