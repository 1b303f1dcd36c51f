use Rattle.std.proofs.lemmas.Iterator.{YieldsList-from_slice}
use Rattle.std.proofs.lemmas.Iterator.Search.{position_from_yields_List}
use Rattle.std.proofs.Common.{rules, tests, ℕ, Bool, ◌==◌}
use Rattle.seg_hyphens.proofs.Splitting.{first-of, others-of, all-first, none-other}
use Rattle.seg_hyphens.proofs.lines.first_line.Goals as goal

abbrev is_end : ℕ → Bool
is_end byte = byte == 10

pub returns-in-Some-clause-first : goal.returns-in-Some-clause-first
returns-in-Some-clause-first c =
    first-of is_end c.args.text.now _
    (position_from_yields_List is_end _ _ _ c.position.ensures.ran (YieldsList-from_slice c.args.text.now cc) (λ x b q k. search (rules, tests)))
    _ c.in-Some.is

pub returns-in-Some-clause-others : goal.returns-in-Some-clause-others
returns-in-Some-clause-others c =
    others-of is_end c.args.text.now _
    (position_from_yields_List is_end _ _ _ c.position.ensures.ran (YieldsList-from_slice c.args.text.now cc) (λ x b q k. search (rules, tests)))
    _ c.in-Some.is

pub returns-in-None-clause-first : goal.returns-in-None-clause-first
returns-in-None-clause-first c =
    all-first is_end c.args.text.now _
    (position_from_yields_List is_end _ _ _ c.position.ensures.ran (YieldsList-from_slice c.args.text.now cc) (λ x b q k. search (rules, tests)))
    c.in-None.is

pub returns-in-None-clause-others : goal.returns-in-None-clause-others
returns-in-None-clause-others c =
    none-other is_end c.args.text.now _
    (position_from_yields_List is_end _ _ _ c.position.ensures.ran (YieldsList-from_slice c.args.text.now cc) (λ x b q k. search (rules, tests)))
    c.in-None.is
