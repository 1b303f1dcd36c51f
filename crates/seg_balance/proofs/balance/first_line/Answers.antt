use Rattle.std.proofs.Common.{rules, ◌∙◌, sym, ap, ◌+◌, ℕ, get_or}
use Rattle.seg_balance.proofs.Core.{chosen-all, chosen-better, chosen-start, chosen-worse, dearer-by, first-fits, line-by, line-fits, line-start, more-left, none-on, seen-first, seen-next, seen-one, seen-start, seen-wide, several, shown-fits, shown-is}
use Rattle.seg_balance.proofs.balance.first_line.Goals as goal

pub of-line-requires : goal.of-line-requires
of-line-requires c = record { room = first-fits _ _ _ c.requires.some c.requires.room }

pub shown_columns-requires : goal.shown_columns-requires
shown_columns-requires c =
    let line = line-start _ _ _ _ _ c.requires.some c.of-line.ensures.columns c.of-line.ensures.inner c.of-line.ensures.hyphen in
    record { room = shown-fits _ _ _ _ _ _ line c.requires.room }

pub cost_of-requires-clause-width : goal.cost_of-requires-clause-width
cost_of-requires-clause-width c =
    let line = line-start _ _ _ _ _ c.requires.some c.of-line.ensures.columns c.of-line.ensures.inner c.of-line.ensures.hyphen in
    shown-is _ _ _ _ _ _ line c.shown_columns.ensures

pub longer-init : goal.longer-init
longer-init c =
    let line = line-start _ _ _ _ _ c.requires.some c.of-line.ensures.columns c.of-line.ensures.inner c.of-line.ensures.hyphen in
    let seen = seen-start _ _ _ _ line in
    (seen, chosen-start _ _ _ _ (seen-one _ _ _ _ _ seen) (ap (λ (n : ℕ). n + get_or c.args.costs.now 1 0) (sym c.cost_of.ensures.value)))

pub followed_by-line-requires : goal.followed_by-line-requires
followed_by-line-requires c =
    let goes = sym c.goes_on.ensures ∙ c.longer-test.true in
    record { room = line-fits _ _ _ _ _ _ _ c.longer.invariant.0.line (more-left _ _ _ _ goes) c.requires.room }

pub shown_columns-shown-requires : goal.shown_columns-shown-requires
shown_columns-shown-requires c =
    let goes = sym c.goes_on.ensures ∙ c.longer-test.true in
    let line = line-by _ _ _ _ _ _ _ _ _ c.longer.invariant.0.line (more-left _ _ _ _ goes) c.followed_by-line.ensures.columns c.followed_by-line.ensures.inner
    c.followed_by-line.ensures.hyphen in
    record { room = shown-fits _ _ _ _ _ _ line c.requires.room }

pub cost_of-requires-then-shown-columns-clause-width : goal.cost_of-requires-then-shown-columns-clause-width
cost_of-requires-then-shown-columns-clause-width c =
    let goes = sym c.goes_on.ensures ∙ c.longer-test.true in
    let line = line-by _ _ _ _ _ _ _ _ _ c.longer.invariant.0.line (more-left _ _ _ _ goes) c.followed_by-line.ensures.columns c.followed_by-line.ensures.inner
    c.followed_by-line.ensures.hyphen in
    shown-is _ _ _ _ _ _ line c.shown_columns-shown.ensures

pub longer-preserved-then-total-least : goal.longer-preserved-then-total-least
longer-preserved-then-total-least c =
    let goes = sym c.goes_on.ensures ∙ c.longer-test.true in
    let line = line-by _ _ _ _ _ _ _ _ _ c.longer.invariant.0.line (more-left _ _ _ _ goes) c.followed_by-line.ensures.columns c.followed_by-line.ensures.inner
    c.followed_by-line.ensures.hyphen in
    let seen = seen-next _ _ _ _ _ _ _ _ _ c.longer.invariant.0 line goes in (
      seen,
      chosen-better _ _ _ _ _ _ _ c.longer.invariant.1
          (seen-first _ _ _ _ _ _ _ seen c.shown_columns-shown.ensures c.if-shown-columns.true) c.cost_of-then-shown-columns.ensures.value c.if-total-least.true,
    )

pub longer-preserved-else-total-least : goal.longer-preserved-else-total-least
longer-preserved-else-total-least c =
    let goes = sym c.goes_on.ensures ∙ c.longer-test.true in
    let line = line-by _ _ _ _ _ _ _ _ _ c.longer.invariant.0.line (more-left _ _ _ _ goes) c.followed_by-line.ensures.columns c.followed_by-line.ensures.inner
    c.followed_by-line.ensures.hyphen in
    let seen = seen-next _ _ _ _ _ _ _ _ _ c.longer.invariant.0 line goes in
    (seen, chosen-worse _ _ _ _ _ _ c.longer.invariant.1 (λ one. dearer-by _ _ _ _ _ _ c.cost_of-then-shown-columns.ensures.value (search rules)))

pub longer-preserved : goal.longer-preserved
longer-preserved c =
    let goes = sym c.goes_on.ensures ∙ c.longer-test.true in
    let line = line-by _ _ _ _ _ _ _ _ _ c.longer.invariant.0.line (more-left _ _ _ _ goes) c.followed_by-line.ensures.columns c.followed_by-line.ensures.inner
    c.followed_by-line.ensures.hyphen in
    let seen = seen-next _ _ _ _ _ _ _ _ _ c.longer.invariant.0 line goes in (
      seen,
      chosen-worse _ _ _ _ _ _ c.longer.invariant.1
          (λ one. absurd (seen-wide _ _ _ _ _ _ _ seen (several _ c.longer.invariant.0.line.some) c.shown_columns-shown.ensures (search rules) one)),
    )

pub returns : goal.returns
returns c =
    record { least = chosen-all _ _ _ _ _ _ c.longer.invariant.1 (none-on _ _ _ _ _ _ c.longer.invariant.0 (sym c.goes_on.ensures ∙ c.longer-test.false)) }
