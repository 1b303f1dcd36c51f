use Rattle.std.proofs.Common.{rules, ◌∙◌, sym}
use Rattle.seg_balance.proofs.Core.{first-fits, full-all, full-before, full-here, line-by, line-fits, line-start, more-left, none-on, seen-first, seen-next, seen-one, seen-start, seen-wide, several, shown-fits}
use Rattle.seg_balance.proofs.balance.full_line.Goals as goal

pub of-line-requires : goal.of-line-requires
of-line-requires c = record { room = first-fits _ _ _ c.requires.some c.requires.room }

pub shown_columns-requires : goal.shown_columns-requires
shown_columns-requires c =
    let line = line-start _ _ _ _ _ c.requires.some c.of-line.ensures.columns c.of-line.ensures.inner c.of-line.ensures.hyphen in
    record { room = shown-fits _ _ _ _ _ _ line c.requires.room }

pub longer-init : goal.longer-init
longer-init c =
    let line = line-start _ _ _ _ _ c.requires.some c.of-line.ensures.columns c.of-line.ensures.inner c.of-line.ensures.hyphen in
    let seen = seen-start _ _ _ _ line in
    (seen, full-here _ _ _ _ _ _ _ (seen-one _ _ _ _ _ seen) line c.shown_columns.ensures)

pub followed_by-line-requires : goal.followed_by-line-requires
followed_by-line-requires c =
    let goes = sym c.goes_on.ensures ∙ c.longer-test.true in
    record { room = line-fits _ _ _ _ _ _ _ c.longer.invariant.0.line (more-left _ _ _ _ goes) c.requires.room }

pub shown_columns-width-requires : goal.shown_columns-width-requires
shown_columns-width-requires c =
    let goes = sym c.goes_on.ensures ∙ c.longer-test.true in
    let line = line-by _ _ _ _ _ _ _ _ _ c.longer.invariant.0.line (more-left _ _ _ _ goes) c.followed_by-line.ensures.columns c.followed_by-line.ensures.inner
    c.followed_by-line.ensures.hyphen in
    record { room = shown-fits _ _ _ _ _ _ line c.requires.room }

pub longer-preserved-then-width-columns : goal.longer-preserved-then-width-columns
longer-preserved-then-width-columns c =
    let goes = sym c.goes_on.ensures ∙ c.longer-test.true in
    let line = line-by _ _ _ _ _ _ _ _ _ c.longer.invariant.0.line (more-left _ _ _ _ goes) c.followed_by-line.ensures.columns c.followed_by-line.ensures.inner
    c.followed_by-line.ensures.hyphen in
    let seen = seen-next _ _ _ _ _ _ _ _ _ c.longer.invariant.0 line goes in
    (seen, full-here _ _ _ _ _ _ _ (seen-first _ _ _ _ _ _ _ seen c.shown_columns-width.ensures c.if-width-columns.true) line c.shown_columns-width.ensures)

pub longer-preserved : goal.longer-preserved
longer-preserved c =
    let goes = sym c.goes_on.ensures ∙ c.longer-test.true in
    let line = line-by _ _ _ _ _ _ _ _ _ c.longer.invariant.0.line (more-left _ _ _ _ goes) c.followed_by-line.ensures.columns c.followed_by-line.ensures.inner
    c.followed_by-line.ensures.hyphen in
    let seen = seen-next _ _ _ _ _ _ _ _ _ c.longer.invariant.0 line goes in (
      seen,
      full-before _ _ _ _ _ c.longer.invariant.1
          (λ one. seen-wide _ _ _ _ _ _ _ seen (several _ c.longer.invariant.0.line.some) c.shown_columns-width.ensures (search rules) one),
    )

pub returns-clause-full : goal.returns-clause-full
returns-clause-full c =
    full-all _ _ _ _ _ c.longer.invariant.1 (none-on _ _ _ _ _ _ c.longer.invariant.0 (sym c.goes_on.ensures ∙ c.longer-test.false))
