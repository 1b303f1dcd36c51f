use Rattle.std.proofs.Common.{rules}
use Rattle.seg_balance.proofs.Core.{first-fits, line-by, line-fits, line-start, line-whole, shown-fits}
use Rattle.seg_balance.proofs.balance.line_of.Goals as goal

pub of-line-requires : goal.of-line-requires
of-line-requires c = record { room = first-fits _ _ _ c.requires.some c.requires.room }

pub longer-init : goal.longer-init
longer-init c = line-start _ _ _ _ _ c.requires.some c.of-line.ensures.columns c.of-line.ensures.inner c.of-line.ensures.hyphen

pub followed_by-line-requires : goal.followed_by-line-requires
followed_by-line-requires c = record { room = line-fits _ _ _ _ _ _ _ c.longer.invariant c.longer-test.true c.requires.room }

pub longer-preserved : goal.longer-preserved
longer-preserved c =
    line-by _ _ _ _ _ _ _ _ _ c.longer.invariant c.longer-test.true c.followed_by-line.ensures.columns c.followed_by-line.ensures.inner
    c.followed_by-line.ensures.hyphen

pub returns-clause-shown : goal.returns-clause-shown
returns-clause-shown c = line-whole _ _ _ _ _ c.longer.invariant (search rules)

pub returns-clause-small : goal.returns-clause-small
returns-clause-small c = shown-fits _ _ _ _ _ _ c.longer.invariant c.requires.room
