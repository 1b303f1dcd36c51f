use Rattle.std.proofs.Common.{◌∙◌, sym}
use Rattle.seg_memo.proofs.Held.{back-turn}
use Rattle.seg_memo.proofs.Ways.{back-cell, back-end, back-fewer, back-first, back-on, back-room}
use Rattle.seg_memo.proofs.search.go_back.Goals as goal

pub returns-in_default : goal.returns-in_default
returns-in_default g c = record {
  walked = λ count went. back-end (c.back.invariant count went) (sym c.holding.ensures ∙ c.in_default.is);
}

pub cell-way-requires : goal.cell-way-requires
cell-way-requires g c = back-cell (c.back.invariant c.requires.1.0 c.requires.1.1)

pub write-requires : goal.write-requires
write-requires g c = back-cell (c.back.invariant c.requires.1.0 c.requires.1.1)

pub entry-requires : goal.entry-requires
entry-requires g c = rw (← c.requires.0) (back-on (c.back.invariant c.requires.1.0 c.requires.1.1)).within.state

pub returns-in_default-way : goal.returns-in_default-way
returns-in_default-way g c = record {
  walked = λ count went.
      back-first (c.back.invariant count went) (sym c.holding.ensures ∙ c.in-Some.is) (λ state kept stays is. c.in_default-way.not-Way state kept stays (c.cell-way.ensures ∙ is)) c.write.ensures;
}

pub before-here-requires : goal.before-here-requires
before-here-requires g c = λ moves. back-room (c.back.invariant c.requires.1.0 c.requires.1.1)

pub back-smaller : goal.back-smaller
back-smaller g c = rw c.before-here.ensures (back-fewer (c.back.invariant c.requires.1.0 c.requires.1.1) (sym c.cell-way.ensures ∙ c.in-Way.is))

pub back-preserved : goal.back-preserved
back-preserved g c = λ count went.
    back-turn _ (c.back.invariant count went) c.holding.ensures c.in-Some.is c.cell-way.ensures c.in-Way.is c.write.ensures c.requires.0 c.entry.ensures
    c.entered-outcome.ensures c.before-here.ensures
