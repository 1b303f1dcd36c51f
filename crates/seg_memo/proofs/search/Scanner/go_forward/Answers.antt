use Rattle.std.proofs.Common.{◌∙◌, ap, sym}
use Rattle.seg_memo.specs.Grids.{known}
use Rattle.seg_memo.proofs.Following.{fewer}
use Rattle.seg_memo.proofs.Reading.{entered-read}
use Rattle.seg_memo.proofs.Ways.{first-cell, next-cell, walk-ends, walk-known, walk-next, walk-room, walk-start}
use Rattle.seg_memo.proofs.search.Scanner.go_forward.Goals as goal

pub write-requires : goal.write-requires
write-requires g c = first-cell c.requires.1.1.1.0.2

pub scan-init : goal.scan-init
scan-init g c = record {
  read = c.requires.1.1.0;
  walking = walk-start c.requires.1.1.1.0.2 (ap known c.requires.1.1.1.0.3) c.requires.1.1.1.0.1 c.write.ensures;
  leads = c.requires.1.1.1.1.0.0;
  within = c.requires.1.1.1.1.0.1;
  rest = c.requires.1.1.1.1.1;
}

pub cell-requires : goal.cell-requires
cell-requires g c = next-cell c.scan.invariant.walking c.scan.invariant.leads

pub returns-in-Some-clause-went : goal.returns-in-Some-clause-went
returns-in-Some-clause-went g c =
    rw (← entered-read c.scan.invariant.read c.scan.next _ _ _ c.entry-entry.ensures c.entered.ensures)
    (walk-known c.scan.invariant.walking c.scan.invariant.leads (sym (c.known.ensures ∙ ap known c.cell.ensures) ∙ c.in-Some.is))

pub write-requires-in-scan : goal.write-requires-in-scan
write-requires-in-scan g c = next-cell c.scan.invariant.walking c.scan.invariant.leads

pub look_up-requires : goal.look_up-requires
look_up-requires g c = λ κs lives.
    let k = walk-next c.scan.invariant.walking c.scan.invariant.leads (sym (c.known.ensures ∙ ap known c.cell.ensures) ∙ c.in_default.is) c.way.ensures c.write-in-scan.ensures in (
      lives.0,
      (lives.1, (k.keeps.fit.sound, (c.scan.invariant.read, (walk-room k, (c.scan.invariant.within, c.scan.invariant.rest))))),
    )

pub returns-in-Ends-clause-went : goal.returns-in-Ends-clause-went
returns-in-Ends-clause-went g c =
    walk-ends
    (walk-next c.scan.invariant.walking c.scan.invariant.leads (sym (c.known.ensures ∙ ap known c.cell.ensures) ∙ c.in_default.is) c.way.ensures c.write-in-scan.ensures)
    (sym c.look_up.ensures.value ∙ c.in-Ends.is) c.look_up.ensures.count

pub scan-smaller : goal.scan-smaller
scan-smaller g c = fewer _ _ _ c.scan.invariant.walking.keeps.fit.sound c.scan.invariant.within (sym c.look_up.ensures.value ∙ c.in-Leads.is)

pub scan-preserved : goal.scan-preserved
scan-preserved g c = record {
  read = c.look_up.ensures.read;
  walking = rw c.look_up.ensures.count
      (walk-next c.scan.invariant.walking c.scan.invariant.leads (sym (c.known.ensures ∙ ap known c.cell.ensures) ∙ c.in_default.is) c.way.ensures c.write-in-scan.ensures);
  leads = sym c.look_up.ensures.value ∙ c.in-Leads.is;
  within = c.in-Leads.ensures.within;
  rest = c.in-Leads.ensures.rest;
}
