use Rattle.std.proofs.Common.{◌∙◌, ap, refl, sym}
use Rattle.seg_text.specs.Items.{start_of}
use Rattle.seg_memo.proofs.Ahead.{comes, comes-free, comes-kept, entry-accepts, entry-not, names-none, next-state, scans-begin, scans-left, scans-next, scans-on, scans-stand, scans-text, still-read, stops}
use Rattle.seg_memo.proofs.Following.{fewer}
use Rattle.seg_memo.proofs.Onward.{turn-accepts, turn-ends, turn-first, turn-held, turn-known, turn-last, turn-marks, turn-names, turn-room, turn-some}
use Rattle.seg_memo.proofs.Reading.{entry-few, symbol-fits}
use Rattle.seg_memo.proofs.search.Scanner.scan_plain.Goals as goal
use Rattle.seg_memo.proofs.search.Scanner.scan_plain.Goals.{in-Accept, in_default-0₀+in-Some-last+else-mark, in_default-0₀+in_default-last}

pub scan-init : goal.scan-init
scan-init g c =
    scans-begin _ _ _ _ _ _ _ _ _ _ _ c.requires.1.1.1.1.0 c.requires.1.1.1.1.1.0.memo c.requires.1.1.1.1.1.1.0 c.requires.1.1.1.1.1.1.1 c.requires.1.1.1.1.1.0.ahead
    (c.place-stood.ensures ∙ ap start_of c.requires.1.1.1.1.1.0.rest)

pub read-next-requires-clause-symbol : goal.read-next-requires-clause-symbol
read-next-requires-clause-symbol g c = symbol-fits c.scan.invariant.read _ _ c.scan.invariant.turn.fit.sound c.scan.invariant.ahead.symbol_is

pub read-next-requires-clause-room : goal.read-next-requires-clause-room
read-next-requires-clause-room g c = turn-room c.scan.invariant.turn

pub unreachable-requires : goal.unreachable-requires
unreachable-requires g c = turn-some c.scan.invariant.turn (stops c.scan.invariant _ c.read-next.ensures.value c.if-next.true) c.in_default.is

pub returns-then-next-clause-ended : goal.returns-then-next-clause-ended
returns-then-next-clause-ended g c = record {
  scanned = turn-ends (turn-last c.scan.invariant.turn c.in-Some.is) (stops c.scan.invariant _ c.read-next.ensures.value c.if-next.true) c.read-next.ensures.counted;
  stands = scans-stand c.scan.invariant _ c.in-Some.is;
  ahead = c.scan.invariant.ahead;
}

pub entry-entry-requires : goal.entry-entry-requires
entry-entry-requires g c = next-state c.scan.invariant _ c.read-next.ensures.value c.if-next.false

pub name_of-requires : goal.name_of-requires
name_of-requires g c = λ none. names-none c.scan.invariant _ _ c.entry-entry.ensures (c.requires.1.1.1.0 none)

pub naming-here-requires : goal.naming-here-requires
naming-here-requires g c = entry-few c.scan.invariant.read _ _ c.scan.invariant.turn.fit.sound c.entry-entry.ensures

pub scan_kept-stood-requires : goal.scan_kept-stood-requires
scan_kept-stood-requires g c κs within =
    let k = comes-kept _ _ _ _ _ _ _ (comes c.scan.invariant _ _ c.read-next.ensures.value c.if-next.false c.entry-entry.ensures) c.naming-here.ensures (sym c.name_of.ensures ∙ c.in-Some-name_of.is) in
    let read = still-read _ _ _ _ _ _ c.scan.invariant.read c.read-next.ensures.states c.read-next.ensures.transitions in
    let named = turn-names c.scan.invariant.turn k.0.leads k.0.within k.1 c.read-next.ensures.counted in
    (within.0, (within.1, (read, (refl, (named, scans-left c.scan.invariant _ _ c.naming-here.ensures)))))

pub returns-in-Some-name_of-clause-ended : goal.returns-in-Some-name_of-clause-ended
returns-in-Some-name_of-clause-ended g c = record {
  scanned = c.scan_kept-stood.ensures.scanned;
  stands = c.scan_kept-stood.ensures.stands c.scan.invariant.stands;
  ahead = scans-next c.next_symbol.ensures.symbol c.next_symbol.ensures.place c.next_symbol.ensures.rest;
}

pub mark-requires : goal.mark-requires
mark-requires g c =
    let k = (comes-free c.scan.invariant _ _ c.read-next.ensures.value c.if-next.false c.entry-entry.ensures (sym c.name_of.ensures ∙ c.in_default-name_of.is)) in
    let held = turn-held c.scan.invariant.turn c.in-Some-last.is k.leads k.within in
    rw c.plain.ensures (record { here = held.0; from = held.1 })

pub returns-then-mark : goal.returns-then-mark
returns-then-mark g c =
    let k = (comes-free c.scan.invariant _ _ c.read-next.ensures.value c.if-next.false c.entry-entry.ensures (sym c.name_of.ensures ∙ c.in_default-name_of.is)) in
    record {
      read = still-read _ _ _ _ _ _ c.scan.invariant.read c.read-next.ensures.states c.read-next.ensures.transitions;
      ended = record {
        scanned = turn-known (turn-last c.scan.invariant.turn c.in-Some-last.is) c.read-next.ensures.counted refl k.leads k.within (entry-not c.scan.invariant _ _ c.entry-entry.ensures c.in_default-0₀.not-Accept) (rw c.plain.ensures at (c.mark.ensures.known c.if-mark.true));
        stands = scans-stand c.scan.invariant _ c.in-Some-last.is;
        ahead = c.scan.invariant.ahead;
      };
    }

pub scan-smaller : goal.scan-smaller
scan-smaller g c =
    let k = (comes-free c.scan.invariant _ _ c.read-next.ensures.value c.if-next.false c.entry-entry.ensures (sym c.name_of.ensures ∙ c.in_default-name_of.is)) in
    fewer _ _ _ c.scan.invariant.turn.fit.sound c.scan.invariant.turn.within k.leads

pub scan-preserved : goal.scan-preserved
scan-preserved g c =
    let k = (comes-free c.scan.invariant _ _ c.read-next.ensures.value c.if-next.false c.entry-entry.ensures (sym c.name_of.ensures ∙ c.in_default-name_of.is)) in
    let read = still-read _ _ _ _ _ _ c.scan.invariant.read c.read-next.ensures.states c.read-next.ensures.transitions in
    let ahead = scans-next c.next_symbol-in-scan.ensures.symbol c.next_symbol-in-scan.ensures.place c.next_symbol-in-scan.ensures.rest in
    elim c.match-entry.branch [
      | in-Accept w ↦
          rw w.self-is (scans-on _ _ _ _ _ _ _ _ _ _ _ _ _ _ _ read
          (turn-accepts c.scan.invariant.turn refl k.leads k.within (entry-accepts c.scan.invariant _ _ _ c.entry-entry.ensures w.in-Accept.is) c.read-next.ensures.counted)
          refl w.last-is ahead c.next_symbol-in-scan.ensures.place (w.stood-is ∙ w.place-stood-in-Accept.ensures ∙ ap start_of (scans-text c.scan.invariant)))
      | in_default-0₀+in-Some-last+else-mark w ↦
          rw w.self-is (scans-on _ _ _ _ _ _ _ _ _ _ _ _ _ _ _ read
          (turn-marks (turn-last c.scan.invariant.turn w.in-Some-last.is) c.read-next.ensures.counted refl k.leads k.within (entry-not c.scan.invariant _ _ c.entry-entry.ensures w.in_default-0₀.not-Accept) (rw w.plain.ensures at (w.mark.ensures.new w.if-mark.false)))
          refl w.last-is ahead c.next_symbol-in-scan.ensures.place (w.stood-is ∙ scans-stand c.scan.invariant _ w.in-Some-last.is))
      | in_default-0₀+in_default-last w ↦
          rw w.self-is (scans-on _ _ _ _ _ _ _ _ _ _ _ _ _ _ _ read
          (turn-first refl (turn-last c.scan.invariant.turn w.in_default-last.is) k.leads k.within (entry-not c.scan.invariant _ _ c.entry-entry.ensures w.in_default-0₀.not-Accept) c.read-next.ensures.counted)
          refl (w.last-is ∙ w.in_default-last.is) ahead c.next_symbol-in-scan.ensures.place (w.stood-is ∙ scans-stand c.scan.invariant _ w.in_default-last.is))
    ]
