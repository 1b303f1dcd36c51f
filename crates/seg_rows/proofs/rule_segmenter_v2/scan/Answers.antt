use Rattle.std.proofs.Common.{refl}
use Rattle.seg_machine.proofs.ReadAhead.{read-at, read-start, read-stop, read-held, read-past, read-turn}
use Rattle.seg_rows.proofs.Underway.{scanned-to}
use Rattle.seg_rows.proofs.rule_segmenter_v2.scan.Goals as goal

pub scan-init : goal.scan-init
scan-init g c = rw c.place-stood.ensures (read-start _ _ _ _ _ _ c.facts.ensures c.requires.enough c.requires.none c.requires.ahead)

pub returns-in_default : goal.returns-in_default
returns-in_default g c =
    scanned-to _ _ _ _ _ _ (read-stop _ _ _ _ _ _ _ _ _ c.facts.ensures c.requires.some c.scan.invariant c.next_state.ensures.value c.in_default.is)
    (read-at _ _ _ _ _ _ _ _ c.scan.invariant)

pub returns-then-pass : goal.returns-then-pass
returns-then-pass g c =
    scanned-to _ _ _ _ _ _
    (read-held _ _ _ _ _ _ _ _ _ _ _ _ c.facts.ensures c.scan.invariant c.next_state.ensures.value c.in-Some.is refl (c.pass.ensures.holds c.if-pass.true))
    (read-past _ _ _ _ _ _ _ _ _ _ _ c.scan.invariant c.place-stood-in-scan.ensures c.next_symbol-ahead.ensures)

pub scan-preserved : goal.scan-preserved
scan-preserved g c =
    read-turn _ _ _ _ _ _ _ _ _ _ _ _ _ _ _ _ c.facts.ensures c.scan.invariant c.next_state.ensures.value c.in-Some.is c.in-Some.ensures.state
    c.place-stood-in-scan.ensures refl (c.pass.ensures.none c.if-pass.false) (c.pass.ensures.last c.if-pass.false)
    (c.pass.ensures.kept c.if-pass.false) c.next_symbol-ahead.ensures
