use Rattle.std.proofs.Common.{◌≡◌, [], suc, length, sym, ap, subst, ◌∙◌, arith}
use Rattle.seg_data.specs.ScriptWords.{borrowed_words, words_in}
use Rattle.seg_machine.specs.Tailored.{machine_of}
use Rattle.seg_clusters.specs.Payloads.{payloads_of}
use Rattle.seg_clusters.specs.Spans.{AreBeyond}
use Rattle.seg_clusters.proofs.RunsAhead.{beyond, beyond-all, later-later, over-next, run-given, span-later}
use Rattle.seg_machine.proofs.Scanned.{one-less}
use Rattle.seg_clusters.proofs.inner.next_run.Goals as goal

pub returns-then-is_behind-clause-run : goal.returns-then-is_behind-clause-run
returns-then-is_behind-clause-run g c =
    let (limit, is, below) = c.is_behind.ensures c.if-is_behind.true in
    let text = g.I.Cursor.text c.items.rest in
    let first = beyond (machine_of c.args.machine) (payloads_of c.args.payloads) c.items.invariant.cover text limit (g.met.I.Cursor.rises c.items.rest) (rw c.place.ensures at below) in
    (c.items.invariant.same, subst (AreBeyond c.args.last) c.items.invariant.same (rw is first))

pub returns-in_default-clause-run : goal.returns-in_default-clause-run
returns-in_default-clause-run g c =
    let text = g.I.Cursor.text c.items.rest in
    let none : text.items ≡ [] = rw c.fork-after.ensures at c.in_default.ensures.gives.0 in
    (c.items.invariant.same, subst (AreBeyond c.args.last) c.items.invariant.same (beyond-all (machine_of c.args.machine) (payloads_of c.args.payloads) c.items.invariant.cover text c.args.last none))

pub returns-in-Some-cursor-clause-run : goal.returns-in-Some-cursor-clause-run
returns-in-Some-cursor-clause-run g c =
    let (less, is) = run-given (machine_of c.args.machine) (payloads_of c.args.payloads) c.items.invariant.cover g.I.Cursor.text (g.I.Cursor.text c.items.rest) (g.I.Cursor.text c.next_span.new.rest)
    (c.in_ok-run.run', c.in_ok-run.field-0-1) c.in-Some-cursor.words (c.in-Some.field-0-0, c.in-Some.first) _ c.in_ok-run.ensures (rw c.fork-after.ensures at c.in-Some.ensures.gives)
    (ap (words_in (borrowed_words c.args.payloads.dictionaries)) (sym c.script.ensures) ∙ sym c.in-Some-cursor.ensures) in
    (omega (arith, less, c.items.invariant.fewer), sym c.items.invariant.same ∙ is)

pub items-preserved : goal.items-preserved
items-preserved g c =
    let before = g.I.Cursor.text c.items.rest in
    let after = g.I.Cursor.text c.next_item.new.self in
    let is = rw c.fork-after.ensures at c.in-Some.ensures.gives in
    let many : length before.items ≡ suc (length after.items) = ap length is in record {
      cover = c.items.invariant.cover;
      same = sym (over-next (machine_of c.args.machine) (payloads_of c.args.payloads) c.items.invariant.cover before after (c.in-Some.field-0-0, c.in-Some.first) is
          (rw c.fork-after.ensures at c.in-Some.ensures.end)
          (ap (words_in (borrowed_words c.args.payloads.dictionaries)) (sym c.script.ensures) ∙ sym c.in_default-cursor.ensures)) ∙ c.items.invariant.same;
      later = later-later _ _ _ c.items.invariant.later (1, one-less before after (c.in-Some.field-0-0, c.in-Some.first) is (rw c.fork-after.ensures at c.in-Some.ensures.end));
      fewer = omega (arith, many, c.items.invariant.fewer);
    }

pub returns-in-Some-cursor-clause-on : goal.returns-in-Some-cursor-clause-on
returns-in-Some-cursor-clause-on g c = later-later _ _ _ c.items.invariant.later (span-later _ _ g.I.Cursor.text _ _ _ c.in_ok-run.ensures)
