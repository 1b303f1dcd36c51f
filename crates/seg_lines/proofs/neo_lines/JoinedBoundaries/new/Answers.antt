use Rattle.std.proofs.Common.{◌≡◌, [], ◌∷◌, ap, sym, ◌∙◌, subst}
use Rattle.seg_text.specs.Items.{start_of}
use Rattle.seg_text.specs.Boundaries.{IsCover, boundary}
use Rattle.seg_machine.specs.Tailored.{machine_of}
use Rattle.seg_rows.specs.Underway.{behind}
use Rattle.seg_clusters.specs.Payloads.{payloads_of}
use Rattle.seg_clusters.specs.Spans.{CutsLeft, cuts_left}
use Rattle.seg_lines.specs.LineBreaks.{AreRising, joined}
use Rattle.seg_lines.proofs.Batches.{of-one-alone, rising-at}
use Rattle.seg_lines.proofs.JoinCover.{cut-places-rising, plain-text-rising, text-cover, text-joined}
use Rattle.seg_lines.proofs.neo_lines.JoinedBoundaries.new.Goals as goal

pub invariant_of-result : goal.invariant_of-result
invariant_of-result g c =
    let m = machine_of c.args.machine in
    let payloads = payloads_of c.args.payloads in
    let text = g.I.Cursor.text c.args.text in
    let rises = g.met.I.Cursor.rises c.args.text in
    let cuts : (left : CutsLeft) → left ≡ record { run = []; rest = text } → AreRising (cuts_left m payloads left) =
    λ left is. rw is (cut-places-rising m payloads c.facts.ensures c.facts-2.ensures.pieces text rises) in (
      rising-at m _ _ text c.place.ensures (ap g.I.Cursor.text c.fork.ensures) (plain-text-rising m payloads c.facts.ensures c.facts-2.ensures.pieces text rises),
      cuts c.new.result c.new.ensures,
      of-one-alone text _ _ rises (ap g.I.Cursor.text c.fork.ensures) (ap (λ (left : CutsLeft). left.rest) c.new.ensures),
    )

pub returns-clause-boundaries : goal.returns-clause-boundaries
returns-clause-boundaries g c =
    let m = machine_of c.args.machine in
    let payloads = payloads_of c.args.payloads in
    let text = g.I.Cursor.text c.args.text in
    ap (λ (place : _). joined (boundary place 0 ∷ behind m (g.I.Cursor.text c.fork.result)) (cuts_left m payloads c.new.result)) c.place.ensures
    ∙ ap (λ fork. joined (boundary (start_of text) 0 ∷ behind m (g.I.Cursor.text fork)) (cuts_left m payloads c.new.result)) c.fork.ensures
    ∙ ap (λ cuts. joined (boundary (start_of text) 0 ∷ behind m text) (cuts_left m payloads cuts)) c.new.ensures
    ∙ sym (text-joined m payloads c.facts.ensures c.facts-2.ensures.pieces text (g.met.I.Cursor.rises c.args.text))

pub returns-clause-cover : goal.returns-clause-cover
returns-clause-cover g c =
    let text = g.I.Cursor.text c.args.text in
    subst (IsCover (start_of text) text.end) (sym (returns-clause-boundaries g c))
    (text-cover (machine_of c.args.machine) (payloads_of c.args.payloads) c.facts.ensures c.facts-2.ensures.pieces text (g.met.I.Cursor.rises c.args.text))
