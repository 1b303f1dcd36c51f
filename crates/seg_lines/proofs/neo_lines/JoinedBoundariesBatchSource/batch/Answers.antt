use Rattle.std.proofs.Common.{ap, arith, refl, ◌∙◌}
use Rattle.seg_text.proofs.Filling.{last-mark}
use Rattle.seg_machine.specs.Tailored.{machine_of}
use Rattle.seg_clusters.specs.Payloads.{payloads_of}
use Rattle.seg_clusters.specs.Spans.{CutsLeft}
use Rattle.seg_lines.proofs.Batches.{batch-cuts-rise, batch-gives, batch-rises, of-one-alone}
use Rattle.seg_lines.proofs.neo_lines.JoinedBoundariesBatchSource.batch.Goals as goal

pub invariant_of-self : goal.invariant_of-self
invariant_of-self g c =
    let s = c.self.inside in
    let m = machine_of s.machine in
    let payloads = payloads_of s.payloads in
    let left = g.I.Cursor.text c.fill_passing-count.new.text in
    let is_at = c.is_at.ensures c.if-not-is_at.false in
    let at = is_at.1 ∙ c.place.ensures in
    let fork = ap g.I.Cursor.text c.fork.ensures in
    let passed = c.fill_passing-count.ensures.passed in (
      batch-rises m payloads c.facts.ensures.pieces _ left s.cuts s.boundary s.cut c.in-None-None.is-0 c.in-None-None.is-1 is_at.0 c.self.invariant.2 at passed c.self.invariant.0 c.self.invariant.1
          c.fill_passing-count.result c.fill_passing-count.ensures.some.left,
      rw c.new.ensures
          (batch-cuts-rise m payloads c.facts.ensures.pieces _ left s.cuts s.boundary s.cut c.in-None-None.is-0 c.in-None-None.is-1 is_at.0 c.self.invariant.2 at passed c.self.invariant.0 c.self.invariant.1 _ fork),
      of-one-alone left _ _ (g.met.I.Cursor.rises c.fill_passing-count.new.text) refl (ap (λ (left : CutsLeft). left.rest) c.new.ensures ∙ fork),
    )

pub returns-then-count-gt0-clause-some : goal.returns-then-count-gt0-clause-some
returns-then-count-gt0-clause-some g c =
    let s = c.self.inside in
    let left = g.I.Cursor.text c.fill_passing-count.new.text in
    let is_at = c.is_at.ensures c.if-not-is_at.false in
    let at = is_at.1 ∙ c.place.ensures in
    rw (← c.self.view_is, c.new.ensures)
    (batch-gives (machine_of s.machine) (payloads_of s.payloads) c.facts.ensures.pieces _ left s.cuts s.boundary s.cut c.in-None-None.is-0 c.in-None-None.is-1 is_at.0 c.self.invariant.2 at
    c.fill_passing-count.ensures.passed c.self.invariant.0 c.self.invariant.1 _ _ _ _ _ _ (ap g.I.Cursor.text c.fork.ensures) (g.met.I.Cursor.rises c.fill_passing-count.new.text)
    c.fill_passing-count.ensures.some c.fill_passing-count.ensures.last)

pub returns-then-count-gt0-clause-status : goal.returns-then-count-gt0-clause-status
returns-then-count-gt0-clause-status g c = last-mark _ _ _ _ _ _ _ _ (returns-then-count-gt0-clause-some g c) (omega (arith, c.if-count-gt0.true))
