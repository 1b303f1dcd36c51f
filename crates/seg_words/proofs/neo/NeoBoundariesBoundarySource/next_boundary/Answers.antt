use Rattle.std.proofs.Common.{refl}
use Rattle.seg_machine.specs.Tailored.{machine_of}
use Rattle.seg_clusters.specs.Payloads.{payloads_of}
use Rattle.seg_words.proofs.Spans.{end-left, first-last, first-less, first-next, gone-on, gone-to}
use Rattle.seg_words.proofs.neo.NeoBoundariesBoundarySource.next_boundary.Goals as goal

pub seek-requires : goal.seek-requires
seek-requires g c =
    let s = c.loop-boundary.self-inside in
    gone-to (machine_of s.machine) (payloads_of s.payloads) c.loop-boundary.invariant.checked c.loop-boundary.invariant.cover
    s.has_begun (g.I.Cursor.text s.rest) s.place _ c.in_default.ensures.steps.0 c.loop-boundary.invariant.last

pub loop-boundary-smaller : goal.loop-boundary-smaller
loop-boundary-smaller g c =
    let s = c.loop-boundary.self-inside in
    let gone = gone-on (machine_of s.machine) (payloads_of s.payloads) c.loop-boundary.invariant.checked c.loop-boundary.invariant.cover
    s.has_begun (g.I.Cursor.text s.rest) (g.I.Cursor.text c.seek.new.self) s.place _ c.in_default.ensures.steps.0 c.loop-boundary.invariant.last c.seek.ensures in
    rw (← gone) (first-less (machine_of s.machine) (payloads_of s.payloads) c.loop-boundary.invariant.checked c.loop-boundary.invariant.cover
    (g.I.Cursor.text c.seek.new.self) c.in-Some-first_of.span c.in-Some-first_of.ensures)

pub loop-boundary-preserved : goal.loop-boundary-preserved
loop-boundary-preserved g c =
    let s = c.loop-boundary.self-inside in
    let m = machine_of s.machine in
    let payloads = payloads_of s.payloads in
    let gone = gone-on m payloads c.loop-boundary.invariant.checked c.loop-boundary.invariant.cover
    s.has_begun (g.I.Cursor.text s.rest) (g.I.Cursor.text c.seek.new.self) s.place _ c.in_default.ensures.steps.0 c.loop-boundary.invariant.last c.seek.ensures in
    record {
      checked = c.loop-boundary.invariant.checked;
      cover = c.loop-boundary.invariant.cover;
      left = first-next m payloads c.loop-boundary.invariant.checked c.loop-boundary.invariant.cover (g.I.Cursor.text c.seek.new.self) c.in-Some-first_of.span _ _
          c.in-Some-first_of.ensures c.in_default.ensures.steps.0 (rw (← gone) at c.loop-boundary.invariant.left);
      last = first-last m payloads c.loop-boundary.invariant.checked c.loop-boundary.invariant.cover (g.I.Cursor.text c.seek.new.self) c.in-Some-first_of.span s.place c.in-Some-first_of.ensures;
    }

pub returns-in-None : goal.returns-in-None
returns-in-None g c =
    let s = c.loop-boundary.self-inside in
    let m = machine_of s.machine in
    let payloads = payloads_of s.payloads in
    let gone = gone-on m payloads c.loop-boundary.invariant.checked c.loop-boundary.invariant.cover
    s.has_begun (g.I.Cursor.text s.rest) (g.I.Cursor.text c.seek.new.self) s.place _ c.in_default.ensures.steps.0 c.loop-boundary.invariant.last c.seek.ensures in
    let none = end-left m payloads c.loop-boundary.invariant.checked c.loop-boundary.invariant.cover s.has_begun (g.I.Cursor.text c.seek.new.self) _ _ _
    c.in-None.ensures c.in_default.ensures.steps.0 c.in_default.ensures.steps.1 (rw (← gone) at c.loop-boundary.invariant.left) in
    (none.0, none.1, refl)
