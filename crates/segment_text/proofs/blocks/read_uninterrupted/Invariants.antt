-- A read that a signal interrupts takes nothing.
use Rattle.std.specs.Io.KnownBytes.{Keeps}
use Rattle.segment_text.proofs.blocks.read_uninterrupted.Given as goal

abbrev pub invariant-tries : goal.invariant-tries
invariant-tries g l = Keeps (g.I.Read.remaining l.fn.input) (g.I.Read.remaining l.input)
