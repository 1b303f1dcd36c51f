-- What has been written so far is the message up to here.
use Rattle.std.proofs.Common.{◌≤◌, length, take}
use Rattle.std.specs.Io.KnownBytes.{Appends}
use Rattle.textcut.proofs.failure.say.Given as goal

abbrev pub invariant-loop-turn : goal.invariant-loop-turn
invariant-loop-turn g l = record {
  within : l.said ≤ length l.message;
  written : Appends (g.E.Write.contents l.fn.err) (g.E.Write.contents l.err) (take l.said l.message);
}
