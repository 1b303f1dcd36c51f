-- The machine is simple, so it has no fault.
use Rattle.std.proofs.Common.{rules}
use Rattle.seg_machine.specs.Machine.{step, state_at, symbol_count}
use Rattle.bench.proofs.Faultless.{all_below, simple-faultless}
use Rattle.bench.proofs.WordFaults.{made-sound}
use Rattle.bench.proofs.words.word_machine.Goals as goal

pub machine_of-requires-clause-parts : goal.machine_of-requires-clause-parts
unfolding all_below step state_at symbol_count
machine_of-requires-clause-parts c = search (rules, simple-faultless)

pub returns-clause-sound : goal.returns-clause-sound
returns-clause-sound c = made-sound _ c.machine_of.ensures
