-- The bench data of words have no fault.
use Rattle.std.proofs.Common.{◌≡◌, inl, inr, None, Result, Ok, Err, IfOk}
use Rattle.seg_data.specs.declared.provider.DataError.TheVariants.{Memory, RangeOrder, RangePast10FFFF, TableSize, ClassOutOfRange, StateOutOfRange, StartRowKeeps, ComplexItems, ComplexBelow0100, ComplexClassNamed, StateCount, TransitionSize, TransitionOutOfRange, SymbolOutOfRange, TooManyLookaheads, LookaheadOutOfRange, EndCycle, Stalls, MissingTailoring}
use Rattle.seg_data.specs.Faults.{IsFaultless}
use Rattle.seg_machine.specs.Machine.{Machine}
use Rattle.seg_words.specs.Words.{HasWordTableFault, HasWordMachineFault}
use Rattle.bench.specs.PairTables.{cluster_table, word_table}
use Rattle.bench.specs.Words.{word_machine}
use Rattle.bench.proofs.PairFaults.{clusters-sound, words-no_class_past, words-no_keep}
use Rattle.bench.proofs.Scripts.{words-not_complex, word_table-not_complex}

pub words-sound : IsFaultless (HasWordTableFault word_table None cluster_table)
words-sound fault (inr has) = clusters-sound fault has
words-sound ClassOutOfRange (inl has) = words-no_class_past has
words-sound StartRowKeeps (inl has) = words-no_keep has
words-sound ComplexBelow0100 (inl has) = word_table-not_complex has
words-sound Memory (inl has) = has
words-sound RangeOrder (inl has) = has
words-sound RangePast10FFFF (inl has) = has
words-sound TableSize (inl has) = has
words-sound StateOutOfRange (inl has) = has
words-sound ComplexItems (inl has) = has
words-sound ComplexClassNamed (inl has) = has
words-sound StateCount (inl has) = has
words-sound TransitionSize (inl has) = has
words-sound TransitionOutOfRange (inl has) = has
words-sound SymbolOutOfRange (inl has) = has
words-sound TooManyLookaheads (inl has) = has
words-sound LookaheadOutOfRange (inl has) = has
words-sound EndCycle (inl has) = has
words-sound Stalls (inl has) = has
words-sound MissingTailoring (inl has) = has

word_machine-sound : IsFaultless (HasWordMachineFault word_machine cluster_table)
word_machine-sound fault (inl has) = words-not_complex has.1
word_machine-sound fault (inr has) = clusters-sound fault has

pub made-sound : {E : Type 0} (made : Result Machine E) → IfOk made (λ machine. machine ≡ word_machine)
    → IfOk made (λ machine. IsFaultless (HasWordMachineFault machine cluster_table))
made-sound (Ok machine) is = rw is word_machine-sound
made-sound (Err error) is = tt
