-- The bench pair table of lines of the engine 17 has no fault.
use Rattle.std.proofs.Common.{◌≡◌, ℕ, inl, inr, true, [], ◌∷◌, ◌==◌, ◌||◌, refl, arith}
use Rattle.seg_data.specs.declared.provider.DataError.{DataError}
use Rattle.seg_data.specs.declared.provider.DataError.TheVariants.{Memory, RangeOrder, RangePast10FFFF, TableSize, ClassOutOfRange, StateOutOfRange, StartRowKeeps, ComplexItems, ComplexBelow0100, ComplexClassNamed, StateCount, TransitionSize, TransitionOutOfRange, SymbolOutOfRange, TooManyLookaheads, LookaheadOutOfRange, EndCycle, Stalls, MissingTailoring}
use Rattle.seg_data.specs.Faults.{IsFaultless, IsLowestFault}
use Rattle.seg_pairs.specs.PairData.{HasPairFault}
use Rattle.seg_pairs.specs.PairTable.{PairTable}
use Rattle.icu_segmenter.specs.LineRules.{HasLineTableFault, is_one_of}
use Rattle.icu_segmenter.specs.LineClasses.{class_number}
use Rattle.icu_segmenter.specs.LineEngine.TheVariants.{Seventeen}
use Rattle.icu_segmenter.specs.LineClasses.LineClass.{BA, BA_EASTASIAN, BK, CJ, CR, EX, EX_EASTASIAN, HY, ID, ID_EASTASIAN, IN, IN_EASTASIAN, LF, NL, NS, NS_EASTASIAN, SP, ZW}
use Rattle.bench.specs.TurnTables.{turn_entry, turn_table}
use Rattle.bench.specs.PairTables.{cluster_table}
use Rattle.bench.proofs.PairFaults.{Passes, clusters-sound, faultless, names_below}
use Rattle.bench.proofs.Rows.{chosen, rows-length, rows-pass}
use Rattle.bench.proofs.Scripts.{turn_table-not_complex}

-- no entry names a state

entry-passes : (left right : ℕ) → names_below 71 (turn_entry left right) ≡ true
unfolding names_below
entry-passes left right =
    chosen 71 (is_one_of Seventeen (BK ∷ LF ∷ NL ∷ []) left) _ _ refl
    (chosen 71 (left == class_number Seventeen CR) _ _ (chosen 71 (right == class_number Seventeen LF) _ _ refl refl)
    (chosen 71 (is_one_of Seventeen (BK ∷ CR ∷ LF ∷ NL ∷ SP ∷ ZW ∷ EX ∷ EX_EASTASIAN ∷ []) right) _ _ refl
    (chosen 71 (is_one_of Seventeen (SP ∷ ZW ∷ HY ∷ []) left) _ _ refl
    (chosen 71 (is_one_of Seventeen (ID ∷ ID_EASTASIAN ∷ []) left || is_one_of Seventeen (ID ∷ ID_EASTASIAN ∷ []) right) _ _ (chosen 71 (is_one_of Seventeen (NS ∷ NS_EASTASIAN ∷ IN ∷ IN_EASTASIAN ∷ BA ∷ BA_EASTASIAN ∷ CJ ∷ HY ∷ []) right) _ _ refl refl) refl))))

turns-pass : Passes turn_table
turns-pass = record { some = refl; square = rows-length turn_entry 71 71; classes = refl; sot = refl; eot = refl; states = rows-pass turn_entry 71 entry-passes 71 }

pub turns-never-rejected : (parts : PairTable) → parts ≡ turn_table → (fault : DataError) → IsLowestFault (HasPairFault parts) fault → ⊥
turns-never-rejected parts is fault lowest = faultless turn_table turns-pass fault (rw is at lowest.is_there)

pub turns-sound : IsFaultless (HasLineTableFault Seventeen turn_table cluster_table)
turns-sound fault (inr has) = clusters-sound fault has
turns-sound ClassOutOfRange (inl has) = absurd (omega (arith, has))
turns-sound ComplexBelow0100 (inl has) = turn_table-not_complex has
turns-sound ComplexClassNamed (inl has) = cc
turns-sound Memory (inl has) = has
turns-sound RangeOrder (inl has) = has
turns-sound RangePast10FFFF (inl has) = has
turns-sound TableSize (inl has) = has
turns-sound StateOutOfRange (inl has) = has
turns-sound StartRowKeeps (inl has) = has
turns-sound ComplexItems (inl has) = has
turns-sound StateCount (inl has) = has
turns-sound TransitionSize (inl has) = has
turns-sound TransitionOutOfRange (inl has) = has
turns-sound SymbolOutOfRange (inl has) = has
turns-sound TooManyLookaheads (inl has) = has
turns-sound LookaheadOutOfRange (inl has) = has
turns-sound EndCycle (inl has) = has
turns-sound Stalls (inl has) = has
turns-sound MissingTailoring (inl has) = has
