-- The bench pair table of lines has no fault.
use Rattle.std.proofs.Common.{◌≡◌, ℕ, inl, inr, true, [], ◌∷◌, ◌==◌, ◌||◌, refl, arith}
use Rattle.seg_data.specs.declared.provider.DataError.{DataError}
use Rattle.seg_data.specs.declared.provider.DataError.TheVariants.{Memory, RangeOrder, RangePast10FFFF, TableSize, ClassOutOfRange, StateOutOfRange, StartRowKeeps, ComplexItems, ComplexBelow0100, ComplexClassNamed, StateCount, TransitionSize, TransitionOutOfRange, SymbolOutOfRange, TooManyLookaheads, LookaheadOutOfRange, EndCycle, Stalls, MissingTailoring}
use Rattle.seg_data.specs.Faults.{IsFaultless, IsLowestFault}
use Rattle.seg_pairs.specs.PairData.{HasPairFault}
use Rattle.seg_pairs.specs.PairTable.{PairTable}
use Rattle.icu_segmenter.specs.LineClasses.{class_number}
use Rattle.icu_segmenter.specs.LineEngine.TheVariants.{Classic}
use Rattle.icu_segmenter.specs.LineClasses.LineClass.{BA, BK, CJ, CR, EX, HY, ID, IN, LF, NL, NS, SP, ZW}
use Rattle.icu_segmenter.specs.LineRules.{HasLineTableFault, is_one_of}
use Rattle.bench.specs.LineTables.{line_entry, line_table}
use Rattle.bench.specs.PairTables.{cluster_table}
use Rattle.bench.proofs.PairFaults.{Passes, clusters-sound, faultless, names_below}
use Rattle.bench.proofs.Rows.{chosen, rows-length, rows-pass}
use Rattle.bench.proofs.Scripts.{line_table-not_complex}

-- no entry names a state

entry-passes : (left right : ℕ) → names_below 57 (line_entry left right) ≡ true
unfolding names_below
entry-passes left right =
    chosen 57 (is_one_of Classic (BK ∷ LF ∷ NL ∷ []) left) _ _ refl
    (chosen 57 (left == class_number Classic CR) _ _ (chosen 57 (right == class_number Classic LF) _ _ refl refl)
    (chosen 57 (is_one_of Classic (BK ∷ CR ∷ LF ∷ NL ∷ SP ∷ ZW ∷ EX ∷ []) right) _ _ refl
    (chosen 57 (is_one_of Classic (SP ∷ ZW ∷ HY ∷ []) left) _ _ refl
    (chosen 57 (left == class_number Classic ID || right == class_number Classic ID) _ _ (chosen 57 (is_one_of Classic (NS ∷ IN ∷ BA ∷ CJ ∷ HY ∷ []) right) _ _ refl refl) refl))))

lines-pass : Passes line_table
lines-pass = record { some = refl; square = rows-length line_entry 57 57; classes = refl; sot = refl; eot = refl; states = rows-pass line_entry 57 entry-passes 57 }

pub lines-never-rejected : (parts : PairTable) → parts ≡ line_table → (fault : DataError) → IsLowestFault (HasPairFault parts) fault → ⊥
lines-never-rejected parts is fault lowest = faultless line_table lines-pass fault (rw is at lowest.is_there)

pub lines-sound : IsFaultless (HasLineTableFault Classic line_table cluster_table)
lines-sound fault (inr has) = clusters-sound fault has
lines-sound ClassOutOfRange (inl has) = absurd (omega (arith, has))
lines-sound ComplexBelow0100 (inl has) = line_table-not_complex has
lines-sound ComplexClassNamed (inl has) = cc
lines-sound Memory (inl has) = has
lines-sound RangeOrder (inl has) = has
lines-sound RangePast10FFFF (inl has) = has
lines-sound TableSize (inl has) = has
lines-sound StateOutOfRange (inl has) = has
lines-sound StartRowKeeps (inl has) = has
lines-sound ComplexItems (inl has) = has
lines-sound StateCount (inl has) = has
lines-sound TransitionSize (inl has) = has
lines-sound TransitionOutOfRange (inl has) = has
lines-sound SymbolOutOfRange (inl has) = has
lines-sound TooManyLookaheads (inl has) = has
lines-sound LookaheadOutOfRange (inl has) = has
lines-sound EndCycle (inl has) = has
lines-sound Stalls (inl has) = has
lines-sound MissingTailoring (inl has) = has
