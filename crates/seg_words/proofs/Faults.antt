-- Which faults the data of words can have, and the lowest of several.
use Rattle.std.proofs.Common.{◌≡◌, ◌<◌, Option, None, ◌⊎◌, inl, inr, refl, ap, subst, arith}
use Rattle.seg_data.specs.declared.provider.DataError.{DataError}
use Rattle.seg_data.specs.declared.provider.DataError.TheVariants.{Memory, RangeOrder, RangePast10FFFF, TableSize, ClassOutOfRange, StateOutOfRange, StartRowKeeps, ComplexItems, ComplexBelow0100, ComplexClassNamed, StateCount, TransitionSize, TransitionOutOfRange, SymbolOutOfRange, TooManyLookaheads, LookaheadOutOfRange, EndCycle, Stalls, MissingTailoring}
use Rattle.seg_data.specs.Faults.{number_of, IsFaultless, IsLowestFault}
use Rattle.seg_data.specs.Table.{Table}
use Rattle.seg_pairs.specs.PairTable.{PairTable}
use Rattle.seg_pairs.specs.PairData.{HasPairDataFault, HasComplexClassBelow0100}
use Rattle.seg_pairs.proofs.Pairs.{data-cases}
use Rattle.seg_words.specs.Words.{HasOwnFault, HasWordTableFault}

pub own-cases : (t : PairTable) (o : Option Table) (fault : DataError) → HasOwnFault t o fault
    → ((fault ≡ ClassOutOfRange) × HasPairDataFault t o ClassOutOfRange)
    ⊎ (((fault ≡ StartRowKeeps) × HasPairDataFault t o StartRowKeeps) ⊎ ((fault ≡ ComplexBelow0100) × HasComplexClassBelow0100 t o))
own-cases t o Memory has = absurd has
own-cases t o RangeOrder has = absurd has
own-cases t o RangePast10FFFF has = absurd has
own-cases t o TableSize has = absurd has
own-cases t o ClassOutOfRange has = inl (refl, has)
own-cases t o StateOutOfRange has = absurd has
own-cases t o StartRowKeeps has = inr (inl (refl, has))
own-cases t o ComplexItems has = absurd has
own-cases t o ComplexBelow0100 has = inr (inr (refl, has))
own-cases t o ComplexClassNamed has = absurd has
own-cases t o StateCount has = absurd has
own-cases t o TransitionSize has = absurd has
own-cases t o TransitionOutOfRange has = absurd has
own-cases t o SymbolOutOfRange has = absurd has
own-cases t o TooManyLookaheads has = absurd has
own-cases t o LookaheadOutOfRange has = absurd has
own-cases t o EndCycle has = absurd has
own-cases t o Stalls has = absurd has
own-cases t o MissingTailoring has = absurd has

-- clusters have no override, and so no class past the others
cluster-number : (t : PairTable) (fault : DataError) → HasPairDataFault t None fault → (6 < number_of fault) × (number_of fault < 9)
cluster-number t fault has = elim (data-cases t None fault has) [
  | inl (is, has) ↦ absurd has.1
  | inr other ↦ elim other [ inl (is, has) ↦ rw is (omega arith, omega arith) | inr is ↦ rw is (omega arith, omega arith) ]
]

module _ (t : PairTable) (o : Option Table) (clusters : PairTable) where
  module _ (class : HasPairDataFault t o ClassOutOfRange → ⊥) (start : HasPairDataFault t o StartRowKeeps → ⊥) where
    pub clusters-lowest : (fault : DataError) → IsLowestFault (HasPairDataFault clusters None) fault → IsLowestFault (HasWordTableFault t o clusters) fault
    clusters-lowest fault found = record {
      is_there = inr found.is_there;
      lowest = λ lower less has. elim has [
        | inl own ↦ elim (own-cases t o lower own) [
          | inl (is, has) ↦ class has
          | inr other ↦ elim other [
            | inl (is, has) ↦ start has
            | inr (is, has) ↦ omega (arith, less, ap number_of is, (cluster-number clusters fault found.is_there).1)
          ]
        ]
        | inr other ↦ found.lowest lower less other
      ];
    }

    pub complex-lowest : IsFaultless (HasPairDataFault clusters None) → HasComplexClassBelow0100 t o → IsLowestFault (HasWordTableFault t o clusters) ComplexBelow0100
    complex-lowest none complex = record {
      is_there = inl complex;
      lowest = λ lower less has. elim has [
        | inl own ↦ elim (own-cases t o lower own) [
          | inl (is, has) ↦ class has
          | inr other ↦ elim other [ inl (is, has) ↦ start has | inr (is, has) ↦ omega (arith, less, ap number_of is) ]
        ]
        | inr other ↦ none lower other
      ];
    }

-- what was looked for in a table and an override that are these

pub start-moved : (t u : PairTable) (o other : Option Table) → u ≡ t → other ≡ o → (HasPairDataFault u other StartRowKeeps → ⊥) → HasPairDataFault t o StartRowKeeps → ⊥
start-moved t u o other same equal =
    λ none. subst (λ o. HasPairDataFault t o StartRowKeeps → ⊥) equal (subst (λ t. HasPairDataFault t other StartRowKeeps → ⊥) same none)

pub complex-moved : (t u : PairTable) (o other : Option Table) → u ≡ t → other ≡ o → HasComplexClassBelow0100 u other → HasComplexClassBelow0100 t o
complex-moved t u o other same equal =
    λ complex. subst (λ o. HasComplexClassBelow0100 t o) equal (subst (λ t. HasComplexClassBelow0100 t other) same complex)
