-- How a caller has columns counted.
use Rattle.std.specs.Prelude.{◌≡◌, ℕ, zero, suc, Bool, true, false, IfSome, IsTrue, Option, Some}
use Rattle.icu_segmenter.specs.Rules.{Rules}
use Rattle.icu_segmenter.specs.Rules.Rules.{ByMachine}
use Rattle.icu_segmenter_uax29.specs.Clusters.{cluster_machine}
use Rattle.yengatomu_segmenter.specs.Finders.{Finder}
use Rattle.yengatomu_segmenter.specs.Finders.Finder.{Clusters, Words, Sentences, Lines}
use Rattle.yengatomu_segmenter.specs.declared.columns.Refusal.{Refusal}
use Rattle.yengatomu_segmenter.specs.declared.columns.Refusal.TheVariants.{Memory, NoLines}

-- lines count columns
abbrev pub has_columns : Finder → Bool
has_columns (Clusters rules) = false
has_columns (Words rules) = false
has_columns (Sentences rules abbreviations) = false
has_columns (Lines rules clusters) = true

-- .. by the clusters of some rules
abbrev pub counted_by : Rules → Finder → Finder
counted_by clusters (Clusters rules) = Clusters rules
counted_by clusters (Words rules) = Words rules
counted_by clusters (Sentences rules abbreviations) = Sentences rules abbreviations
counted_by clusters (Lines rules before) = Lines rules (Some clusters)

-- why they don't
abbrev pub IsNotCounted : Finder → Refusal → Type 0
IsNotCounted finder Memory = IsTrue (has_columns finder)
IsNotCounted finder NoLines = has_columns finder ≡ false

-- What `count_by_cluster` says: 0 where the slot holds lines, which count columns by Unicode's clusters now; 1 where it does, but there is no
-- memory; 2 where it holds none. But for 0 the slot is as it was.
abbrev pub IsCounted : Option Finder → Option Finder → ℕ → Type 0
IsCounted old new zero =
    (before : Finder) × (old ≡ Some before) × IsTrue (has_columns before) × (new ≡ Some (counted_by (ByMachine cluster_machine) before))
IsCounted old new (suc zero) = (new ≡ old) × IfSome old (λ finder. IsTrue (has_columns finder))
IsCounted old new (suc (suc zero)) = (new ≡ old) × IfSome old (λ finder. has_columns finder ≡ false)
IsCounted old new (suc (suc (suc _))) = ⊥
