-- Segmenters by a caller's own rules.
use Rattle.std.specs.Prelude.{◌≡◌, ◌⊎◌, ℕ, zero, suc, IsUtf8, MatchOption, Option, None, List}
use Rattle.icu_segmenter.specs.Machine.{Machine}
use Rattle.icu_segmenter.specs.Rules.Rules.{ByMachine}
use Rattle.seg_notation.specs.Lines.{IsLineOf}
use Rattle.seg_rules.specs.Passed.{FindsPlaces}
use Rattle.seg_rules.specs.RowRules.{RowRules}
use Rattle.yengatomu_segmenter.specs.Finders.{Finder}
use Rattle.yengatomu_segmenter.specs.Finders.Finder.{Clusters}
use Rattle.yengatomu_segmenter.specs.declared.rules.Complaint.{Complaint}
use Rattle.yengatomu_segmenter.specs.declared.rules.Complaint.TheVariants.{Memory, Wrong, NoMachine}

-- what a segmenter by a machine finds boundaries by
abbrev pub by_machine : Machine → Finder
by_machine machine = Clusters (ByMachine machine)

-- boundaries are those of a machine that finds the places where rules break
abbrev pub IsByRules : RowRules → Finder → Type 0
IsByRules rules finder = (machine : Machine) × (finder ≡ by_machine machine) × FindsPlaces rules machine

abbrev pub IsBySomeRules : Finder → Type 0
IsBySomeRules finder = (rules : RowRules) × IsByRules rules finder

-- a line of a text, or 0 where it isn't UTF-8
abbrev pub IsWrongAt : List ℕ → ℕ → Type 0
IsWrongAt text line = ((line ≡ 0) × (IsUtf8 text → ⊥)) ⊎ IsLineOf text line

-- why a text makes no segmenter
abbrev pub IsComplaint : List ℕ → Complaint → Type 0
IsComplaint text Memory = Unit {0}
IsComplaint text (Wrong line) = IsWrongAt text line
IsComplaint text (NoMachine line) = Unit {0}

-- What `open_rules` says: 0 where the slot finds boundaries by some rules; 1 when out of memory; 2 where the text isn't UTF-8, or is wrong
-- at a line; 3 where its rules have no machine. But for 0 nothing is held, and for 0 and 1 the line is 0.
abbrev pub IsOpenedByRules : List ℕ → Option Finder → ℕ → ℕ → Type 0
IsOpenedByRules text held line zero = MatchOption held ⊥ IsBySomeRules × (line ≡ 0)
IsOpenedByRules text held line (suc zero) = (held ≡ None) × (line ≡ 0)
IsOpenedByRules text held line (suc (suc zero)) = (held ≡ None) × IsWrongAt text line
IsOpenedByRules text held line (suc (suc (suc zero))) = held ≡ None
IsOpenedByRules text held line (suc (suc (suc (suc _)))) = ⊥
