-- What was read of a text, line by line.
use Rattle.std.specs.Prelude.{ℕ, ◌+◌, Option, Some, List, ◌++◌, fold, length, ◌≡◌}
use Rattle.std.specs.List.{flat_map}
use Rattle.seg_hyphens.specs.declared.fault.Fault.{Fault}
use Rattle.seg_hyphens.specs.declared.fault.HyphenationError.{HyphenationError}
use Rattle.seg_hyphens.specs.declared.fault.HyphenationError.TheVariants.{Memory, Text}
use Rattle.seg_hyphens.specs.declared.lines.LineKind.TheVariants.{Faulty}
use Rattle.seg_hyphens.specs.declared.reading.Reader.{Reader}
use Rattle.seg_hyphens.specs.Liang.{Pattern}
use Rattle.seg_hyphens.specs.Texts.{fault_by, first_fault, kind_of, left_by, patterns_by, right_by}
use Rattle.seg_hyphens.specs.Tries.{IsTrie, Keeps}

-- a line was read, which is not at fault
pub record Reads (old new : Reader) (line : List ℕ) : Type 0 where
  pub is : IsTrie new.trie
  pub faultless : (number : ℕ) (later : Option (ℕ × Fault)) → fault_by number (kind_of line) later ≡ later
  pub left : new.minima.left ≡ left_by old.minima.left (kind_of line)
  pub right : new.minima.right ≡ right_by old.minima.right (kind_of line)
  pub keeps : (patterns : List Pattern) → Keeps old.trie patterns → Keeps new.trie (patterns ++ patterns_by line (kind_of line))

-- so it is of lines, the first of which is the second of its text
pub record ReadsAll (old new : Reader) (lines : List (List ℕ)) : Type 0 where
  pub is : IsTrie new.trie
  pub faultless : (later : List (List ℕ)) → first_fault 2 (lines ++ later) ≡ first_fault (length lines + 2) later
  pub left : new.minima.left ≡ fold (λ before line. left_by before (kind_of line)) old.minima.left lines
  pub right : new.minima.right ≡ fold (λ before line. right_by before (kind_of line)) old.minima.right lines
  pub keeps : (patterns : List Pattern) → Keeps old.trie patterns
      → Keeps new.trie (patterns ++ flat_map (λ line. patterns_by line (kind_of line)) lines)

-- why a line with this number was not read
abbrev pub IsLineError : ℕ → List ℕ → HyphenationError → Type 0
IsLineError number line Memory = Unit {0}
IsLineError number line (Text at fault) = (at ≡ number) × (kind_of line ≡ Faulty fault)

-- why lines were not read
abbrev pub IsLinesError : List (List ℕ) → HyphenationError → Type 0
IsLinesError lines Memory = Unit {0}
IsLinesError lines (Text at fault) = first_fault 2 lines ≡ Some (at, fault)
