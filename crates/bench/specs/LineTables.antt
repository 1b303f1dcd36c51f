-- The bench pair table of lines, hand-written for tests and for the program.
use Rattle.std.specs.Prelude.{ℕ, ◌==◌, ◌||◌, if◌then◌else◌, [], ◌∷◌}
use Rattle.seg_pairs.specs.declared.provider.pairs.BreakState.{BreakState}
use Rattle.seg_pairs.specs.declared.provider.pairs.BreakState.TheVariants.{Break, Keep}
use Rattle.icu_segmenter.specs.LineClasses.{class_number}
use Rattle.icu_segmenter.specs.LineEngine.TheVariants.{Classic}
use Rattle.icu_segmenter.specs.LineClasses.LineClass.{BA, BK, CJ, CR, EX, HY, ID, IN, LF, NL, NS, SP, ZW}
use Rattle.icu_segmenter.specs.LineRules.{is_one_of}
use Rattle.icu_segmenter.specs.PairTable.{PairTable, pair_table}
use Rattle.icu_segmenter.specs.Table.{Table}
use Rattle.bench.specs.Rows.{rows}

-- 32 LF, 16 CR, 47 SP, 19 EX, 24 HY, 28 IS, 35 NU, 3 AL, 14 CM, 46 Thai and Myanmar, which are complex, 54 ZWJ, 34 NS, 12 CJ, 25 ID, 1 AI;
-- 52, XX, any other character
abbrev pub line_classes : Table
line_classes = record {
  ranges =
      (0x0A, 0x0A, 32) ∷ (0x0D, 0x0D, 16) ∷ (0x20, 0x20, 47) ∷ (0x21, 0x21, 19) ∷ (0x2D, 0x2D, 24)
      ∷ (0x2E, 0x2E, 28) ∷ (0x30, 0x39, 35) ∷ (0x41, 0x5A, 3) ∷ (0x61, 0x7A, 3) ∷ (0xC0, 0x24F, 3)
      ∷ (0x300, 0x36F, 14) ∷ (0xE01, 0xE3A, 46) ∷ (0xE40, 0xE4E, 46) ∷ (0x1000, 0x103F, 46)
      ∷ (0x1E00, 0x1EFF, 3) ∷ (0x200D, 0x200D, 54) ∷ (0x3005, 0x3005, 34) ∷ (0x3041, 0x3041, 12)
      ∷ (0x4E00, 0x9FFF, 25) ∷ (0xFFFD, 0xFFFD, 1) ∷ [];
  default = 52;
}

-- what stands between a class and the next: the first line that applies
abbrev pub line_entry : ℕ → ℕ → BreakState
line_entry left right =
    if is_one_of Classic (BK ∷ LF ∷ NL ∷ []) left then Break else
    if left == class_number Classic CR then (if right == class_number Classic LF then Keep else Break) else
    if is_one_of Classic (BK ∷ CR ∷ LF ∷ NL ∷ SP ∷ ZW ∷ EX ∷ []) right then Keep else
    if is_one_of Classic (SP ∷ ZW ∷ HY ∷ []) left then Break else
    if left == class_number Classic ID || right == class_number Classic ID then (if is_one_of Classic (NS ∷ IN ∷ BA ∷ CJ ∷ HY ∷ []) right then Keep else Break) else
    Keep

abbrev pub line_table : PairTable
line_table = pair_table line_classes (rows line_entry 57 57) [] 57 54 55 56 46
