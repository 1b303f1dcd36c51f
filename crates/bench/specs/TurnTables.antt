-- The bench pair table of lines of the engine 17, hand-written for tests and for the program.
use Rattle.std.specs.Prelude.{ℕ, ◌==◌, ◌||◌, if◌then◌else◌, [], ◌∷◌}
use Rattle.seg_pairs.specs.declared.provider.pairs.BreakState.{BreakState}
use Rattle.seg_pairs.specs.declared.provider.pairs.BreakState.TheVariants.{Break, Keep}
use Rattle.icu_segmenter.specs.LineRules.{is_one_of}
use Rattle.icu_segmenter.specs.PairTable.{PairTable, pair_table}
use Rattle.icu_segmenter.specs.Table.{Table}
use Rattle.icu_segmenter.specs.LineClasses.{class_number}
use Rattle.icu_segmenter.specs.LineEngine.TheVariants.{Seventeen}
use Rattle.icu_segmenter.specs.LineClasses.LineClass.{BA, BA_EASTASIAN, BK, CJ, CR, EX, EX_EASTASIAN, HY, ID, ID_EASTASIAN, IN, IN_EASTASIAN, LF, NL, NS, NS_EASTASIAN, SP, ZW}
use Rattle.bench.specs.Rows.{rows}

-- 43 LF, 21 CR, 60 SP, 25 EX, 33 HY, 39 IS, 47 NU, 4 AL, 18 CM, 58 SA, of Thai and Myanmar, which are complex, 68 ZWJ, 46 NS_EASTASIAN,
-- 15 CJ, 36 ID_EASTASIAN, 1 AI; 65, XX, any other character
abbrev pub turn_classes : Table
turn_classes = record {
  ranges =
      (0x0A, 0x0A, 43) ∷ (0x0D, 0x0D, 21) ∷ (0x20, 0x20, 60) ∷ (0x21, 0x21, 25) ∷ (0x2D, 0x2D, 33)
      ∷ (0x2E, 0x2E, 39) ∷ (0x30, 0x39, 47) ∷ (0x41, 0x5A, 4) ∷ (0x61, 0x7A, 4) ∷ (0xC0, 0x24F, 4)
      ∷ (0x300, 0x36F, 18) ∷ (0xE01, 0xE3A, 58) ∷ (0xE40, 0xE4E, 58) ∷ (0x1000, 0x103F, 58)
      ∷ (0x1E00, 0x1EFF, 4) ∷ (0x200D, 0x200D, 68) ∷ (0x3005, 0x3005, 46) ∷ (0x3041, 0x3041, 15)
      ∷ (0x4E00, 0x9FFF, 36) ∷ (0xFFFD, 0xFFFD, 1) ∷ [];
  default = 65;
}

-- what stands between a class and the next: the first line that applies
abbrev pub turn_entry : ℕ → ℕ → BreakState
turn_entry left right =
    if is_one_of Seventeen (BK ∷ LF ∷ NL ∷ []) left then Break else
    if left == class_number Seventeen CR then (if right == class_number Seventeen LF then Keep else Break) else
    if is_one_of Seventeen (BK ∷ CR ∷ LF ∷ NL ∷ SP ∷ ZW ∷ EX ∷ EX_EASTASIAN ∷ []) right then Keep else
    if is_one_of Seventeen (SP ∷ ZW ∷ HY ∷ []) left then Break else
    if is_one_of Seventeen (ID ∷ ID_EASTASIAN ∷ []) left || is_one_of Seventeen (ID ∷ ID_EASTASIAN ∷ []) right
    then (if is_one_of Seventeen (NS ∷ NS_EASTASIAN ∷ IN ∷ IN_EASTASIAN ∷ BA ∷ BA_EASTASIAN ∷ CJ ∷ HY ∷ []) right then Keep else Break) else
    Keep

abbrev pub turn_table : PairTable
turn_table = pair_table turn_classes (rows turn_entry 71 71) [] 71 68 69 70 58
