-- The certificate of the machine of words: written by generate/generate.py. Do not edit.
use Rattle.std.specs.Prelude.{◌≡◌, ℕ, Bool, true, false, ◌&&◌, nat_lt, List, [], ◌∷◌, length}
use Rattle.std.proofs.Common.{refl}
use Rattle.std.proofs.lemmas.Bool.{and_from}
use Rattle.seg_rules.specs.declared.certificate.Configuration.{Configuration}
use Rattle.seg_rules.specs.declared.rules.Count.TheVariants.{One, Pairs}
use Rattle.seg_rules.specs.RowRules.{Row, RowRules, Before, Marks, Owed, Due, DueOf, at_start, once, once_number, once_flags, flow, no_flags, is_full, is_live, moved, unread, moves_on, put_on, put, onto, begun, owed_rows, owed, reading, read_all, read}
use Rattle.seg_rules.specs.Check.{Plan, Tables, no_before, same_before, verdicts, tables_hold, scans_hold, get, same_flags, same_lives, same_pattern, same_entries, same_due, moves_hold, befores_hold, reads_hold, dues_hold, append_dues, all_below, rows_below, among, ends, entered, goes_on, each_goes, configurations_hold, configuration_holds, relation_holds, starts_hold}
use Rattle.seg_rules.specs.Classes.{bits_from, pattern_of, rows_of}
use Rattle.icu_segmenter_uax29.specs.WordRules.{word_rows_above_marks, word_rows_below_marks, word_rules}

abbrev at : (before doubt older : ℕ) (newest : Bool) (last status named : ℕ) → Configuration
at before doubt older newest last status named =
    record { before = before; doubt = doubt; older = older; newest = newest; last = last; status = status; named = named }

-- which rests of a pattern may come next
abbrev live_ftf : List Bool
live_ftf = false ∷ true ∷ false ∷ []

abbrev live_t : List Bool
live_t = true ∷ []

abbrev live_tf : List Bool
live_tf = true ∷ false ∷ []

abbrev live_tff : List Bool
live_tff = true ∷ false ∷ false ∷ []

abbrev live_tffff : List Bool
live_tffff = true ∷ false ∷ false ∷ false ∷ false ∷ []

abbrev live_tft : List Bool
live_tft = true ∷ false ∷ true ∷ []

abbrev live_tftft : List Bool
live_tftft = true ∷ false ∷ true ∷ false ∷ true ∷ []

abbrev live_tt : List Bool
live_tt = true ∷ true ∷ []

abbrev live_ttf : List Bool
live_ttf = true ∷ true ∷ false ∷ []

abbrev live_ttftf : List Bool
live_ttftf = true ∷ true ∷ false ∷ true ∷ false ∷ []

unfoldable pub numbered_above : List Row
numbered_above =
    record { left = (4, One) ∷ []; right = (8, One) ∷ []; verdict = 0 } ∷
    record { left = (28, One) ∷ []; right = []; verdict = 1 } ∷
    record { left = []; right = (28, One) ∷ []; verdict = 1 } ∷
    record { left = (64, One) ∷ []; right = (3145728, One) ∷ []; verdict = 0 } ∷
    record { left = (524288, One) ∷ []; right = (524288, One) ∷ []; verdict = 0 } ∷
    []

unfoldable pub numbered_below : List Row
numbered_below =
    record { left = (2100224, One) ∷ []; right = (2100224, One) ∷ []; verdict = 0 } ∷
    record { left = (2100224, One) ∷ []; right = (53248, One) ∷ (2100224, One) ∷ []; verdict = 0 } ∷
    record { left = (2100224, One) ∷ (53248, One) ∷ []; right = (2100224, One) ∷ []; verdict = 0 } ∷
    record { left = (1024, One) ∷ []; right = (4096, One) ∷ []; verdict = 0 } ∷
    record { left = (1024, One) ∷ []; right = (8192, One) ∷ (1024, One) ∷ []; verdict = 0 } ∷
    record { left = (1024, One) ∷ (8192, One) ∷ []; right = (1024, One) ∷ []; verdict = 0 } ∷
    record { left = (131072, One) ∷ []; right = (131072, One) ∷ []; verdict = 0 } ∷
    record { left = (2100224, One) ∷ []; right = (131072, One) ∷ []; verdict = 0 } ∷
    record { left = (131072, One) ∷ []; right = (2100224, One) ∷ []; verdict = 0 } ∷
    record { left = (131072, One) ∷ (86016, One) ∷ []; right = (131072, One) ∷ []; verdict = 0 } ∷
    record { left = (131072, One) ∷ []; right = (86016, One) ∷ (131072, One) ∷ []; verdict = 0 } ∷
    record { left = (512, One) ∷ []; right = (512, One) ∷ []; verdict = 0 } ∷
    record { left = (2493952, One) ∷ []; right = (262144, One) ∷ []; verdict = 0 } ∷
    record { left = (262144, One) ∷ []; right = (2231808, One) ∷ []; verdict = 0 } ∷
    record { left = (1, One) ∷ (256, Pairs) ∷ (256, One) ∷ []; right = (256, One) ∷ []; verdict = 0 } ∷
    record { left = (4194046, One) ∷ (256, Pairs) ∷ (256, One) ∷ []; right = (256, One) ∷ []; verdict = 0 } ∷
    record { left = []; right = []; verdict = 1 } ∷
    []

unfoldable pub numbered_rules : RowRules
numbered_rules = record {
  above = numbered_above;
  below = numbered_below;
  has_marks = true;
  marks = 224;
  bare = 28;
  alone = 1;
  at_end = 0;
}

unfoldable pub befores_0 : List (Before) → List (Before)
befores_0 rest =
    record { above = live_tf ∷ live_tf ∷ live_t ∷ live_tf ∷ live_tf ∷ []; below = live_tf ∷ live_tf ∷ live_tff ∷ live_tf ∷ live_tf ∷ live_tff ∷ live_tf ∷ live_tf ∷ live_tf ∷ live_tff ∷ live_tf ∷ live_tf ∷ live_tf ∷ live_tf ∷ live_ttftf ∷ live_tffff ∷ live_t ∷ []; glues = false } ∷
    record { above = live_tf ∷ live_tf ∷ live_t ∷ live_tf ∷ live_tf ∷ []; below = live_tf ∷ live_tf ∷ live_tff ∷ live_tf ∷ live_tf ∷ live_tff ∷ live_tf ∷ live_tf ∷ live_tf ∷ live_tff ∷ live_tf ∷ live_tf ∷ live_tf ∷ live_tf ∷ live_tffff ∷ live_ttftf ∷ live_t ∷ []; glues = true } ∷
    record { above = live_tt ∷ live_tt ∷ live_t ∷ live_tf ∷ live_tf ∷ []; below = live_tf ∷ live_tf ∷ live_tff ∷ live_tf ∷ live_tf ∷ live_tff ∷ live_tf ∷ live_tf ∷ live_tf ∷ live_tff ∷ live_tf ∷ live_tf ∷ live_tf ∷ live_tf ∷ live_tffff ∷ live_ttftf ∷ live_t ∷ []; glues = false } ∷
    record { above = live_tf ∷ live_tt ∷ live_t ∷ live_tf ∷ live_tf ∷ []; below = live_tf ∷ live_tf ∷ live_tff ∷ live_tf ∷ live_tf ∷ live_tff ∷ live_tf ∷ live_tf ∷ live_tf ∷ live_tff ∷ live_tf ∷ live_tf ∷ live_tf ∷ live_tf ∷ live_tffff ∷ live_ttftf ∷ live_t ∷ []; glues = false } ∷
    record { above = live_tf ∷ live_tf ∷ live_t ∷ live_tt ∷ live_tf ∷ []; below = live_tf ∷ live_tf ∷ live_tff ∷ live_tf ∷ live_tf ∷ live_tff ∷ live_tf ∷ live_tf ∷ live_tf ∷ live_tff ∷ live_tf ∷ live_tf ∷ live_tf ∷ live_tf ∷ live_tffff ∷ live_ttftf ∷ live_t ∷ []; glues = true } ∷
    record { above = live_tf ∷ live_tf ∷ live_t ∷ live_tf ∷ live_tf ∷ []; below = live_tf ∷ live_tf ∷ live_tff ∷ live_tf ∷ live_tf ∷ live_tff ∷ live_tf ∷ live_tf ∷ live_tf ∷ live_tff ∷ live_tf ∷ live_tf ∷ live_tf ∷ live_tf ∷ live_tftft ∷ live_tffff ∷ live_t ∷ []; glues = true } ∷
    record { above = live_tf ∷ live_tf ∷ live_t ∷ live_tf ∷ live_tf ∷ []; below = live_tf ∷ live_tf ∷ live_tff ∷ live_tf ∷ live_tf ∷ live_tff ∷ live_tf ∷ live_tf ∷ live_tf ∷ live_tff ∷ live_tf ∷ live_tt ∷ live_tt ∷ live_tf ∷ live_tffff ∷ live_ttftf ∷ live_t ∷ []; glues = true } ∷
    record { above = live_tf ∷ live_tf ∷ live_t ∷ live_tf ∷ live_tf ∷ []; below = live_tt ∷ live_tt ∷ live_ttf ∷ live_tt ∷ live_tt ∷ live_ttf ∷ live_tf ∷ live_tt ∷ live_tf ∷ live_tff ∷ live_tf ∷ live_tf ∷ live_tt ∷ live_tf ∷ live_tffff ∷ live_ttftf ∷ live_t ∷ []; glues = true } ∷
    record { above = live_tf ∷ live_tf ∷ live_t ∷ live_tf ∷ live_tf ∷ []; below = live_tt ∷ live_tt ∷ live_ttf ∷ live_tf ∷ live_tf ∷ live_tff ∷ live_tf ∷ live_tt ∷ live_tf ∷ live_tff ∷ live_tf ∷ live_tf ∷ live_tt ∷ live_tf ∷ live_tffff ∷ live_ttftf ∷ live_t ∷ []; glues = true } ∷
    record { above = live_tf ∷ live_tf ∷ live_t ∷ live_tf ∷ live_tf ∷ []; below = live_tf ∷ live_tf ∷ live_tff ∷ live_tf ∷ live_tf ∷ live_tff ∷ live_tt ∷ live_tf ∷ live_tt ∷ live_ttf ∷ live_tt ∷ live_tf ∷ live_tt ∷ live_tf ∷ live_tffff ∷ live_ttftf ∷ live_t ∷ []; glues = true } ∷
    record { above = live_tf ∷ live_tf ∷ live_t ∷ live_tf ∷ live_tf ∷ []; below = live_tf ∷ live_tf ∷ live_tff ∷ live_tf ∷ live_tf ∷ live_tff ∷ live_tf ∷ live_tf ∷ live_tf ∷ live_tff ∷ live_tf ∷ live_tf ∷ live_tt ∷ live_tt ∷ live_tffff ∷ live_ttftf ∷ live_t ∷ []; glues = true } ∷
    record { above = live_tf ∷ live_tf ∷ live_t ∷ live_tf ∷ live_tt ∷ []; below = live_tf ∷ live_tf ∷ live_tff ∷ live_tf ∷ live_tf ∷ live_tff ∷ live_tf ∷ live_tf ∷ live_tf ∷ live_tff ∷ live_tf ∷ live_tf ∷ live_tf ∷ live_tf ∷ live_tffff ∷ live_ttftf ∷ live_t ∷ []; glues = true } ∷
    record { above = live_tf ∷ live_tf ∷ live_t ∷ live_tf ∷ live_tf ∷ []; below = live_tf ∷ live_tf ∷ live_tff ∷ live_tf ∷ live_tf ∷ live_tff ∷ live_tf ∷ live_tf ∷ live_tf ∷ live_tff ∷ live_tf ∷ live_tf ∷ live_tf ∷ live_tf ∷ live_tffff ∷ live_tftft ∷ live_t ∷ []; glues = true } ∷
    record { above = live_tf ∷ live_tf ∷ live_t ∷ live_tt ∷ live_tf ∷ []; below = live_tf ∷ live_tf ∷ live_tff ∷ live_tf ∷ live_tf ∷ live_tff ∷ live_tf ∷ live_tf ∷ live_tf ∷ live_tff ∷ live_tf ∷ live_tf ∷ live_tf ∷ live_tf ∷ live_tftft ∷ live_tffff ∷ live_t ∷ []; glues = true } ∷
    record { above = live_tf ∷ live_tf ∷ live_t ∷ live_tf ∷ live_tf ∷ []; below = live_tf ∷ live_tf ∷ live_tff ∷ live_tf ∷ live_tf ∷ live_tff ∷ live_tf ∷ live_tf ∷ live_tf ∷ live_tff ∷ live_tf ∷ live_tf ∷ live_tf ∷ live_tf ∷ live_ttftf ∷ live_tffff ∷ live_t ∷ []; glues = true } ∷
    record { above = live_tf ∷ live_tf ∷ live_t ∷ live_tt ∷ live_tf ∷ []; below = live_tf ∷ live_tf ∷ live_tff ∷ live_tf ∷ live_tf ∷ live_tff ∷ live_tf ∷ live_tf ∷ live_tf ∷ live_tff ∷ live_tf ∷ live_tt ∷ live_tt ∷ live_tf ∷ live_tffff ∷ live_ttftf ∷ live_t ∷ []; glues = true } ∷
    record { above = live_tf ∷ live_tf ∷ live_t ∷ live_tt ∷ live_tf ∷ []; below = live_tt ∷ live_tt ∷ live_ttf ∷ live_tt ∷ live_tt ∷ live_ttf ∷ live_tf ∷ live_tt ∷ live_tf ∷ live_tff ∷ live_tf ∷ live_tf ∷ live_tt ∷ live_tf ∷ live_tffff ∷ live_ttftf ∷ live_t ∷ []; glues = true } ∷
    record { above = live_tf ∷ live_tf ∷ live_t ∷ live_tf ∷ live_tf ∷ []; below = live_tf ∷ live_tf ∷ live_tft ∷ live_tf ∷ live_tf ∷ live_tff ∷ live_tf ∷ live_tf ∷ live_tf ∷ live_tff ∷ live_tf ∷ live_tf ∷ live_tf ∷ live_tf ∷ live_tffff ∷ live_ttftf ∷ live_t ∷ []; glues = true } ∷
    record { above = live_tf ∷ live_tf ∷ live_t ∷ live_tf ∷ live_tf ∷ []; below = live_tf ∷ live_tf ∷ live_tff ∷ live_tf ∷ live_tf ∷ live_tft ∷ live_tf ∷ live_tf ∷ live_tf ∷ live_tff ∷ live_tf ∷ live_tf ∷ live_tf ∷ live_tf ∷ live_tffff ∷ live_ttftf ∷ live_t ∷ []; glues = true } ∷
    record { above = live_tf ∷ live_tf ∷ live_t ∷ live_tt ∷ live_tf ∷ []; below = live_tt ∷ live_tt ∷ live_ttf ∷ live_tf ∷ live_tf ∷ live_tff ∷ live_tf ∷ live_tt ∷ live_tf ∷ live_tff ∷ live_tf ∷ live_tf ∷ live_tt ∷ live_tf ∷ live_tffff ∷ live_ttftf ∷ live_t ∷ []; glues = true } ∷
    record { above = live_tf ∷ live_tf ∷ live_t ∷ live_tt ∷ live_tf ∷ []; below = live_tf ∷ live_tf ∷ live_tff ∷ live_tf ∷ live_tf ∷ live_tff ∷ live_tt ∷ live_tf ∷ live_tt ∷ live_ttf ∷ live_tt ∷ live_tf ∷ live_tt ∷ live_tf ∷ live_tffff ∷ live_ttftf ∷ live_t ∷ []; glues = true } ∷
    record { above = live_tf ∷ live_tf ∷ live_t ∷ live_tf ∷ live_tf ∷ []; below = live_tf ∷ live_tf ∷ live_tff ∷ live_tf ∷ live_tf ∷ live_tff ∷ live_tf ∷ live_tf ∷ live_tf ∷ live_tft ∷ live_tf ∷ live_tf ∷ live_tf ∷ live_tf ∷ live_tffff ∷ live_ttftf ∷ live_t ∷ []; glues = true } ∷
    record { above = live_tf ∷ live_tf ∷ live_t ∷ live_tt ∷ live_tf ∷ []; below = live_tf ∷ live_tf ∷ live_tff ∷ live_tf ∷ live_tf ∷ live_tff ∷ live_tf ∷ live_tf ∷ live_tf ∷ live_tff ∷ live_tf ∷ live_tf ∷ live_tt ∷ live_tt ∷ live_tffff ∷ live_ttftf ∷ live_t ∷ []; glues = true } ∷
    record { above = live_tf ∷ live_tf ∷ live_t ∷ live_tt ∷ live_tf ∷ []; below = live_tf ∷ live_tf ∷ live_tff ∷ live_tf ∷ live_tf ∷ live_tff ∷ live_tf ∷ live_tf ∷ live_tf ∷ live_tff ∷ live_tf ∷ live_tf ∷ live_tf ∷ live_tf ∷ live_tffff ∷ live_tftft ∷ live_t ∷ []; glues = true } ∷
    record { above = live_tf ∷ live_tf ∷ live_t ∷ live_tt ∷ live_tf ∷ []; below = live_tf ∷ live_tf ∷ live_tff ∷ live_tf ∷ live_tf ∷ live_tff ∷ live_tf ∷ live_tf ∷ live_tf ∷ live_tff ∷ live_tf ∷ live_tf ∷ live_tf ∷ live_tf ∷ live_ttftf ∷ live_tffff ∷ live_t ∷ []; glues = true } ∷
    record { above = live_tf ∷ live_tf ∷ live_t ∷ live_tt ∷ live_tf ∷ []; below = live_tf ∷ live_tf ∷ live_tft ∷ live_tf ∷ live_tf ∷ live_tff ∷ live_tf ∷ live_tf ∷ live_tf ∷ live_tff ∷ live_tf ∷ live_tf ∷ live_tf ∷ live_tf ∷ live_tffff ∷ live_ttftf ∷ live_t ∷ []; glues = true } ∷
    record { above = live_tf ∷ live_tf ∷ live_t ∷ live_tt ∷ live_tf ∷ []; below = live_tf ∷ live_tf ∷ live_tff ∷ live_tf ∷ live_tf ∷ live_tft ∷ live_tf ∷ live_tf ∷ live_tf ∷ live_tff ∷ live_tf ∷ live_tf ∷ live_tf ∷ live_tf ∷ live_tffff ∷ live_ttftf ∷ live_t ∷ []; glues = true } ∷
    record { above = live_tf ∷ live_tf ∷ live_t ∷ live_tt ∷ live_tf ∷ []; below = live_tf ∷ live_tf ∷ live_tff ∷ live_tf ∷ live_tf ∷ live_tff ∷ live_tf ∷ live_tf ∷ live_tf ∷ live_tft ∷ live_tf ∷ live_tf ∷ live_tf ∷ live_tf ∷ live_tffff ∷ live_ttftf ∷ live_t ∷ []; glues = true } ∷
    rest

unfoldable pub befores : List (Before)
befores = befores_0 []

unfoldable pub moves_0 : List (List ℕ) → List (List ℕ)
moves_0 rest =
    (1 ∷ 2 ∷ 3 ∷ 3 ∷ 1 ∷ 4 ∷ 1 ∷ 5 ∷ 6 ∷ 7 ∷ 8 ∷ 1 ∷ 1 ∷ 1 ∷ 1 ∷ 1 ∷ 9 ∷ 10 ∷ 11 ∷ 1 ∷ 8 ∷ []) ∷
    (1 ∷ 2 ∷ 3 ∷ 3 ∷ 1 ∷ 4 ∷ 1 ∷ 12 ∷ 6 ∷ 7 ∷ 8 ∷ 1 ∷ 1 ∷ 1 ∷ 1 ∷ 1 ∷ 9 ∷ 10 ∷ 11 ∷ 1 ∷ 8 ∷ []) ∷
    (1 ∷ 2 ∷ 3 ∷ 3 ∷ 1 ∷ 4 ∷ 1 ∷ 12 ∷ 6 ∷ 7 ∷ 8 ∷ 1 ∷ 1 ∷ 1 ∷ 1 ∷ 1 ∷ 9 ∷ 10 ∷ 11 ∷ 1 ∷ 8 ∷ []) ∷
    (1 ∷ 2 ∷ 3 ∷ 3 ∷ 1 ∷ 4 ∷ 1 ∷ 12 ∷ 6 ∷ 7 ∷ 8 ∷ 1 ∷ 1 ∷ 1 ∷ 1 ∷ 1 ∷ 9 ∷ 10 ∷ 11 ∷ 1 ∷ 8 ∷ []) ∷
    (1 ∷ 2 ∷ 3 ∷ 3 ∷ 1 ∷ 4 ∷ 1 ∷ 12 ∷ 6 ∷ 7 ∷ 8 ∷ 1 ∷ 1 ∷ 1 ∷ 1 ∷ 1 ∷ 9 ∷ 10 ∷ 11 ∷ 1 ∷ 8 ∷ []) ∷
    (1 ∷ 2 ∷ 3 ∷ 3 ∷ 5 ∷ 13 ∷ 5 ∷ 14 ∷ 6 ∷ 7 ∷ 8 ∷ 1 ∷ 1 ∷ 1 ∷ 1 ∷ 1 ∷ 9 ∷ 10 ∷ 11 ∷ 1 ∷ 8 ∷ []) ∷
    (1 ∷ 2 ∷ 3 ∷ 3 ∷ 6 ∷ 15 ∷ 6 ∷ 12 ∷ 6 ∷ 7 ∷ 8 ∷ 1 ∷ 1 ∷ 1 ∷ 1 ∷ 1 ∷ 9 ∷ 10 ∷ 11 ∷ 1 ∷ 8 ∷ []) ∷
    (1 ∷ 2 ∷ 3 ∷ 3 ∷ 7 ∷ 16 ∷ 7 ∷ 12 ∷ 6 ∷ 7 ∷ 8 ∷ 17 ∷ 18 ∷ 17 ∷ 17 ∷ 1 ∷ 9 ∷ 10 ∷ 11 ∷ 1 ∷ 8 ∷ []) ∷
    (1 ∷ 2 ∷ 3 ∷ 3 ∷ 8 ∷ 19 ∷ 8 ∷ 12 ∷ 6 ∷ 7 ∷ 8 ∷ 17 ∷ 1 ∷ 17 ∷ 17 ∷ 1 ∷ 9 ∷ 10 ∷ 11 ∷ 1 ∷ 8 ∷ []) ∷
    (1 ∷ 2 ∷ 3 ∷ 3 ∷ 9 ∷ 20 ∷ 9 ∷ 12 ∷ 6 ∷ 7 ∷ 8 ∷ 21 ∷ 1 ∷ 21 ∷ 1 ∷ 21 ∷ 9 ∷ 10 ∷ 11 ∷ 1 ∷ 8 ∷ []) ∷
    (1 ∷ 2 ∷ 3 ∷ 3 ∷ 10 ∷ 22 ∷ 10 ∷ 12 ∷ 6 ∷ 7 ∷ 8 ∷ 1 ∷ 1 ∷ 1 ∷ 1 ∷ 1 ∷ 9 ∷ 10 ∷ 11 ∷ 1 ∷ 8 ∷ []) ∷
    (1 ∷ 2 ∷ 3 ∷ 3 ∷ 1 ∷ 4 ∷ 1 ∷ 12 ∷ 6 ∷ 7 ∷ 8 ∷ 1 ∷ 1 ∷ 1 ∷ 1 ∷ 1 ∷ 9 ∷ 10 ∷ 11 ∷ 1 ∷ 8 ∷ []) ∷
    (1 ∷ 2 ∷ 3 ∷ 3 ∷ 12 ∷ 23 ∷ 12 ∷ 1 ∷ 6 ∷ 7 ∷ 8 ∷ 1 ∷ 1 ∷ 1 ∷ 1 ∷ 1 ∷ 9 ∷ 10 ∷ 11 ∷ 1 ∷ 8 ∷ []) ∷
    (1 ∷ 2 ∷ 3 ∷ 3 ∷ 5 ∷ 13 ∷ 5 ∷ 14 ∷ 6 ∷ 7 ∷ 8 ∷ 1 ∷ 1 ∷ 1 ∷ 1 ∷ 1 ∷ 9 ∷ 10 ∷ 11 ∷ 1 ∷ 8 ∷ []) ∷
    (1 ∷ 2 ∷ 3 ∷ 3 ∷ 14 ∷ 24 ∷ 14 ∷ 5 ∷ 6 ∷ 7 ∷ 8 ∷ 1 ∷ 1 ∷ 1 ∷ 1 ∷ 1 ∷ 9 ∷ 10 ∷ 11 ∷ 1 ∷ 8 ∷ []) ∷
    (1 ∷ 2 ∷ 3 ∷ 3 ∷ 6 ∷ 15 ∷ 6 ∷ 12 ∷ 6 ∷ 7 ∷ 8 ∷ 1 ∷ 1 ∷ 1 ∷ 1 ∷ 1 ∷ 9 ∷ 10 ∷ 11 ∷ 1 ∷ 8 ∷ []) ∷
    (1 ∷ 2 ∷ 3 ∷ 3 ∷ 7 ∷ 16 ∷ 7 ∷ 12 ∷ 6 ∷ 7 ∷ 8 ∷ 17 ∷ 18 ∷ 17 ∷ 17 ∷ 1 ∷ 9 ∷ 10 ∷ 11 ∷ 1 ∷ 8 ∷ []) ∷
    (1 ∷ 2 ∷ 3 ∷ 3 ∷ 17 ∷ 25 ∷ 17 ∷ 12 ∷ 6 ∷ 7 ∷ 8 ∷ 1 ∷ 1 ∷ 1 ∷ 1 ∷ 1 ∷ 9 ∷ 10 ∷ 11 ∷ 1 ∷ 8 ∷ []) ∷
    (1 ∷ 2 ∷ 3 ∷ 3 ∷ 18 ∷ 26 ∷ 18 ∷ 12 ∷ 6 ∷ 7 ∷ 8 ∷ 1 ∷ 1 ∷ 1 ∷ 1 ∷ 1 ∷ 9 ∷ 10 ∷ 11 ∷ 1 ∷ 8 ∷ []) ∷
    (1 ∷ 2 ∷ 3 ∷ 3 ∷ 8 ∷ 19 ∷ 8 ∷ 12 ∷ 6 ∷ 7 ∷ 8 ∷ 17 ∷ 1 ∷ 17 ∷ 17 ∷ 1 ∷ 9 ∷ 10 ∷ 11 ∷ 1 ∷ 8 ∷ []) ∷
    (1 ∷ 2 ∷ 3 ∷ 3 ∷ 9 ∷ 20 ∷ 9 ∷ 12 ∷ 6 ∷ 7 ∷ 8 ∷ 21 ∷ 1 ∷ 21 ∷ 1 ∷ 21 ∷ 9 ∷ 10 ∷ 11 ∷ 1 ∷ 8 ∷ []) ∷
    (1 ∷ 2 ∷ 3 ∷ 3 ∷ 21 ∷ 27 ∷ 21 ∷ 12 ∷ 6 ∷ 7 ∷ 8 ∷ 1 ∷ 1 ∷ 1 ∷ 1 ∷ 1 ∷ 9 ∷ 10 ∷ 11 ∷ 1 ∷ 8 ∷ []) ∷
    (1 ∷ 2 ∷ 3 ∷ 3 ∷ 10 ∷ 22 ∷ 10 ∷ 12 ∷ 6 ∷ 7 ∷ 8 ∷ 1 ∷ 1 ∷ 1 ∷ 1 ∷ 1 ∷ 9 ∷ 10 ∷ 11 ∷ 1 ∷ 8 ∷ []) ∷
    (1 ∷ 2 ∷ 3 ∷ 3 ∷ 12 ∷ 23 ∷ 12 ∷ 1 ∷ 6 ∷ 7 ∷ 8 ∷ 1 ∷ 1 ∷ 1 ∷ 1 ∷ 1 ∷ 9 ∷ 10 ∷ 11 ∷ 1 ∷ 8 ∷ []) ∷
    (1 ∷ 2 ∷ 3 ∷ 3 ∷ 14 ∷ 24 ∷ 14 ∷ 5 ∷ 6 ∷ 7 ∷ 8 ∷ 1 ∷ 1 ∷ 1 ∷ 1 ∷ 1 ∷ 9 ∷ 10 ∷ 11 ∷ 1 ∷ 8 ∷ []) ∷
    (1 ∷ 2 ∷ 3 ∷ 3 ∷ 17 ∷ 25 ∷ 17 ∷ 12 ∷ 6 ∷ 7 ∷ 8 ∷ 1 ∷ 1 ∷ 1 ∷ 1 ∷ 1 ∷ 9 ∷ 10 ∷ 11 ∷ 1 ∷ 8 ∷ []) ∷
    (1 ∷ 2 ∷ 3 ∷ 3 ∷ 18 ∷ 26 ∷ 18 ∷ 12 ∷ 6 ∷ 7 ∷ 8 ∷ 1 ∷ 1 ∷ 1 ∷ 1 ∷ 1 ∷ 9 ∷ 10 ∷ 11 ∷ 1 ∷ 8 ∷ []) ∷
    (1 ∷ 2 ∷ 3 ∷ 3 ∷ 21 ∷ 27 ∷ 21 ∷ 12 ∷ 6 ∷ 7 ∷ 8 ∷ 1 ∷ 1 ∷ 1 ∷ 1 ∷ 1 ∷ 9 ∷ 10 ∷ 11 ∷ 1 ∷ 8 ∷ []) ∷
    rest

unfoldable pub moves : List (List ℕ)
moves = moves_0 []

unfoldable pub owes_0 : List (ℕ) → List (ℕ)
owes_0 rest =
    3 ∷ 3 ∷ 4 ∷ 1 ∷ 5 ∷ 6 ∷ 7 ∷ 8 ∷ 9 ∷ 10 ∷ 11 ∷ 12 ∷ 13 ∷ 14 ∷ 3 ∷ 15 ∷ 16 ∷ 17 ∷ 18 ∷ 19 ∷ 20 ∷ 21 ∷ 22 ∷ 23 ∷ 5 ∷
    24 ∷ 25 ∷ 26 ∷
    rest

unfoldable pub owes : List (ℕ)
owes = owes_0 []

unfoldable pub dues : List Due
dues =
    DueOf (Owed ((28, One) ∷ []) live_tf 1 false ∷ Marks ∷ []) 1 ∷ DueOf (Owed ((8, One) ∷ []) live_tf 0 false ∷ []) 1 ∷
    DueOf (Owed ((28, One) ∷ []) live_tf 1 false ∷ Owed ((3145728, One) ∷ []) live_tf 0 false ∷ Marks ∷ []) 1 ∷
    DueOf (Owed ((28, One) ∷ []) live_tf 1 false ∷ Marks ∷ Owed ((256, One) ∷ []) live_tf 0 true ∷ []) 1 ∷
    DueOf (Owed ((28, One) ∷ []) live_tf 1 false ∷ Marks ∷ Owed ((512, One) ∷ []) live_tf 0 true ∷ Owed ((262144, One) ∷ []) live_tf 0 true ∷ []) 1 ∷
    DueOf (Owed ((28, One) ∷ []) live_tf 1 false ∷ Marks ∷ Owed ((2100224, One) ∷ []) live_tf 0 true ∷ Owed ((53248, One) ∷ (2100224, One) ∷ []) live_tff 0 true ∷ Owed ((4096, One) ∷ []) live_tf 0 true ∷ Owed ((8192, One) ∷ (1024, One) ∷ []) live_tff 0 true ∷ Owed ((131072, One) ∷ []) live_tf 0 true ∷ Owed ((262144, One) ∷ []) live_tf 0 true ∷ []) 1 ∷
    DueOf (Owed ((28, One) ∷ []) live_tf 1 false ∷ Marks ∷ Owed ((2100224, One) ∷ []) live_tf 0 true ∷ Owed ((53248, One) ∷ (2100224, One) ∷ []) live_tff 0 true ∷ Owed ((131072, One) ∷ []) live_tf 0 true ∷ Owed ((262144, One) ∷ []) live_tf 0 true ∷ []) 1 ∷
    DueOf (Owed ((28, One) ∷ []) live_tf 1 false ∷ Marks ∷ Owed ((131072, One) ∷ []) live_tf 0 true ∷ Owed ((2100224, One) ∷ []) live_tf 0 true ∷ Owed ((86016, One) ∷ (131072, One) ∷ []) live_tff 0 true ∷ Owed ((262144, One) ∷ []) live_tf 0 true ∷ []) 1 ∷
    DueOf (Owed ((28, One) ∷ []) live_tf 1 false ∷ Marks ∷ Owed ((262144, One) ∷ []) live_tf 0 true ∷ Owed ((2231808, One) ∷ []) live_tf 0 true ∷ []) 1 ∷
    DueOf (Owed ((28, One) ∷ []) live_tf 1 false ∷ Owed ((524288, One) ∷ []) live_tf 0 false ∷ Marks ∷ []) 1 ∷
    DueOf (Owed ((28, One) ∷ []) live_tf 1 false ∷ Marks ∷ Owed ((256, One) ∷ []) live_tf 0 true ∷ []) 1 ∷
    DueOf (Owed ((28, One) ∷ []) live_tf 1 false ∷ Owed ((3145728, One) ∷ []) live_tf 0 false ∷ Marks ∷ Owed ((256, One) ∷ []) live_tf 0 true ∷ []) 1 ∷
    DueOf (Owed ((28, One) ∷ []) live_tf 1 false ∷ Owed ((3145728, One) ∷ []) live_tf 0 false ∷ Marks ∷ Owed ((512, One) ∷ []) live_tf 0 true ∷ Owed ((262144, One) ∷ []) live_tf 0 true ∷ []) 1 ∷
    DueOf (Owed ((28, One) ∷ []) live_tf 1 false ∷ Owed ((3145728, One) ∷ []) live_tf 0 false ∷ Marks ∷ Owed ((2100224, One) ∷ []) live_tf 0 true ∷ Owed ((53248, One) ∷ (2100224, One) ∷ []) live_tff 0 true ∷ Owed ((4096, One) ∷ []) live_tf 0 true ∷ Owed ((8192, One) ∷ (1024, One) ∷ []) live_tff 0 true ∷ Owed ((131072, One) ∷ []) live_tf 0 true ∷ Owed ((262144, One) ∷ []) live_tf 0 true ∷ []) 1 ∷
    DueOf (Owed ((28, One) ∷ []) live_tf 1 false ∷ Marks ∷ Owed ((2100224, One) ∷ []) live_tf 0 true ∷ []) 1 ∷
    DueOf (Owed ((28, One) ∷ []) live_tf 1 false ∷ Marks ∷ Owed ((1024, One) ∷ []) live_tf 0 true ∷ []) 1 ∷
    DueOf (Owed ((28, One) ∷ []) live_tf 1 false ∷ Owed ((3145728, One) ∷ []) live_tf 0 false ∷ Marks ∷ Owed ((2100224, One) ∷ []) live_tf 0 true ∷ Owed ((53248, One) ∷ (2100224, One) ∷ []) live_tff 0 true ∷ Owed ((131072, One) ∷ []) live_tf 0 true ∷ Owed ((262144, One) ∷ []) live_tf 0 true ∷ []) 1 ∷
    DueOf (Owed ((28, One) ∷ []) live_tf 1 false ∷ Owed ((3145728, One) ∷ []) live_tf 0 false ∷ Marks ∷ Owed ((131072, One) ∷ []) live_tf 0 true ∷ Owed ((2100224, One) ∷ []) live_tf 0 true ∷ Owed ((86016, One) ∷ (131072, One) ∷ []) live_tff 0 true ∷ Owed ((262144, One) ∷ []) live_tf 0 true ∷ []) 1 ∷
    DueOf (Owed ((28, One) ∷ []) live_tf 1 false ∷ Marks ∷ Owed ((131072, One) ∷ []) live_tf 0 true ∷ []) 1 ∷
    DueOf (Owed ((28, One) ∷ []) live_tf 1 false ∷ Owed ((3145728, One) ∷ []) live_tf 0 false ∷ Marks ∷ Owed ((262144, One) ∷ []) live_tf 0 true ∷ Owed ((2231808, One) ∷ []) live_tf 0 true ∷ []) 1 ∷
    DueOf (Owed ((28, One) ∷ []) live_tf 1 false ∷ Owed ((3145728, One) ∷ []) live_tf 0 false ∷ Marks ∷ Owed ((256, One) ∷ []) live_tf 0 true ∷ []) 1 ∷
    DueOf (Owed ((28, One) ∷ []) live_tf 1 false ∷ Owed ((3145728, One) ∷ []) live_tf 0 false ∷ Marks ∷ Owed ((2100224, One) ∷ []) live_tf 0 true ∷ []) 1 ∷
    DueOf (Owed ((28, One) ∷ []) live_tf 1 false ∷ Owed ((3145728, One) ∷ []) live_tf 0 false ∷ Marks ∷ Owed ((1024, One) ∷ []) live_tf 0 true ∷ []) 1 ∷
    DueOf (Owed ((28, One) ∷ []) live_tf 1 false ∷ Owed ((3145728, One) ∷ []) live_tf 0 false ∷ Marks ∷ Owed ((131072, One) ∷ []) live_tf 0 true ∷ []) 1 ∷
    DueOf (Owed ((8192, One) ∷ (1024, One) ∷ []) live_ftf 0 true ∷ []) 1 ∷
    DueOf (Owed ((53248, One) ∷ (2100224, One) ∷ []) live_ftf 0 true ∷ []) 1 ∷
    DueOf (Owed ((86016, One) ∷ (131072, One) ∷ []) live_ftf 0 true ∷ []) 1 ∷
    []

unfoldable pub reads : List (List (ℕ × ℕ))
reads =
    ((0, 0) ∷ (0, 0) ∷ (0, 0) ∷ (0, 0) ∷ (0, 0) ∷ (0, 0) ∷ (0, 0) ∷ (0, 0) ∷ (0, 0) ∷ (0, 0) ∷ (0, 0) ∷ (0, 0) ∷ (0, 0) ∷ (0, 0) ∷ (0, 0) ∷ (0, 0) ∷ (0, 0) ∷ (0, 0) ∷ (0, 0) ∷ (0, 0) ∷ (0, 0) ∷ (0, 0) ∷ []) ∷
    ((1, 1) ∷ (1, 1) ∷ (1, 1) ∷ (1, 1) ∷ (1, 1) ∷ (1, 1) ∷ (1, 1) ∷ (1, 1) ∷ (1, 1) ∷ (1, 1) ∷ (1, 1) ∷ (1, 1) ∷ (1, 1) ∷ (1, 1) ∷ (1, 1) ∷ (1, 1) ∷ (1, 1) ∷ (1, 1) ∷ (1, 1) ∷ (1, 1) ∷ (1, 1) ∷ (1, 1) ∷ []) ∷
    ((2, 2) ∷ (2, 2) ∷ (2, 2) ∷ (2, 2) ∷ (2, 2) ∷ (2, 2) ∷ (2, 2) ∷ (2, 2) ∷ (2, 2) ∷ (2, 2) ∷ (2, 2) ∷ (2, 2) ∷ (2, 2) ∷ (2, 2) ∷ (2, 2) ∷ (2, 2) ∷ (2, 2) ∷ (2, 2) ∷ (2, 2) ∷ (2, 2) ∷ (2, 2) ∷ (2, 2) ∷ []) ∷
    ((1, 1) ∷ (1, 1) ∷ (1, 1) ∷ (1, 1) ∷ (1, 1) ∷ (1, 0) ∷ (1, 0) ∷ (1, 0) ∷ (1, 1) ∷ (1, 1) ∷ (1, 1) ∷ (1, 1) ∷ (1, 1) ∷ (1, 1) ∷ (1, 1) ∷ (1, 1) ∷ (1, 1) ∷ (1, 1) ∷ (1, 1) ∷ (1, 1) ∷ (1, 1) ∷ (1, 1) ∷ []) ∷
    ((1, 1) ∷ (1, 1) ∷ (1, 1) ∷ (0, 0) ∷ (1, 1) ∷ (1, 1) ∷ (1, 1) ∷ (1, 1) ∷ (1, 1) ∷ (1, 1) ∷ (1, 1) ∷ (1, 1) ∷ (1, 1) ∷ (1, 1) ∷ (1, 1) ∷ (1, 1) ∷ (1, 1) ∷ (1, 1) ∷ (1, 1) ∷ (1, 1) ∷ (1, 1) ∷ (1, 1) ∷ []) ∷
    ((1, 1) ∷ (1, 1) ∷ (1, 1) ∷ (1, 1) ∷ (1, 1) ∷ (1, 0) ∷ (1, 0) ∷ (1, 0) ∷ (1, 1) ∷ (1, 1) ∷ (1, 1) ∷ (1, 1) ∷ (1, 1) ∷ (1, 1) ∷ (1, 1) ∷ (1, 1) ∷ (1, 1) ∷ (1, 1) ∷ (1, 1) ∷ (1, 1) ∷ (0, 0) ∷ (0, 0) ∷ []) ∷
    ((1, 1) ∷ (1, 1) ∷ (1, 1) ∷ (1, 1) ∷ (1, 1) ∷ (1, 0) ∷ (1, 0) ∷ (1, 0) ∷ (0, 0) ∷ (1, 1) ∷ (1, 1) ∷ (1, 1) ∷ (1, 1) ∷ (1, 1) ∷ (1, 1) ∷ (1, 1) ∷ (1, 1) ∷ (1, 1) ∷ (1, 1) ∷ (1, 1) ∷ (1, 1) ∷ (1, 1) ∷ []) ∷
    ((1, 1) ∷ (1, 1) ∷ (1, 1) ∷ (1, 1) ∷ (1, 1) ∷ (1, 0) ∷ (1, 0) ∷ (1, 0) ∷ (1, 1) ∷ (0, 0) ∷ (1, 1) ∷ (1, 1) ∷ (1, 1) ∷ (1, 1) ∷ (1, 1) ∷ (1, 1) ∷ (1, 1) ∷ (1, 1) ∷ (0, 0) ∷ (1, 1) ∷ (1, 1) ∷ (1, 1) ∷ []) ∷
    ((1, 1) ∷ (1, 1) ∷ (1, 1) ∷ (1, 1) ∷ (1, 1) ∷ (1, 0) ∷ (1, 0) ∷ (1, 0) ∷ (1, 1) ∷ (1, 1) ∷ (0, 0) ∷ (0, 0) ∷ (0, 0) ∷ (27, 27) ∷ (28, 28) ∷ (28, 28) ∷ (1, 1) ∷ (0, 0) ∷ (0, 0) ∷ (1, 1) ∷ (1, 1) ∷ (0, 0) ∷ []) ∷
    ((1, 1) ∷ (1, 1) ∷ (1, 1) ∷ (1, 1) ∷ (1, 1) ∷ (1, 0) ∷ (1, 0) ∷ (1, 0) ∷ (1, 1) ∷ (1, 1) ∷ (0, 0) ∷ (0, 0) ∷ (28, 28) ∷ (1, 1) ∷ (28, 28) ∷ (28, 28) ∷ (1, 1) ∷ (0, 0) ∷ (0, 0) ∷ (1, 1) ∷ (1, 1) ∷ (0, 0) ∷ []) ∷
    ((1, 1) ∷ (1, 1) ∷ (1, 1) ∷ (1, 1) ∷ (1, 1) ∷ (1, 0) ∷ (1, 0) ∷ (1, 0) ∷ (1, 1) ∷ (1, 1) ∷ (0, 0) ∷ (0, 0) ∷ (29, 29) ∷ (1, 1) ∷ (29, 29) ∷ (1, 1) ∷ (29, 29) ∷ (0, 0) ∷ (0, 0) ∷ (1, 1) ∷ (1, 1) ∷ (0, 0) ∷ []) ∷
    ((1, 1) ∷ (1, 1) ∷ (1, 1) ∷ (1, 1) ∷ (1, 1) ∷ (1, 0) ∷ (1, 0) ∷ (1, 0) ∷ (1, 1) ∷ (0, 0) ∷ (0, 0) ∷ (0, 0) ∷ (1, 1) ∷ (1, 1) ∷ (1, 1) ∷ (1, 1) ∷ (1, 1) ∷ (0, 0) ∷ (0, 0) ∷ (1, 1) ∷ (1, 1) ∷ (0, 0) ∷ []) ∷
    ((1, 1) ∷ (1, 1) ∷ (1, 1) ∷ (1, 1) ∷ (1, 1) ∷ (1, 0) ∷ (1, 0) ∷ (1, 0) ∷ (1, 1) ∷ (1, 1) ∷ (1, 1) ∷ (1, 1) ∷ (1, 1) ∷ (1, 1) ∷ (1, 1) ∷ (1, 1) ∷ (1, 1) ∷ (1, 1) ∷ (1, 1) ∷ (0, 0) ∷ (1, 1) ∷ (1, 1) ∷ []) ∷
    ((1, 1) ∷ (1, 1) ∷ (1, 1) ∷ (1, 1) ∷ (1, 1) ∷ (1, 0) ∷ (1, 0) ∷ (1, 0) ∷ (0, 0) ∷ (1, 1) ∷ (1, 1) ∷ (1, 1) ∷ (1, 1) ∷ (1, 1) ∷ (1, 1) ∷ (1, 1) ∷ (1, 1) ∷ (1, 1) ∷ (1, 1) ∷ (1, 1) ∷ (1, 1) ∷ (1, 1) ∷ []) ∷
    ((1, 1) ∷ (1, 1) ∷ (1, 1) ∷ (1, 1) ∷ (1, 1) ∷ (1, 0) ∷ (1, 0) ∷ (1, 0) ∷ (0, 0) ∷ (1, 1) ∷ (1, 1) ∷ (1, 1) ∷ (1, 1) ∷ (1, 1) ∷ (1, 1) ∷ (1, 1) ∷ (1, 1) ∷ (1, 1) ∷ (1, 1) ∷ (1, 1) ∷ (0, 0) ∷ (0, 0) ∷ []) ∷
    ((1, 1) ∷ (1, 1) ∷ (1, 1) ∷ (1, 1) ∷ (1, 1) ∷ (1, 0) ∷ (1, 0) ∷ (1, 0) ∷ (1, 1) ∷ (0, 0) ∷ (1, 1) ∷ (1, 1) ∷ (1, 1) ∷ (1, 1) ∷ (1, 1) ∷ (1, 1) ∷ (1, 1) ∷ (1, 1) ∷ (0, 0) ∷ (1, 1) ∷ (0, 0) ∷ (0, 0) ∷ []) ∷
    ((1, 1) ∷ (1, 1) ∷ (1, 1) ∷ (1, 1) ∷ (1, 1) ∷ (1, 0) ∷ (1, 0) ∷ (1, 0) ∷ (1, 1) ∷ (1, 1) ∷ (0, 0) ∷ (0, 0) ∷ (0, 0) ∷ (27, 27) ∷ (28, 28) ∷ (28, 28) ∷ (1, 1) ∷ (0, 0) ∷ (0, 0) ∷ (1, 1) ∷ (0, 0) ∷ (0, 0) ∷ []) ∷
    ((1, 1) ∷ (1, 1) ∷ (1, 1) ∷ (1, 1) ∷ (1, 1) ∷ (1, 0) ∷ (1, 0) ∷ (1, 0) ∷ (1, 1) ∷ (1, 1) ∷ (0, 0) ∷ (0, 0) ∷ (1, 1) ∷ (1, 1) ∷ (1, 1) ∷ (1, 1) ∷ (1, 1) ∷ (1, 1) ∷ (1, 1) ∷ (1, 1) ∷ (1, 1) ∷ (0, 0) ∷ []) ∷
    ((1, 1) ∷ (1, 1) ∷ (1, 1) ∷ (1, 1) ∷ (1, 1) ∷ (1, 0) ∷ (1, 0) ∷ (1, 0) ∷ (1, 1) ∷ (1, 1) ∷ (0, 0) ∷ (1, 1) ∷ (1, 1) ∷ (1, 1) ∷ (1, 1) ∷ (1, 1) ∷ (1, 1) ∷ (1, 1) ∷ (1, 1) ∷ (1, 1) ∷ (1, 1) ∷ (1, 1) ∷ []) ∷
    ((1, 1) ∷ (1, 1) ∷ (1, 1) ∷ (1, 1) ∷ (1, 1) ∷ (1, 0) ∷ (1, 0) ∷ (1, 0) ∷ (1, 1) ∷ (1, 1) ∷ (0, 0) ∷ (0, 0) ∷ (28, 28) ∷ (1, 1) ∷ (28, 28) ∷ (28, 28) ∷ (1, 1) ∷ (0, 0) ∷ (0, 0) ∷ (1, 1) ∷ (0, 0) ∷ (0, 0) ∷ []) ∷
    ((1, 1) ∷ (1, 1) ∷ (1, 1) ∷ (1, 1) ∷ (1, 1) ∷ (1, 0) ∷ (1, 0) ∷ (1, 0) ∷ (1, 1) ∷ (1, 1) ∷ (0, 0) ∷ (0, 0) ∷ (29, 29) ∷ (1, 1) ∷ (29, 29) ∷ (1, 1) ∷ (29, 29) ∷ (0, 0) ∷ (0, 0) ∷ (1, 1) ∷ (0, 0) ∷ (0, 0) ∷ []) ∷
    ((1, 1) ∷ (1, 1) ∷ (1, 1) ∷ (1, 1) ∷ (1, 1) ∷ (1, 0) ∷ (1, 0) ∷ (1, 0) ∷ (1, 1) ∷ (1, 1) ∷ (1, 1) ∷ (1, 1) ∷ (1, 1) ∷ (1, 1) ∷ (1, 1) ∷ (1, 1) ∷ (1, 1) ∷ (0, 0) ∷ (1, 1) ∷ (1, 1) ∷ (1, 1) ∷ (1, 1) ∷ []) ∷
    ((1, 1) ∷ (1, 1) ∷ (1, 1) ∷ (1, 1) ∷ (1, 1) ∷ (1, 0) ∷ (1, 0) ∷ (1, 0) ∷ (1, 1) ∷ (0, 0) ∷ (0, 0) ∷ (0, 0) ∷ (1, 1) ∷ (1, 1) ∷ (1, 1) ∷ (1, 1) ∷ (1, 1) ∷ (0, 0) ∷ (0, 0) ∷ (1, 1) ∷ (0, 0) ∷ (0, 0) ∷ []) ∷
    ((1, 1) ∷ (1, 1) ∷ (1, 1) ∷ (1, 1) ∷ (1, 1) ∷ (1, 0) ∷ (1, 0) ∷ (1, 0) ∷ (0, 0) ∷ (1, 1) ∷ (1, 1) ∷ (1, 1) ∷ (1, 1) ∷ (1, 1) ∷ (1, 1) ∷ (1, 1) ∷ (1, 1) ∷ (1, 1) ∷ (1, 1) ∷ (1, 1) ∷ (0, 0) ∷ (0, 0) ∷ []) ∷
    ((1, 1) ∷ (1, 1) ∷ (1, 1) ∷ (1, 1) ∷ (1, 1) ∷ (1, 0) ∷ (1, 0) ∷ (1, 0) ∷ (1, 1) ∷ (1, 1) ∷ (0, 0) ∷ (0, 0) ∷ (1, 1) ∷ (1, 1) ∷ (1, 1) ∷ (1, 1) ∷ (1, 1) ∷ (1, 1) ∷ (1, 1) ∷ (1, 1) ∷ (0, 0) ∷ (0, 0) ∷ []) ∷
    ((1, 1) ∷ (1, 1) ∷ (1, 1) ∷ (1, 1) ∷ (1, 1) ∷ (1, 0) ∷ (1, 0) ∷ (1, 0) ∷ (1, 1) ∷ (1, 1) ∷ (0, 0) ∷ (1, 1) ∷ (1, 1) ∷ (1, 1) ∷ (1, 1) ∷ (1, 1) ∷ (1, 1) ∷ (1, 1) ∷ (1, 1) ∷ (1, 1) ∷ (0, 0) ∷ (0, 0) ∷ []) ∷
    ((1, 1) ∷ (1, 1) ∷ (1, 1) ∷ (1, 1) ∷ (1, 1) ∷ (1, 0) ∷ (1, 0) ∷ (1, 0) ∷ (1, 1) ∷ (1, 1) ∷ (1, 1) ∷ (1, 1) ∷ (1, 1) ∷ (1, 1) ∷ (1, 1) ∷ (1, 1) ∷ (1, 1) ∷ (0, 0) ∷ (1, 1) ∷ (1, 1) ∷ (0, 0) ∷ (0, 0) ∷ []) ∷
    ((1, 1) ∷ (1, 1) ∷ (1, 1) ∷ (1, 1) ∷ (1, 1) ∷ (1, 27) ∷ (1, 27) ∷ (1, 27) ∷ (1, 1) ∷ (1, 1) ∷ (0, 0) ∷ (1, 1) ∷ (1, 1) ∷ (1, 1) ∷ (1, 1) ∷ (1, 1) ∷ (1, 1) ∷ (1, 1) ∷ (1, 1) ∷ (1, 1) ∷ (1, 1) ∷ (1, 1) ∷ []) ∷
    ((1, 1) ∷ (1, 1) ∷ (1, 1) ∷ (1, 1) ∷ (1, 1) ∷ (1, 28) ∷ (1, 28) ∷ (1, 28) ∷ (1, 1) ∷ (1, 1) ∷ (0, 0) ∷ (0, 0) ∷ (1, 1) ∷ (1, 1) ∷ (1, 1) ∷ (1, 1) ∷ (1, 1) ∷ (1, 1) ∷ (1, 1) ∷ (1, 1) ∷ (1, 1) ∷ (0, 0) ∷ []) ∷
    ((1, 1) ∷ (1, 1) ∷ (1, 1) ∷ (1, 1) ∷ (1, 1) ∷ (1, 29) ∷ (1, 29) ∷ (1, 29) ∷ (1, 1) ∷ (1, 1) ∷ (1, 1) ∷ (1, 1) ∷ (1, 1) ∷ (1, 1) ∷ (1, 1) ∷ (1, 1) ∷ (1, 1) ∷ (0, 0) ∷ (1, 1) ∷ (1, 1) ∷ (1, 1) ∷ (1, 1) ∷ []) ∷
    []

unfoldable pub tables : Tables
tables = record { befores = befores; moves = moves; owes = owes; dues = dues; reads = reads }

unfoldable pub accepts : List (ℕ × ℕ × Bool)
accepts =
    (0, 0, false) ∷ (1, 0, false) ∷ (1, 0, false) ∷ (1, 0, false) ∷ (1, 0, false) ∷ (1, 0, false) ∷ (1, 0, false) ∷
    (1, 0, false) ∷ (1, 0, false) ∷ (1, 0, false) ∷ (1, 0, false) ∷ (1, 0, false) ∷ (1, 0, false) ∷ (1, 0, false) ∷
    (1, 0, false) ∷ (1, 0, false) ∷ (1, 0, false) ∷ (1, 0, false) ∷ (1, 0, false) ∷ (1, 0, false) ∷ (0, 0, false) ∷
    (0, 0, false) ∷ (0, 0, false) ∷
    []

unfoldable pub nexts : List (List ℕ)
nexts =
    (255 ∷ 1 ∷ 2 ∷ 3 ∷ 3 ∷ 1 ∷ 5 ∷ 1 ∷ 18 ∷ 12 ∷ 8 ∷ 6 ∷ 1 ∷ 1 ∷ 1 ∷ 1 ∷ 1 ∷ 10 ∷ 14 ∷ 4 ∷ 1 ∷ 6 ∷ []) ∷
    (255 ∷ 255 ∷ 255 ∷ 255 ∷ 255 ∷ 1 ∷ 5 ∷ 1 ∷ 255 ∷ 255 ∷ 255 ∷ 255 ∷ 255 ∷ 255 ∷ 255 ∷ 255 ∷ 255 ∷ 255 ∷ 255 ∷ 255 ∷ 255 ∷ 255 ∷ []) ∷
    (255 ∷ 255 ∷ 255 ∷ 3 ∷ 255 ∷ 255 ∷ 255 ∷ 255 ∷ 255 ∷ 255 ∷ 255 ∷ 255 ∷ 255 ∷ 255 ∷ 255 ∷ 255 ∷ 255 ∷ 255 ∷ 255 ∷ 255 ∷ 255 ∷ 255 ∷ []) ∷
    (255 ∷ 255 ∷ 255 ∷ 255 ∷ 255 ∷ 255 ∷ 255 ∷ 255 ∷ 255 ∷ 255 ∷ 255 ∷ 255 ∷ 255 ∷ 255 ∷ 255 ∷ 255 ∷ 255 ∷ 255 ∷ 255 ∷ 255 ∷ 255 ∷ 255 ∷ []) ∷
    (255 ∷ 255 ∷ 255 ∷ 255 ∷ 255 ∷ 1 ∷ 5 ∷ 1 ∷ 255 ∷ 255 ∷ 255 ∷ 255 ∷ 255 ∷ 255 ∷ 255 ∷ 255 ∷ 255 ∷ 255 ∷ 255 ∷ 4 ∷ 255 ∷ 255 ∷ []) ∷
    (255 ∷ 255 ∷ 255 ∷ 255 ∷ 255 ∷ 1 ∷ 5 ∷ 1 ∷ 255 ∷ 255 ∷ 255 ∷ 255 ∷ 255 ∷ 255 ∷ 255 ∷ 255 ∷ 255 ∷ 255 ∷ 255 ∷ 255 ∷ 1 ∷ 6 ∷ []) ∷
    (255 ∷ 255 ∷ 255 ∷ 255 ∷ 255 ∷ 6 ∷ 7 ∷ 6 ∷ 255 ∷ 255 ∷ 8 ∷ 6 ∷ 20 ∷ 255 ∷ 20 ∷ 20 ∷ 255 ∷ 10 ∷ 14 ∷ 255 ∷ 255 ∷ 6 ∷ []) ∷
    (255 ∷ 255 ∷ 255 ∷ 255 ∷ 255 ∷ 6 ∷ 7 ∷ 6 ∷ 255 ∷ 255 ∷ 8 ∷ 6 ∷ 20 ∷ 255 ∷ 20 ∷ 20 ∷ 255 ∷ 10 ∷ 14 ∷ 255 ∷ 1 ∷ 6 ∷ []) ∷
    (255 ∷ 255 ∷ 255 ∷ 255 ∷ 255 ∷ 8 ∷ 9 ∷ 8 ∷ 255 ∷ 255 ∷ 8 ∷ 6 ∷ 16 ∷ 21 ∷ 20 ∷ 20 ∷ 255 ∷ 10 ∷ 14 ∷ 255 ∷ 255 ∷ 6 ∷ []) ∷
    (255 ∷ 255 ∷ 255 ∷ 255 ∷ 255 ∷ 8 ∷ 9 ∷ 8 ∷ 255 ∷ 255 ∷ 8 ∷ 6 ∷ 16 ∷ 21 ∷ 20 ∷ 20 ∷ 255 ∷ 10 ∷ 14 ∷ 255 ∷ 1 ∷ 6 ∷ []) ∷
    (255 ∷ 255 ∷ 255 ∷ 255 ∷ 255 ∷ 10 ∷ 11 ∷ 10 ∷ 255 ∷ 255 ∷ 8 ∷ 6 ∷ 22 ∷ 255 ∷ 22 ∷ 255 ∷ 22 ∷ 10 ∷ 14 ∷ 255 ∷ 255 ∷ 6 ∷ []) ∷
    (255 ∷ 255 ∷ 255 ∷ 255 ∷ 255 ∷ 10 ∷ 11 ∷ 10 ∷ 255 ∷ 255 ∷ 8 ∷ 6 ∷ 22 ∷ 255 ∷ 22 ∷ 255 ∷ 22 ∷ 10 ∷ 14 ∷ 255 ∷ 1 ∷ 6 ∷ []) ∷
    (255 ∷ 255 ∷ 255 ∷ 255 ∷ 255 ∷ 12 ∷ 13 ∷ 12 ∷ 255 ∷ 12 ∷ 255 ∷ 255 ∷ 255 ∷ 255 ∷ 255 ∷ 255 ∷ 255 ∷ 255 ∷ 14 ∷ 255 ∷ 255 ∷ 255 ∷ []) ∷
    (255 ∷ 255 ∷ 255 ∷ 255 ∷ 255 ∷ 12 ∷ 13 ∷ 12 ∷ 255 ∷ 12 ∷ 255 ∷ 255 ∷ 255 ∷ 255 ∷ 255 ∷ 255 ∷ 255 ∷ 255 ∷ 14 ∷ 255 ∷ 1 ∷ 6 ∷ []) ∷
    (255 ∷ 255 ∷ 255 ∷ 255 ∷ 255 ∷ 14 ∷ 15 ∷ 14 ∷ 255 ∷ 12 ∷ 8 ∷ 6 ∷ 255 ∷ 255 ∷ 255 ∷ 255 ∷ 255 ∷ 10 ∷ 14 ∷ 255 ∷ 255 ∷ 6 ∷ []) ∷
    (255 ∷ 255 ∷ 255 ∷ 255 ∷ 255 ∷ 14 ∷ 15 ∷ 14 ∷ 255 ∷ 12 ∷ 8 ∷ 6 ∷ 255 ∷ 255 ∷ 255 ∷ 255 ∷ 255 ∷ 10 ∷ 14 ∷ 255 ∷ 1 ∷ 6 ∷ []) ∷
    (255 ∷ 255 ∷ 255 ∷ 255 ∷ 255 ∷ 16 ∷ 17 ∷ 16 ∷ 255 ∷ 255 ∷ 8 ∷ 6 ∷ 255 ∷ 255 ∷ 255 ∷ 255 ∷ 255 ∷ 255 ∷ 255 ∷ 255 ∷ 255 ∷ 6 ∷ []) ∷
    (255 ∷ 255 ∷ 255 ∷ 255 ∷ 255 ∷ 16 ∷ 17 ∷ 16 ∷ 255 ∷ 255 ∷ 8 ∷ 6 ∷ 255 ∷ 255 ∷ 255 ∷ 255 ∷ 255 ∷ 255 ∷ 255 ∷ 255 ∷ 1 ∷ 6 ∷ []) ∷
    (255 ∷ 255 ∷ 255 ∷ 255 ∷ 255 ∷ 18 ∷ 19 ∷ 18 ∷ 1 ∷ 255 ∷ 255 ∷ 255 ∷ 255 ∷ 255 ∷ 255 ∷ 255 ∷ 255 ∷ 255 ∷ 255 ∷ 255 ∷ 255 ∷ 255 ∷ []) ∷
    (255 ∷ 255 ∷ 255 ∷ 255 ∷ 255 ∷ 18 ∷ 19 ∷ 18 ∷ 1 ∷ 255 ∷ 255 ∷ 255 ∷ 255 ∷ 255 ∷ 255 ∷ 255 ∷ 255 ∷ 255 ∷ 255 ∷ 255 ∷ 1 ∷ 6 ∷ []) ∷
    (255 ∷ 255 ∷ 255 ∷ 255 ∷ 255 ∷ 20 ∷ 20 ∷ 20 ∷ 255 ∷ 255 ∷ 8 ∷ 6 ∷ 255 ∷ 255 ∷ 255 ∷ 255 ∷ 255 ∷ 255 ∷ 255 ∷ 255 ∷ 255 ∷ 6 ∷ []) ∷
    (255 ∷ 255 ∷ 255 ∷ 255 ∷ 255 ∷ 21 ∷ 21 ∷ 21 ∷ 255 ∷ 255 ∷ 8 ∷ 255 ∷ 255 ∷ 255 ∷ 255 ∷ 255 ∷ 255 ∷ 255 ∷ 255 ∷ 255 ∷ 255 ∷ 255 ∷ []) ∷
    (255 ∷ 255 ∷ 255 ∷ 255 ∷ 255 ∷ 22 ∷ 22 ∷ 22 ∷ 255 ∷ 255 ∷ 255 ∷ 255 ∷ 255 ∷ 255 ∷ 255 ∷ 255 ∷ 255 ∷ 10 ∷ 255 ∷ 255 ∷ 255 ∷ 255 ∷ []) ∷
    []

unfoldable pub plan : Plan
plan = record { accepts = accepts; nexts = nexts }

unfoldable pub waits : List Bool
waits =
    false ∷ false ∷ false ∷ false ∷ false ∷ false ∷ false ∷ false ∷ false ∷ false ∷ false ∷ false ∷ false ∷ false ∷
    false ∷ false ∷ false ∷ false ∷ false ∷ false ∷ false ∷ false ∷ false ∷
    []

unfoldable pub relation : List (List Configuration)
relation =
    (at 0 1 0 false 0 0 0 ∷ at 0 3 0 false 0 0 0 ∷ at 1 3 0 false 0 0 0 ∷ at 2 4 0 false 0 0 0 ∷ at 3 1 0 false 0 0 0 ∷ at 4 5 0 false 0 0 0 ∷ at 5 6 0 false 0 0 0 ∷ at 6 7 0 false 0 0 0 ∷ at 7 8 0 false 0 0 0 ∷ at 8 9 0 false 0 0 0 ∷ at 9 10 0 false 0 0 0 ∷ at 10 11 0 false 0 0 0 ∷ at 11 12 0 false 0 0 0 ∷ at 12 13 0 false 0 0 0 ∷ at 13 14 0 false 0 0 0 ∷ at 14 3 0 false 0 0 0 ∷ at 15 15 0 false 0 0 0 ∷ at 16 16 0 false 0 0 0 ∷ at 17 17 0 false 0 0 0 ∷ at 18 18 0 false 0 0 0 ∷ at 19 19 0 false 0 0 0 ∷ at 20 20 0 false 0 0 0 ∷ at 21 21 0 false 0 0 0 ∷ at 22 22 0 false 0 0 0 ∷ at 23 23 0 false 0 0 0 ∷ at 24 5 0 false 0 0 0 ∷ at 25 24 0 false 0 0 0 ∷ at 26 25 0 false 0 0 0 ∷ at 27 26 0 false 0 0 0 ∷ []) ∷
    (at 1 1 0 true 2 0 0 ∷ at 18 27 0 true 2 0 0 ∷ at 17 28 0 true 2 0 0 ∷ at 21 29 0 true 2 0 0 ∷ at 14 1 0 true 2 0 0 ∷ []) ∷
    (at 2 1 0 true 2 0 0 ∷ []) ∷ (at 3 1 0 true 2 0 0 ∷ []) ∷ (at 11 1 0 true 2 0 0 ∷ []) ∷
    (at 4 1 0 true 2 0 0 ∷ at 26 27 0 true 2 0 0 ∷ at 25 28 0 true 2 0 0 ∷ at 27 29 0 true 2 0 0 ∷ at 24 1 0 true 2 0 0 ∷ []) ∷
    (at 8 1 0 true 2 0 0 ∷ []) ∷ (at 19 1 0 true 2 0 0 ∷ []) ∷ (at 7 1 0 true 2 0 0 ∷ []) ∷ (at 16 1 0 true 2 0 0 ∷ []) ∷
    (at 9 1 0 true 2 0 0 ∷ []) ∷ (at 20 1 0 true 2 0 0 ∷ []) ∷ (at 6 1 0 true 2 0 0 ∷ []) ∷ (at 15 1 0 true 2 0 0 ∷ []) ∷
    (at 10 1 0 true 2 0 0 ∷ []) ∷ (at 22 1 0 true 2 0 0 ∷ []) ∷ (at 17 1 0 true 2 0 0 ∷ []) ∷
    (at 25 1 0 true 2 0 0 ∷ []) ∷ (at 5 1 0 true 2 0 0 ∷ at 12 1 0 true 2 0 0 ∷ []) ∷
    (at 13 1 0 true 2 0 0 ∷ at 23 1 0 true 2 0 0 ∷ []) ∷ (at 17 1 28 true 3 0 0 ∷ at 25 1 28 true 3 0 0 ∷ []) ∷
    (at 18 1 27 true 3 0 0 ∷ at 26 1 27 true 3 0 0 ∷ []) ∷ (at 21 1 29 true 3 0 0 ∷ at 27 1 29 true 3 0 0 ∷ []) ∷
    []

pub rules-are : word_rules ≡ numbered_rules
unfolding bits_from pattern_of rows_of word_rows_above_marks word_rows_below_marks word_rules numbered_above numbered_below numbered_rules
rules-are = refl

befores-hold-0 : (ss : List Before) (rows : List (List ℕ)) (os : List ℕ) → befores_hold numbered_rules tables 21 ss rows os ≡ true
    → befores_hold numbered_rules tables 21 (befores_0 ss) (moves_0 rows) (owes_0 os) ≡ true
unfolding numbered_above numbered_below numbered_rules befores_0 moves_0 owes_0 befores moves owes dues reads tables once once_number once_flags flow no_flags is_full is_live moved unread moves_on put_on put onto begun owed_rows owed reading read_all read get same_flags same_lives same_pattern same_entries same_due moves_hold befores_hold reads_hold dues_hold append_dues all_below rows_below among ends entered goes_on each_goes configurations_hold configuration_holds relation_holds starts_hold
befores-hold-0 ss rows os h = h

befores-hold : befores_hold numbered_rules tables 21 befores moves owes ≡ true
unfolding befores moves owes befores_hold
befores-hold = befores-hold-0 _ _ _ refl

start-holds : same_before (at_start numbered_rules) (get no_before befores 0) ≡ true
unfolding numbered_above numbered_below numbered_rules befores_0 moves_0 owes_0 befores moves owes dues reads tables once once_number once_flags flow no_flags is_full is_live moved unread moves_on put_on put onto begun owed_rows owed reading read_all read get same_flags same_lives same_pattern same_entries same_due moves_hold befores_hold reads_hold dues_hold append_dues all_below rows_below among ends entered goes_on each_goes configurations_hold configuration_holds relation_holds starts_hold
start-holds = refl

dues-hold : dues_hold numbered_rules tables 21 (append_dues verdicts dues) reads ≡ true
unfolding numbered_above numbered_below numbered_rules befores_0 moves_0 owes_0 befores moves owes dues reads tables once once_number once_flags flow no_flags is_full is_live moved unread moves_on put_on put onto begun owed_rows owed reading read_all read get same_flags same_lives same_pattern same_entries same_due moves_hold befores_hold reads_hold dues_hold append_dues all_below rows_below among ends entered goes_on each_goes configurations_hold configuration_holds relation_holds starts_hold
dues-hold = refl

moves-below : once_number (length befores) (λ many. nat_lt 0 many && rows_below many moves) ≡ true
unfolding numbered_above numbered_below numbered_rules befores_0 moves_0 owes_0 befores moves owes dues reads tables once once_number once_flags flow no_flags is_full is_live moved unread moves_on put_on put onto begun owed_rows owed reading read_all read get same_flags same_lives same_pattern same_entries same_due moves_hold befores_hold reads_hold dues_hold append_dues all_below rows_below among ends entered goes_on each_goes configurations_hold configuration_holds relation_holds starts_hold
moves-below = refl

pub scans-hold : scans_hold numbered_rules tables plan relation ≡ true
unfolding numbered_above numbered_below numbered_rules befores_0 moves_0 owes_0 befores moves owes dues reads tables once once_number once_flags flow no_flags is_full is_live moved unread moves_on put_on put onto begun owed_rows owed reading read_all read get same_flags same_lives same_pattern same_entries same_due moves_hold befores_hold reads_hold dues_hold append_dues all_below rows_below among ends entered goes_on each_goes configurations_hold configuration_holds relation_holds starts_hold accepts nexts plan relation
scans-hold = refl

pub tables-hold : tables_hold numbered_rules 21 tables ≡ true
unfolding tables
tables-hold = and_from _ _ start-holds (and_from _ _ befores-hold (and_from _ _ dues-hold moves-below))
